-- What a buffer holds once something was written at a place of it: every other element is kept.
use Rattle.std.specs.Prelude.{ℕ, ◌+◌, ◌-◌, ◌≤◌, cond, List, [], ◌++◌, ◌≡◌, leb}
use Rattle.std.proofs.Common.{append_assoc, append-nil, sym, ◌∙◌, add-zero, le-leb, length-drop, take-append-drop, length-take-le, drop_at}
use Rattle.std.proofs.Math.Path.{ap}
use native.Mathlib.Omega.{arith}
use Rattle.std.proofs.Math.ListN.{length, take, drop, length-append}
use Rattle.std.proofs.Math.Seq.{take_at, take-append_seam, drop-append-add, drop-drop}

-- s with t in place of what stood from `at` on
unfoldable pub overwritten : {A : Type 0} → List A → ℕ → List A → List A
overwritten s at t = take at s ++ t ++ drop (at + length t) s

-- what a write of t leaves: s as it was, where t does not lie within
unfoldable pub written_bytes : {A : Type 0} → List A → ℕ → List A → List A
written_bytes s at t = cond (leb (at + length t) (length s)) (overwritten s at t) s

module _ {A : Type 0} (s : List A) (at : ℕ) (t : List A) (fits : at + length t ≤ length s) where
  front_length : length (take at s) ≡ at
  front_length = length-take-le at s (omega arith)

  pub written_within : written_bytes s at t ≡ overwritten s at t
  unfolding written_bytes
  written_within = rw (le-leb (at + length t) (length s) fits)

  pub length_overwritten : length (overwritten s at t) ≡ length s
  unfolding overwritten
  length_overwritten = rw (length-append, length-append, front_length, length-drop) (omega arith)

  pub take_overwritten : take (at + length t) (overwritten s at t) ≡ take at s ++ t
  unfolding overwritten
  take_overwritten = take_at (take at s ++ t) (drop (at + length t) s) (at + length t) (rw (length-append, front_length))

  -- what was written stands there
  pub overwritten_there : take (length t) (drop at (overwritten s at t)) ≡ t
  unfolding overwritten
  overwritten_there =
      ap (λ l. take (length t) (drop at l)) (append_assoc (take at s) t (drop (at + length t) s))
      ∙ ap (take (length t)) (drop_at (take at s) (t ++ drop (at + length t) s) at front_length)
      ∙ take-append_seam t (drop (at + length t) s)

  pub drop_overwritten : (n : ℕ) → at + length t ≤ n → drop n (overwritten s at t) ≡ drop n s
  unfolding overwritten
  drop_overwritten n h =
      let l : length (take at s ++ t) + (n - (at + length t)) ≡ n = rw (length-append, front_length) (omega arith) in
      let m : at + length t + (n - (at + length t)) ≡ n = omega arith in
      ap (λ (k : ℕ). drop k (take at s ++ t ++ drop (at + length t) s)) (sym l)
      ∙ drop-append-add (take at s ++ t) (drop (at + length t) s) (n - (at + length t))
      ∙ drop-drop (n - (at + length t)) (at + length t) s
      ∙ ap (λ (k : ℕ). drop k s) m

pub none_overwritten : {A : Type 0} (s : List A) (at : ℕ) → overwritten s at [] ≡ s
unfolding overwritten
none_overwritten s at = rw (append-nil, add-zero) (take-append-drop at s)

overwrite_after : {A : Type 0} (x s : List A) (at : ℕ) (t u : List A) → take (at + length t) x ≡ take at s ++ t
    → drop (at + length t + length u) x ≡ drop (at + length t + length u) s
    → overwritten x (at + length t) u ≡ overwritten s at (t ++ u)
unfolding overwritten
overwrite_after x s at t u p q =
    let n : at + length (t ++ u) ≡ at + length t + length u = rw length-append (omega arith) in
    rw (p, q, n) (simp append_assoc)

-- one text after the other
pub overwritten_more : {A : Type 0} (s : List A) (at : ℕ) (t u : List A) → at + length t + length u ≤ length s
    → overwritten (overwritten s at t) (at + length t) u ≡ overwritten s at (t ++ u)
overwritten_more s at t u fits =
    overwrite_after (overwritten s at t) s at t u (take_overwritten s at t (omega arith))
    (drop_overwritten s at t (omega arith) (at + length t + length u) (omega arith))
