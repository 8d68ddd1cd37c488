-- A text written over a buffer part after part is the whole text written over it.
use Prim.Native.Nat.{ℕ, suc, ◌+◌, ◌<◌, ◌≤◌}
use mathlib.Core.Path.{◌≡◌, ap, sym, ◌∙◌}
use mathlib.Core.List.{List, [], ◌∷◌, ◌++◌, append_assoc}
use native.Mathlib.Omega.{arith}
use lib.ListN.{length, get_or, take, drop, set, length-append}
use lib.Seq.{drop-cons, set_at, length-take-le}
use Rattle.slices.specs.Overwriting.{overwritten, overwritten_more}
use Rattle.identifier.specs.Identity.{slash, identity}
use Rattle.identifier.specs.Composite.{colon, composite_text}

module _ (out : List ℕ) (at : ℕ) (s : List ℕ) where
  front : at ≤ length out → length (take at out ++ s) ≡ at + length s
  front h = length-append (take at out) s ∙ ap (λ n. n + length s) (length-take-le at out h)

  -- a byte written where the text ended
  pub overwritten_set : (x m : ℕ) → m ≡ at + length s → m < length out → set (overwritten out at s) m x ≡ overwritten out at (s ++ (x ∷ []))
  unfolding overwritten
  overwritten_set x m e h =
      let p : List ℕ = take at out ++ s in
      let n : length p ≡ m = front (omega arith) ∙ sym e in
      let c : drop (at + length s) out ≡ get_or out m 0 ∷ drop (suc m) out = ap (λ k. drop k out) (sym e) ∙ drop-cons out m 0 h in
      let k : at + length (s ++ (x ∷ [])) ≡ suc m = omega (arith, length-append s (x ∷ []), e) in
      rw (c, set_at p (get_or out m 0) (drop (suc m) out) x m n, k) (simp append_assoc)

  -- a text written there
  pub overwritten_append : (t : List ℕ) (m : ℕ) → m ≡ at + length s → m + length t ≤ length out → overwritten (overwritten out at s) m t ≡ overwritten out at (s ++ t)
  overwritten_append t m e h = rw e (overwritten_more out at s t (omega arith))

-- the three texts with colon and slash between them, as the code puts them
module _ (out : List ℕ) (at : ℕ) (u b o l₁ l₂ l₃ : List ℕ)
    (ulid : length u ≡ 26) (room : at + (28 + length b + length o) ≤ length out)
    (put₁ : l₁ ≡ overwritten out at u)
    (put₂ : l₂ ≡ overwritten (set l₁ (at + 26) colon) (at + 26 + 1) b)
    (put₃ : l₃ ≡ overwritten (set l₂ (at + 27 + length b) slash) (at + 27 + length b + 1) o) where
  colon_put : set l₁ (at + 26) colon ≡ overwritten out at (u ++ (colon ∷ []))
  colon_put = ap (λ l. set l (at + 26) colon) put₁ ∙ overwritten_set out at u colon (at + 26) (omega arith) (omega arith)

  bucket_put : l₂ ≡ overwritten out at (u ++ (colon ∷ []) ++ b)
  bucket_put =
      put₂
      ∙ ap (λ l. overwritten l (at + 26 + 1) b) colon_put
      ∙ overwritten_append out at (u ++ (colon ∷ [])) b (at + 26 + 1) (omega (arith, length-append u (colon ∷ []))) (omega arith)

  slash_put : set l₂ (at + 27 + length b) slash ≡ overwritten out at (u ++ (colon ∷ []) ++ b ++ (slash ∷ []))
  slash_put =
      ap (λ l. set l (at + 27 + length b) slash) bucket_put
      ∙ overwritten_set out at (u ++ (colon ∷ []) ++ b) slash (at + 27 + length b) (omega (arith, length-append (u ++ (colon ∷ [])) b, length-append u (colon ∷ []))) (omega arith)

  pub composite_put : l₃ ≡ overwritten out at (composite_text (identity u b o))
  unfolding composite_text
  composite_put =
      put₃
      ∙ ap (λ l. overwritten l (at + 27 + length b + 1) o) slash_put
      ∙ overwritten_append out at (u ++ (colon ∷ []) ++ b ++ (slash ∷ [])) o (at + 27 + length b + 1) (omega (arith, length-append (u ++ (colon ∷ []) ++ b) (slash ∷ []), length-append (u ++ (colon ∷ [])) b, length-append u (colon ∷ []))) (omega arith)
      ∙ ap (overwritten out at) (simp append_assoc)
