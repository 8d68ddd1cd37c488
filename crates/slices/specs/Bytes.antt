-- Lists whose elements are bytes, and two lists compared byte by byte.
use Rattle.std.specs.Prelude.{ℕ, zero, suc, ◌+◌, ◌<◌, ◌≡◌, refl, Bool, true, false, cond, ◌↔◌, eqb, take, drop, get_or}
use Rattle.std.proofs.Common.{sym, true≢false, arith, eqb-true, eq-eqb, get_or-drop}
use mathlib.Core.List.{List, [], ◌∷◌, ◌++◌, reverse, reverse-cons}

-- each element is below 256; past the end `get_or` gives 0, so no bound on the index is wanted
pub record AllBytes (s : List ℕ) : Type 0 where
  pub below : (k : ℕ) → get_or s k 0 < 256

pub none_bytes : AllBytes []
none_bytes = record { below = λ k. omega arith }

pub tail_bytes : {b : ℕ} {s : List ℕ} → AllBytes (b ∷ s) → AllBytes s
tail_bytes h = record { below = λ k. h.below (suc k) }

pub cons_bytes : {b : ℕ} {s : List ℕ} → b < 256 → AllBytes s → AllBytes (b ∷ s)
cons_bytes h t = record { below = elim [ zero ↦ h | suc k ↦ t.below k ] }

pub append_bytes : (s : List ℕ) {t : List ℕ} → AllBytes s → AllBytes t → AllBytes (s ++ t)
append_bytes [] h g = g
append_bytes (b ∷ s) h g = cons_bytes (h.below 0) (append_bytes s (tail_bytes h) g)

pub drop_bytes : (n : ℕ) {s : List ℕ} → AllBytes s → AllBytes (drop n s)
drop_bytes n h = record { below = λ k. rw get_or-drop (h.below (n + k)) }

pub take_bytes : (n : ℕ) (s : List ℕ) → AllBytes s → AllBytes (take n s)
take_bytes zero s h = none_bytes
take_bytes (suc n) [] h = none_bytes
take_bytes (suc n) (b ∷ s) h = cons_bytes (h.below 0) (take_bytes n s (tail_bytes h))

pub reverse_bytes : (s : List ℕ) → AllBytes s → AllBytes (reverse s)
reverse_bytes [] h = none_bytes
reverse_bytes (b ∷ s) h =
    rw reverse-cons (append_bytes (reverse s) (reverse_bytes s (tail_bytes h)) (cons_bytes (h.below 0) none_bytes))

-- ---- compared

unfoldable pub same_bytes : List ℕ → List ℕ → Bool
same_bytes [] [] = true
same_bytes [] (y ∷ t) = false
same_bytes (x ∷ s) [] = false
same_bytes (x ∷ s) (y ∷ t) = cond (eqb x y) (same_bytes s t) false

pub same_bytes_refl : (s : List ℕ) → same_bytes s s ≡ true
unfolding same_bytes
same_bytes_refl [] = refl
same_bytes_refl (x ∷ s) = rw (eq-eqb x x refl) (same_bytes_refl s)

pub same_bytes_equal : (s t : List ℕ) → same_bytes s t ≡ true → s ≡ t
unfolding same_bytes
same_bytes_equal [] [] e = refl
same_bytes_equal [] (y ∷ t) e = absurd (true≢false (sym e))
same_bytes_equal (x ∷ s) [] e = absurd (true≢false (sym e))
same_bytes_equal (x ∷ s) (y ∷ t) e = go (eqb x y) refl e (same_bytes_equal s t)
  where
    go : (l : Bool) → eqb x y ≡ l → cond l (same_bytes s t) false ≡ true → (same_bytes s t ≡ true → s ≡ t) → x ∷ s ≡ y ∷ t
    go true e f r = rw (eqb-true x y e, r f)
    go false e f r = absurd (true≢false (sym f))

-- the comparison is equality
pub same_bytes_iff : (s t : List ℕ) → same_bytes s t ≡ true ↔ s ≡ t
same_bytes_iff s t = (same_bytes_equal s t, λ e. rw (← e) (same_bytes_refl s))
