-- Texts as lists of bytes: a byte looked for, two texts compared.
use Rattle.std.specs.Prelude.{ℕ, suc, ◌<◌, ◌≤◌, ◌≡◌, refl, Bool, true, false, cond, ◌&&◌, ◌||◌, List, [], ◌∷◌, ◌++◌, eqb, ltb, length, get_or, take, drop}
use Rattle.std.proofs.Common.{suc-le-suc, sym, ap, true≢false, le_refl, not-suc-le-zero, le_of_suc-le-suc, arith, eqb-true, eq-eqb}

-- x stands in the text
unfoldable pub member : ℕ → List ℕ → Bool
member x [] = false
member x (y ∷ s) = eqb y x || member x s

-- each byte passes the test
unfoldable pub all : (ℕ → Bool) → List ℕ → Bool
all p [] = true
all p (x ∷ s) = p x && all p s

-- what stands before the first x; the whole text where there is none
unfoldable pub before : ℕ → List ℕ → List ℕ
before x [] = []
before x (y ∷ s) = cond (eqb y x) [] (y ∷ before x s)

-- the first is less, compared as bytes: by the first byte in which they differ; a text is more than its front
unfoldable pub less : List ℕ → List ℕ → Bool
less [] [] = false
less [] (y ∷ t) = true
less (x ∷ s) [] = false
less (x ∷ s) (y ∷ t) = cond (eqb x y) (less s t) (ltb x y)

-- ---- the first x of a text

pub before_take : (x : ℕ) (s : List ℕ) → take (length (before x s)) s ≡ before x s
unfolding before
before_take x [] = refl
before_take x (y ∷ s) = go (eqb y x) (before_take x s)
  where
    go : (t : Bool) → take (length (before x s)) s ≡ before x s → take (length (cond t [] (y ∷ before x s))) (y ∷ s) ≡ cond t [] (y ∷ before x s)
    go true r = refl
    go false r = ap (λ l. y ∷ l) r

pub before_length : (x : ℕ) (s : List ℕ) → length (before x s) ≤ length s
unfolding before
before_length x [] = le_refl 0
before_length x (y ∷ s) = go (eqb y x) (before_length x s)
  where
    go : (t : Bool) → length (before x s) ≤ length s → length (cond t [] (y ∷ before x s)) ≤ suc (length s)
    go true r = omega arith
    go false r = suc-le-suc r

-- it holds none
pub before_member : (x : ℕ) (s : List ℕ) → member x (before x s) ≡ false
unfolding member before
before_member x [] = refl
before_member x (y ∷ s) = go (eqb y x) refl (before_member x s)
  where
    go : (t : Bool) → eqb y x ≡ t → member x (before x s) ≡ false → member x (cond t [] (y ∷ before x s)) ≡ false
    go true e r = refl
    go false e r = rw (e, r)

-- it is the whole text where there is none
pub before_none : (x : ℕ) (s : List ℕ) → member x s ≡ false → before x s ≡ s
unfolding member before
before_none x [] e = refl
before_none x (y ∷ s) e = go (eqb y x) e (before_none x s)
  where
    go : (t : Bool) → (t || member x s) ≡ false → (member x s ≡ false → before x s ≡ s) → cond t [] (y ∷ before x s) ≡ y ∷ s
    go true f r = absurd (true≢false f)
    go false f r = ap (λ l. y ∷ l) (r f)

-- where it is not the whole text, x follows it
pub before_split : (x : ℕ) (s : List ℕ) → length (before x s) < length s → s ≡ before x s ++ (x ∷ drop (suc (length (before x s))) s)
unfolding before
before_split x [] h = absurd (not-suc-le-zero h)
before_split x (y ∷ s) h = go (eqb y x) refl h (before_split x s)
  where
    go : (t : Bool) → eqb y x ≡ t → length (cond t [] (y ∷ before x s)) < suc (length s)
        → (length (before x s) < length s → s ≡ before x s ++ (x ∷ drop (suc (length (before x s))) s))
        → y ∷ s ≡ cond t [] (y ∷ before x s) ++ (x ∷ drop (suc (length (cond t [] (y ∷ before x s)))) (y ∷ s))
    go true e g r = ap (λ z. z ∷ s) (eqb-true y x e)
    go false e g r = ap (λ l. y ∷ l) (r (le_of_suc-le-suc g))

-- where the text holds x, it is not the whole text, and x stands at its end
pub before_found : (x : ℕ) (s : List ℕ) → member x s ≡ true → (length (before x s) < length s) × (get_or s (length (before x s)) 0 ≡ x)
unfolding member before
before_found x [] e = absurd (true≢false (sym e))
before_found x (y ∷ s) e = go (eqb y x) refl e (before_found x s)
  where
    go : (t : Bool) → eqb y x ≡ t → (t || member x s) ≡ true → (member x s ≡ true → (length (before x s) < length s) × (get_or s (length (before x s)) 0 ≡ x))
        → (length (cond t [] (y ∷ before x s)) < suc (length s)) × (get_or (y ∷ s) (length (cond t [] (y ∷ before x s))) 0 ≡ x)
    go true f m r = (omega arith, eqb-true y x f)
    go false f m r = (suc-le-suc (r m).0, (r m).1)

pub before_append : (x : ℕ) (b o : List ℕ) → member x b ≡ false → before x (b ++ (x ∷ o)) ≡ b
unfolding member before
before_append x [] o e = rw (eq-eqb x x refl)
before_append x (y ∷ b) o e = go (eqb y x) e (before_append x b o)
  where
    go : (t : Bool) → (t || member x b) ≡ false → (member x b ≡ false → before x (b ++ (x ∷ o)) ≡ b) → cond t [] (y ∷ before x (b ++ (x ∷ o))) ≡ y ∷ b
    go true f r = absurd (true≢false f)
    go false f r = ap (λ l. y ∷ l) (r f)
