-- The order of texts as bytes, which is that of ULIDs, is a strict total order.
use Rattle.std.specs.Prelude.{ℕ, ◌<◌, ◌≡◌, refl, Bool, true, false, cond, List, [], ◌∷◌, ◌⊎◌, eqb, ltb}
use Rattle.std.proofs.Common.{sym, ap, subst, ◌∙◌, true≢false, inl, inr, ⊎_elim, arith, eqb-true, eq-eqb, ne_eqb, ltb-true, ltb-false, lt-ltb}
use Rattle.std.proofs.lemmas.Bool.{eqb-false}
use Rattle.slices.specs.Logic.{clash, not_so}
use Rattle.identifier.specs.Texts.{less}

pub less_irreflexive : (s : List ℕ) → less s s ≡ false
unfolding less
less_irreflexive [] = refl
less_irreflexive (x ∷ s) = rw (eq-eqb x x refl) (less_irreflexive s)

-- the two ways in which a text is less
pub data Lower (x y : ℕ) (s t : List ℕ) : Type 0 where
  first : x < y → Lower x y s t
  later : x ≡ y → less s t ≡ true → Lower x y s t

pub lower : (x y : ℕ) (s t : List ℕ) → less (x ∷ s) (y ∷ t) ≡ true → Lower x y s t
unfolding less
lower x y s t e = go (eqb x y) refl e
  where
    go : (b : Bool) → eqb x y ≡ b → cond b (less s t) (ltb x y) ≡ true → Lower x y s t
    go true f g = later (eqb-true x y f) g
    go false f g = first (ltb-true x y g)

less_first : (x y : ℕ) (s t : List ℕ) → x < y → less (x ∷ s) (y ∷ t) ≡ true
unfolding less
less_first x y s t h = let n : x ≡ y → ⊥ = λ e. omega arith in rw (ne_eqb x y n, lt-ltb x y h)

less_rest : (x y : ℕ) (s t : List ℕ) → x ≡ y → less s t ≡ true → less (x ∷ s) (y ∷ t) ≡ true
unfolding less
less_rest x y s t e h = rw (eq-eqb x y e) h

none_less : (t : List ℕ) → less t [] ≡ true → ⊥
unfolding less
none_less [] e = true≢false (sym e)
none_less (y ∷ t) e = true≢false (sym e)

pub less_transitive : (s t u : List ℕ) → less s t ≡ true → less t u ≡ true → less s u ≡ true
unfolding less
less_transitive [] t [] p q = absurd (none_less t q)
less_transitive [] t (z ∷ u) p q = refl
less_transitive (x ∷ s) [] u p q = absurd (true≢false (sym p))
less_transitive (x ∷ s) (y ∷ t) [] p q = absurd (true≢false (sym q))
less_transitive (x ∷ s) (y ∷ t) (z ∷ u) p q = join (lower x y s t p) (lower y z t u q) (less_transitive s t u)
  where
    join : Lower x y s t → Lower y z t u → (less s t ≡ true → less t u ≡ true → less s u ≡ true) → less (x ∷ s) (z ∷ u) ≡ true
    join (first h) (first g) r = less_first x z s u (omega arith)
    join (first h) (later e g) r = less_first x z s u (omega arith)
    join (later e h) (first g) r = less_first x z s u (omega arith)
    join (later e h) (later f g) r = less_rest x z s u (e ∙ f) (r h g)

-- of two texts one is less, or they are the same
pub less_total : (s t : List ℕ) → (less s t ≡ true) ⊎ (s ≡ t) ⊎ (less t s ≡ true)
unfolding less
less_total [] [] = inr (inl refl)
less_total [] (y ∷ t) = inl refl
less_total (x ∷ s) [] = inr (inr refl)
less_total (x ∷ s) (y ∷ t) = heads (eqb x y) (ltb x y) refl refl (less_total s t)
  where
    heads : (b d : Bool) → eqb x y ≡ b → ltb x y ≡ d → (less s t ≡ true) ⊎ (s ≡ t) ⊎ (less t s ≡ true)
        → (less (x ∷ s) (y ∷ t) ≡ true) ⊎ (x ∷ s ≡ y ∷ t) ⊎ (less (y ∷ t) (x ∷ s) ≡ true)
    heads true d e f r =
        ⊎_elim (λ h. inl (less_rest x y s t (eqb-true x y e) h))
        (⊎_elim (λ h. inr (inl (ap (λ z. z ∷ s) (eqb-true x y e) ∙ ap (λ l. y ∷ l) h))) (λ h. inr (inr (less_rest y x t s (sym (eqb-true x y e)) h))))
        r
    heads false true e f r = inl (less_first x y s t (ltb-true x y f))
    heads false false e f r =
        let n : x ≡ y → ⊥ = eqb-false x y e in
        let h : y < x = omega (arith, ltb-false x y f, n) in
        inr (inr (less_first y x t s h))

-- ---- where it says no

pub less_asymmetric : (s t : List ℕ) → less s t ≡ true → less t s ≡ false
less_asymmetric s t p = not_so (less t s) (λ q. clash (less_transitive s t s p q) (less_irreflexive s))

pub neither_less : (s t : List ℕ) → less s t ≡ false → less t s ≡ false → s ≡ t
neither_less s t p q = ⊎_elim (λ h. clash h p) (⊎_elim (λ e. e) (λ h. clash h q)) (less_total s t)

pub not_less_transitive : (s t u : List ℕ) → less s t ≡ false → less t u ≡ false → less s u ≡ false
not_less_transitive s t u p q =
    ⊎_elim (λ h. clash h p) (⊎_elim (λ e. subst (λ x. less x u ≡ false) (sym e) q) (λ h. not_so (less s u) (λ k. clash (less_transitive t s u h k) q)))
    (less_total s t)
