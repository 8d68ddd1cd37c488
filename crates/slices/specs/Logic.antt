-- Laws of tests, and of what cannot be.
use Rattle.std.specs.Prelude.{ℕ, ◌+◌, ◌-◌, ◌≤◌, Bool, true, false, ◌&&◌, ◌||◌, ◌⊎◌, ◌≡◌, refl, leb}
use Rattle.std.proofs.Common.{true≢false, inl, inr, sym, ◌∙◌, arith, le-leb, leb-true, leb-false}
use Rattle.std.proofs.lemmas.Bool.{lt-leb}

-- ---- what cannot be

-- `cc` shows that two constructors differ as `0 ≡ 1`; from there anything follows
pub absurd_numbers : {A : Type 0} → ◌≡◌ {A = ℕ} 0 1 → A
absurd_numbers z = absurd (omega arith)

pub clash : {C : Type 0} {t : Bool} → t ≡ true → t ≡ false → C
clash p q = absurd (true≢false (sym p ∙ q))

-- ---- tests

pub either : (t : Bool) → (t ≡ true) ⊎ (t ≡ false)
either true = inl refl
either false = inr refl

pub not_so : (t : Bool) → (t ≡ true → ⊥) → t ≡ false
not_so true h = absurd (h refl)
not_so false h = refl

pub both : (a b : Bool) → (a && b) ≡ true → (a ≡ true) × (b ≡ true)
both true b e = (refl, e)
both false b e = absurd (true≢false (sym e))

pub or_false : (a : Bool) → (a || false) ≡ a
or_false true = refl
or_false false = refl

pub or_assoc : (a b c : Bool) → ((a || b) || c) ≡ (a || (b || c))
or_assoc true b c = refl
or_assoc false b c = refl

pub neither_so : (a b : Bool) → (a || b) ≡ false → (a ≡ false) × (b ≡ false)
neither_so true b e = absurd (true≢false e)
neither_so false b e = (refl, e)

-- a test that adds, by one that subtracts
pub leb_shift : (a b c : ℕ) → a ≤ c → leb b (c - a) ≡ leb (a + b) c
leb_shift a b c h = go (leb (a + b) c) refl
  where
    go : (t : Bool) → leb (a + b) c ≡ t → leb b (c - a) ≡ leb (a + b) c
    go true e = le-leb b (c - a) (omega (arith, leb-true (a + b) c e)) ∙ sym e
    go false e = lt-leb b (c - a) (omega (arith, leb-false (a + b) c e)) ∙ sym e
