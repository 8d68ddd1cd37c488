-- A rule for every number below a bound, from one computation over all of them.
use Rattle.std.specs.Prelude.{ℕ, zero, suc, ◌+◌, ◌<◌, List, [], ◌∷◌, ◌≡◌, get_or}
use Rattle.std.proofs.Common.{ap, sym, ◌∙◌, add-zero, zero-add, add-suc, suc-add, le_of_suc-le-suc, not-suc-le-zero}

module _ {A : Type 0} where
  -- f i, f (i + 1), …: n of them
  abbrev pub values : (ℕ → A) → ℕ → ℕ → List A
  values f i zero = []
  values f i (suc n) = f i ∷ values f (suc i) n

  values_from : (f : ℕ → A) (d : A) (n i k : ℕ) → k < n → get_or (values f i n) k d ≡ f (i + k)
  values_from f d zero i k h = absurd (not-suc-le-zero h)
  values_from f d (suc n) i zero h = ap f (sym (add-zero i))
  values_from f d (suc n) i (suc k) h = values_from f d n (suc i) k (le_of_suc-le-suc h) ∙ ap f (suc-add i k ∙ sym (add-suc i k))

  value_at_lem : (f : ℕ → A) (d : A) (n k : ℕ) → k < n → get_or (values f 0 n) k d ≡ f k
  value_at_lem f d n k h = values_from f d n 0 k h ∙ ap f (zero-add k)

  -- two functions with the same values below n, which antt computes, agree at each number below n
  pub agree : (f g : ℕ → A) (n : ℕ) → values f 0 n ≡ values g 0 n → (k : ℕ) → k < n → f k ≡ g k
  agree f g n e k h = sym (value_at_lem f (f 0) n k h) ∙ ap (λ l. get_or l k (f 0)) e ∙ value_at_lem g (f 0) n k h
