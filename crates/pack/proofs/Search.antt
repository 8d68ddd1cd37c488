-- The search by a value's hash answers so exactly then: the theorems on `first`.
use Prim.Native.Nat.{ℕ, zero, suc, ◌+◌, ◌≤◌, ◌<◌}
use Rattle.std.specs.Prelude.{Bool, cond, ◌↔◌, ◌≡◌}
use Rattle.std.proofs.Math.Bool.{true, false}
use Rattle.std.proofs.Common.{List, length, sym, ap, ◌∙◌, arith, eqb-true}
use Rattle.std.specs.Prelude.{Option, None, Some}
use Rattle.std.proofs.Math.Path.{refl}
use Rattle.std.proofs.lemmas.Bool.{eqb-false}
use Rattle.std.proofs.Math.Dec.{eqb}
use Rattle.slices.specs.Logic.{absurd_numbers}
use Rattle.std.specs.List.{AllWithin, HoldsAt}
use Rattle.std.specs.Option.{MatchOption}
use Rattle.pack.specs.declared.Entry.{Entry}
use Rattle.pack.specs.Scan.{no_entry}
use Rattle.pack.specs.Search.{first, First, Absent, hash_at, first_with}

-- ---- the search answers so exactly then

module _ (f : ℕ → ℕ) (n : ℕ) where
  -- what an answer of the search among so many places from `at` on says
  record Told (at k : ℕ) (o : Option ℕ) : Type 0 where
    pub at_place : (p : ℕ) → o ≡ Some p → (at ≤ p) × (p < at + k) × (f p ≡ n) × ((j : ℕ) → at ≤ j → j < p → f j ≡ n → ⊥)
    pub nowhere : o ≡ None → (j : ℕ) → at ≤ j → j < at + k → f j ≡ n → ⊥

  same_place : (p q : ℕ) → Some p ≡ Some q → p ≡ q
  same_place p q e = cc

  told_none : (at : ℕ) → Told at 0 None
  told_none at = record { at_place = λ p e. absurd_numbers (cc); nowhere = λ e j l m. absurd (omega arith) }

  told_here : (at k : ℕ) → f at ≡ n → Told at (suc k) (Some at)
  told_here at k has = record {
    at_place = λ p e. let same : at ≡ p = same_place at p e in (omega arith, omega arith, rw (← same) has, λ j l m. absurd (omega arith));
    nowhere = λ e. absurd_numbers (cc);
  }

  told_later : (at k : ℕ) (o : Option ℕ) → (f at ≡ n → ⊥) → Told (suc at) k o → Told at (suc k) o
  told_later at k o differs t = record {
    at_place = λ p e. let r = t.at_place p e in (omega (arith, r.0), omega (arith, r.1), r.2, λ j l m. from j l (λ l'. r.3 j l' m));
    nowhere = λ e j l m. from j l (λ l'. t.nowhere e j l' (omega arith));
  }
    where
      from : (j : ℕ) → at ≤ j → (suc at ≤ j → f j ≡ n → ⊥) → f j ≡ n → ⊥
      from j l later h = go (eqb at j) refl
        where
          go : (t : Bool) → eqb at j ≡ t → ⊥
          go true e = differs (ap f (eqb-true at j e) ∙ h)
          go false e = later (omega (arith, eqb-false at j e)) h

  told : (k at : ℕ) → Told at k (first f n at k)
  unfolding first
  told zero at = told_none at
  told (suc k) at = go (eqb (f at) n) refl (told k (suc at))
    where
      go : (t : Bool) → eqb (f at) n ≡ t → Told (suc at) k (first f n (suc at) k) → Told at (suc k) (cond t (Some at) (first f n (suc at) k))
      go true e later = told_here at k (eqb-true (f at) n e)
      go false e later = told_later at k (first f n (suc at) k) (eqb-false (f at) n e) later

  module _ (count : ℕ) where
    answer : Told 0 count (first f n 0 count)
    answer = told count 0

    first_some : (k : ℕ) → first f n 0 count ≡ Some k → First f n count k
    first_some k e = let r = answer.at_place k e in record { inside = omega (arith, r.1); has = r.2; none_before = λ j l. r.3 j (omega arith) l }

    first_none : first f n 0 count ≡ None → Absent f n count
    first_none e j l = answer.nowhere e j (omega arith) (omega arith)

    some_first : (k : ℕ) → First f n count k → first f n 0 count ≡ Some k
    some_first k a = go (first f n 0 count) refl
      where
        go : (o : Option ℕ) → first f n 0 count ≡ o → first f n 0 count ≡ Some k
        go None e = absurd (first_none e k a.inside a.has)
        go (Some p) e =
            let r = first_some p e in
            let not_less : p < k → ⊥ = λ l. a.none_before p l r.has in
            let not_more : k < p → ⊥ = λ l. r.none_before k l a.has in
            let same : p ≡ k = omega arith in
            e ∙ ap Some same

    none_first : Absent f n count → first f n 0 count ≡ None
    none_first a = go (first f n 0 count) refl
      where
        go : (o : Option ℕ) → first f n 0 count ≡ o → first f n 0 count ≡ None
        go None e = e
        go (Some p) e = let r = first_some p e in absurd (a p r.inside r.has)

    -- THE THEOREMS
    pub first_exactly : (k : ℕ) → (first f n 0 count ≡ Some k) ↔ First f n count k
    first_exactly k = (first_some k, some_first k)

    pub absent_exactly : (first f n 0 count ≡ None) ↔ Absent f n count
    absent_exactly = (first_none, none_first)

-- ---- the library's `position` answers the same

pub position_is : (n : ℕ) (es : List Entry) (r : Option ℕ)
    → MatchOption r (AllWithin (λ e. e.hash ≡ n → ⊥) es 0 (length es))
    (λ i. (i < length es) × HoldsAt (λ e. e.hash ≡ n) es i × AllWithin (λ e. e.hash ≡ n → ⊥) es 0 i)
    → r ≡ first_with n es
position_is n es None h = sym (none_first (hash_at es) n (length es) (λ j l e. h j no_entry (omega arith) l e))
position_is n es (Some i) h = sym (some_first (hash_at es) n (length es) i (record {
  inside = h.0;
  has = h.1 no_entry;
  none_before = λ j l e. h.2 j no_entry (omega arith) l e;
}))
