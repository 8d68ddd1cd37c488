-- The best version of a list: by parts, by what the test says of the versions there, and where it stands.
use Rattle.std.specs.Prelude.{ℕ, Bool, true, false, cond, ◌⊎◌, ◌≡◌}
use mathlib.Core.List.Memᴰ
use mathlib.Core.List.{List, [], ◌∷◌, ◌++◌, Memᴰ}
use Rattle.std.proofs.Common.{inl, inr, sym, ◌∙◌}
use Rattle.std.proofs.Math.Logic.{⊎_elim}
use Rattle.std.specs.Prelude.{Option, None, Some}
use Rattle.std.proofs.Math.Path.{refl, ap}
use Rattle.slices.specs.Logic.{absurd_numbers, either}
use Rattle.identifier.specs.Texts.{less}
use Rattle.identifier.specs.Order.{less_asymmetric, less_irreflexive, less_transitive, not_less_transitive}
use Rattle.identifier.specs.Identity.{Identity}
use Rattle.current_version.specs.Current.{Placed, Version, version_of, filtered, better, best}

-- ---- the better of two

abbrev pub ulid_of : Version → List ℕ
ulid_of v = v.identifier.ulid

pub no_version : {C : Type 0} {v : Version} → None ≡ Some v → C
no_version e = absurd_numbers (cc)

pub same_version : {v w : Version} → Some v ≡ Some w → v ≡ w
same_version e = cc

better_none : (a : Option Version) → better a None ≡ a
unfolding better
better_none None = refl
better_none (Some v) = refl

pub better_associative : (a b c : Option Version) → better (better a b) c ≡ better a (better b c)
unfolding better
better_associative None b c = refl
better_associative (Some u) None c = refl
better_associative (Some u) (Some v) None = better_none (cond (less (ulid_of u) (ulid_of v)) (Some v) (Some u))
better_associative (Some u) (Some v) (Some w) = go (either (less (ulid_of u) (ulid_of v))) (either (less (ulid_of v) (ulid_of w)))
  where
    go : (less (ulid_of u) (ulid_of v) ≡ true) ⊎ (less (ulid_of u) (ulid_of v) ≡ false) → (less (ulid_of v) (ulid_of w) ≡ true) ⊎ (less (ulid_of v) (ulid_of w) ≡ false)
        → better (cond (less (ulid_of u) (ulid_of v)) (Some v) (Some u)) (Some w) ≡ better (Some u) (cond (less (ulid_of v) (ulid_of w)) (Some w) (Some v))
    go (inl p) (inl q) = rw (p, q, less_transitive (ulid_of u) (ulid_of v) (ulid_of w) p q)
    go (inl p) (inr q) = simp (p, q)
    go (inr p) (inl q) = rw (p, q)
    go (inr p) (inr q) = rw (q, p, not_less_transitive (ulid_of u) (ulid_of v) (ulid_of w) p q)

-- ---- a version that passes the test

pub record Passes (test : Identity → Bool) (a : Option Version) (v : Version) : Type 0 where
  pub is : a ≡ Some v
  pub test_passed : test v.identifier ≡ true

pub filtered_some : (test : Identity → Bool) (a : Option Version) (v : Version) → filtered test a ≡ Some v → Passes test a v
unfolding filtered
filtered_some test None v e = no_version e
filtered_some test (Some w) v e = go (test w.identifier) refl e
  where
    go : (t : Bool) → test w.identifier ≡ t → cond t (Some w) None ≡ Some v → Passes test (Some w) v
    go true p f = record { is = f; test_passed = ap (λ (x : Version). test x.identifier) (sym (same_version f)) ∙ p }
    go false p f = no_version f

pub some_filtered : (test : Identity → Bool) (a : Option Version) (v : Version) → a ≡ Some v → test v.identifier ≡ true → filtered test a ≡ Some v
unfolding filtered
some_filtered test a v e p = rw (e, p)

filtered_same : (test test' : Identity → Bool) (a : Option Version)
    → ((v : Version) → a ≡ Some v → test v.identifier ≡ test' v.identifier) → filtered test a ≡ filtered test' a
unfolding filtered
filtered_same test test' None h = refl
filtered_same test test' (Some v) h = rw (h v refl)

-- ---- the best of a list

-- tests that agree on the versions there find the same
pub best_same : (test test' : Identity → Bool) (ps : List Placed)
    → ((p : Placed) (v : Version) → Memᴰ p ps → version_of p ≡ Some v → test v.identifier ≡ test' v.identifier) → best test ps ≡ best test' ps
unfolding best
best_same test test' [] h = refl
best_same test test' (p ∷ ps) h =
    rw (filtered_same test test' (version_of p) (λ v e. h p v (Memᴰ.head refl) e), best_same test test' ps (λ q v m e. h q v (Memᴰ.tail m) e))

pub best_end : (test : Identity → Bool) (all sofar : Option Version) → all ≡ better sofar (best test []) → all ≡ sofar
unfolding best
best_end test all sofar e = e ∙ better_none sofar

-- ---- where it stands, and how it compares

pub record Best (test : Identity → Bool) (ps : List Placed) (v : Version) : Type 0 where
  pub front : List Placed
  pub at : Placed
  pub back : List Placed
  pub cut : ps ≡ front ++ (at ∷ back)
  pub offers : Passes test (version_of at) v
  pub earlier : (p : Placed) (w : Version) → Memᴰ p front → Passes test (version_of p) w → less (ulid_of w) (ulid_of v) ≡ true
  pub later : (p : Placed) (w : Version) → Memᴰ p back → Passes test (version_of p) w → less (ulid_of v) (ulid_of w) ≡ false

module _ (test : Identity → Bool) where
  pub best_member : {ps : List Placed} {v : Version} (c : Best test ps v) → Memᴰ c.at ps
  best_member c = rw c.cut (Memᴰ.append_right c.front (Memᴰ.head refl))

  pub best_greatest : {ps : List Placed} {v : Version} → Best test ps v → (p : Placed) (w : Version) → Memᴰ p ps
      → Passes test (version_of p) w → less (ulid_of v) (ulid_of w) ≡ false
  best_greatest {v} c p w m h =
      ⊎_elim (λ n. less_asymmetric (ulid_of w) (ulid_of v) (c.earlier p w n h))
      (λ n. ⊎_elim (λ e. here e) (λ k. c.later p w k h) (Memᴰ.cases_cons n))
      (Memᴰ.append_cases c.front (rw c.cut at m))
    where
      here : p ≡ c.at → less (ulid_of v) (ulid_of w) ≡ false
      here e =
          let same : v ≡ w = same_version (sym c.offers.is ∙ ap version_of (sym e) ∙ h.is) in
          rw same (less_irreflexive (ulid_of w))
