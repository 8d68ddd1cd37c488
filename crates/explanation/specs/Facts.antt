-- The reasons, said without a computation: what each line states holds in the pack, and no other line would.
use Rattle.std.specs.Prelude.{ℕ, ◌≤◌, ◌<◌, Bool, ◌↔◌, ◌≡◌}
use Rattle.std.proofs.Math.Bool.{true, false, cond}
use mathlib.Core.List.Memᴰ
use mathlib.Core.List.{List, [], ◌∷◌, Memᴰ}
use Rattle.std.proofs.Math.Logic.{⊎_elim}
use Rattle.std.specs.Prelude.{Option, None, Some}
use Rattle.std.proofs.Math.Path.{refl, ap}
use Rattle.std.proofs.Common.{subst, ◌∙◌, arith}
use Rattle.slices.specs.Logic.{absurd_numbers, clash}
use Rattle.identifier.specs.Texts.{less}
use Rattle.identifier.specs.Identity.{Identity}
use Rattle.current_version.specs.Current.{Role, version, deletion, other, unreadable, Placed, Version, version_by, version_of}
use Rattle.current_version.specs.Best.{ulid_of}
use Rattle.current_version.specs.Exactly.{Kept}
use Rattle.explanation.specs.Reasons.{Reason, current, current_marker, older, repeated, removed, first_where}
use Rattle.explanation.specs.Starts.{Rising}

-- ---- the account

-- of the records whose role is such, the earliest starts at this place
pub record Earliest (ps : List Placed) (Is : Role → Type 0) (place : ℕ) : Type 0 where
  pub at : Placed
  pub there : Memᴰ at ps
  pub is : Is at.role
  pub stands : at.start ≡ place
  pub earliest : (q : Placed) → Memᴰ q ps → Is q.role → place ≤ q.start

abbrev pub Deletes : Identity → Role → Type 0
Deletes i r = r ≡ deletion i

abbrev pub Holds : Identity → Role → Type 0
Holds i r = (delete_flag : Bool) × (r ≡ version i delete_flag)

-- what a reason says of a version, with its precedence; `Found c`: the lookup finds c
abbrev pub Says : List Placed → (Version → Type 0) → Version → Reason → Type 0
Says ps Found v current = Found v × (v.delete_flag ≡ false)
Says ps Found v current_marker = Found v × (v.delete_flag ≡ true)
Says ps Found v (older c) = Kept ps v.identifier × (Earliest ps (Holds v.identifier) v.start × (Found c × (less (ulid_of v) (ulid_of c) ≡ true)))
Says ps Found v (repeated place) = Kept ps v.identifier × (Earliest ps (Holds v.identifier) place × (place < v.start))
Says ps Found v (removed place) = Earliest ps (Deletes v.identifier) place

-- p is a version record of the name; v is what it tells
pub record OfName (ps : List Placed) (bucket object : List ℕ) (p : Placed) (v : Version) : Type 0 where
  pub there : Memᴰ p ps
  pub tells : version_of p ≡ Some v
  pub in_bucket : v.identifier.bucket ≡ bucket
  pub is_object_lem : v.identifier.object ≡ object

-- ---- tests and what they test

module _ (test : Role → Bool) (Is : Role → Type 0) (tests : (r : Role) → test r ≡ true ↔ Is r) where
  pub none_such : (ps : List Placed) → first_where test ps ≡ None → (q : Placed) → Memᴰ q ps → Is q.role → ⊥
  unfolding first_where
  none_such [] e q m is = Memᴰ.not-nil m
  none_such (p ∷ ps) e q m is = go (test p.role) refl e (λ h n. none_such ps h q n is)
    where
      go : (t : Bool) → test p.role ≡ t → cond t (Some p.start) (first_where test ps) ≡ None → (first_where test ps ≡ None → Memᴰ q ps → ⊥) → ⊥
      go true h f rest = absurd_numbers (cc)
      go false h f rest = ⊎_elim (λ same. clash ((tests p.role).1 (subst (λ (x : Placed). Is x.role) same is)) h) (rest f) (Memᴰ.cases_cons m)

  pub such_first : (ps : List Placed) → Rising ps → (place : ℕ) → first_where test ps ≡ Some place → Earliest ps Is place
  unfolding first_where
  such_first [] rises place e = absurd_numbers (cc)
  such_first (p ∷ ps) rises place e = go (test p.role) refl e (λ h. such_first ps rises.1 place h)
    where
      go : (t : Bool) → test p.role ≡ t → cond t (Some p.start) (first_where test ps) ≡ Some place
          → (first_where test ps ≡ Some place → Earliest ps Is place) → Earliest (p ∷ ps) Is place
      go true h f rest =
          let here : p.start ≡ place = cc in
          record {
            at = p;
            there = Memᴰ.head refl;
            is = (tests p.role).0 h;
            stands = here;
            earliest = λ q m is.
                ⊎_elim (λ same. let there : q.start ≡ p.start = ap (λ (x : Placed). x.start) same in omega arith)
                (λ n. omega (arith, rises.0 q n)) (Memᴰ.cases_cons m);
          }
      go false h f rest =
          let r = rest f in
          record {
            at = r.at;
            there = Memᴰ.tail r.there;
            is = r.is;
            stands = r.stands;
            earliest = λ q m is.
                ⊎_elim (λ same. clash ((tests p.role).1 (subst (λ (x : Placed). Is x.role) same is)) h) (λ n. r.earliest q n is) (Memᴰ.cases_cons m);
          }

  pub first_such : (ps : List Placed) → Rising ps → (place : ℕ) → Earliest ps Is place → first_where test ps ≡ Some place
  first_such ps rises place x = go (first_where test ps) refl
    where
      go : (o : Option ℕ) → first_where test ps ≡ o → first_where test ps ≡ Some place
      go None e = absurd (none_such ps e x.at x.there x.is)
      go (Some k) e =
          let y = such_first ps rises k e in
          let same : k ≡ place = omega (arith, x.stands, y.stands, x.earliest y.at y.there y.is, y.earliest x.at x.there x.is) in
          e ∙ ap Some same

  pub such_none : (ps : List Placed) → Rising ps → ((q : Placed) → Memᴰ q ps → Is q.role → ⊥) → first_where test ps ≡ None
  such_none ps rises h = go (first_where test ps) refl
    where
      go : (o : Option ℕ) → first_where test ps ≡ o → first_where test ps ≡ None
      go None e = e
      go (Some k) e = let y = such_first ps rises k e in absurd (h y.at y.there y.is)

-- ---- what a record tells

pub told_role : (p : Placed) (v : Version) → version_of p ≡ Some v → (p.role ≡ version v.identifier v.delete_flag) × (p.start ≡ v.start)
unfolding version_of
told_role p v e = go p.role refl e
  where
    go : (r : Role) → p.role ≡ r → version_by p.start p.value r ≡ Some v → (p.role ≡ version v.identifier v.delete_flag) × (p.start ≡ v.start)
    go (version i f) q h =
        let same : record { identifier = i; delete_flag = f; value = p.value; start = p.start } ≡ v = cc in
        (q ∙ ap (λ (x : Version). version x.identifier x.delete_flag) same, ap (λ (x : Version). x.start) same)
    go (deletion i) q h = absurd_numbers (cc)
    go other q h = absurd_numbers (cc)
    go (unreadable n) q h = absurd_numbers (cc)
