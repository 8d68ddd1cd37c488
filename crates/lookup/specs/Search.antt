-- How the current version is found: the greatest ULID of the name below a bound, or the greatest of those that may still be live, again and again, until
-- one is not deleted.
use Rattle.std.specs.Prelude.{ℕ, ◌+◌, ◌≤◌, ◌<◌, Bool, cond, ◌&&◌, ◌||◌, ◌⊎◌, ◌≡◌, eqb, ltb, drop}
use Rattle.std.proofs.Math.Bool.{true, false, not, and-true, and-false}
use Rattle.std.proofs.Common.{true≢false, sym, subst, ◌∙◌}
use mathlib.Core.List.Memᴰ
use mathlib.Core.List.{List, [], ◌∷◌, Memᴰ}
use Rattle.std.proofs.Math.Logic.{⊎_elim}
use Rattle.std.specs.Prelude.{Option, None, Some}
use Rattle.std.proofs.Math.Path.{refl, ap}
use native.Mathlib.Omega.{arith}
use borrow.Author.Tests.{lt-ltb, ltb-true, eqb-true, ne_eqb, not-true}
use Rattle.slices.specs.Bytes.{same_bytes}
use Rattle.slices.specs.Logic.{either, clash, not_so, both, neither_so}
use Rattle.pack.specs.Reading.{records}
use Rattle.identifier.specs.Texts.{member, all, less}
use Rattle.identifier.specs.Order.{less_irreflexive, less_asymmetric, less_transitive, not_less_transitive}
use Rattle.identifier.specs.Ulid.{alphabet, is_character, is_ulid, ulid_written}
use Rattle.identifier.specs.Identity.{Identity, identity, same_identity, is_bucket, is_object, is_valid}
use Rattle.held_identifier.specs.Held.{has_name}
use Rattle.current_version.specs.Current.{Role, version, deletion, other, unreadable, Placed, value_of, placed, Version, version_of, filtered, better, best, deletes, is_deleted, is_live, current}
use Rattle.current_version.specs.Roles.{version_told, version_role}
use Rattle.current_version.specs.Best.{ulid_of, no_version, same_version, Passes, Best, best_member, best_greatest, best_same}
use Rattle.current_version.proofs.Best.{best_none, best_found, found_best, none_best}
use Rattle.current_version.specs.Exactly.{same_name, has_name_lem}
use Rattle.lookup_records.specs.Walk.{placed_from}

-- below a bound: of the versions of this name, deleted or not, the best; and the current one
unfoldable pub is_below : List ℕ → List ℕ → List ℕ → Identity → Bool
is_below bucket object bound i = has_name (Some i) bucket object && less i.ulid bound

unfoldable pub greatest_below : List Placed → List ℕ → List ℕ → List ℕ → Option Version
greatest_below ps bucket object bound = best (is_below bucket object bound) ps

unfoldable pub is_live_below : List Placed → List ℕ → List ℕ → List ℕ → Identity → Bool
is_live_below ps bucket object bound i = is_live ps bucket object i && less i.ulid bound

unfoldable pub current_below : List Placed → List ℕ → List ℕ → List ℕ → Option Version
current_below ps bucket object bound = best (is_live_below ps bucket object bound) ps

-- ---- the first bound: one byte, greater than every character of a ULID

abbrev pub first_bound : List ℕ
first_bound = 0x5b ∷ []  -- [

all_member : (test : ℕ → Bool) (l : List ℕ) (x : ℕ) → all test l ≡ true → member x l ≡ true → test x ≡ true
unfolding all member
all_member test [] x a m = absurd (true≢false (sym m))
all_member test (y ∷ l) x a m = go (eqb y x) refl m (both (test y) (all test l) a) (all_member test l x)
  where
    go : (t : Bool) → eqb y x ≡ t → (t || member x l) ≡ true → (test y ≡ true) × (all test l ≡ true)
        → (all test l ≡ true → member x l ≡ true → test x ≡ true) → test x ≡ true
    go true e n h rest = subst (λ z. test z ≡ true) (eqb-true y x e) h.0
    go false e n h rest = rest h.1 n

character_below : (x : ℕ) → is_character x ≡ true → x < 0x5b
unfolding is_character alphabet all
character_below x e = ltb-true x 0x5b (all_member (λ y. ltb y 0x5b) alphabet x refl e)

pub ulid_below : (u : List ℕ) → is_ulid u ≡ true → less u first_bound ≡ true
unfolding all less
ulid_below [] e = refl
ulid_below (x ∷ u) e =
    let c = character_below x (both (is_character x) (all is_character u) (ulid_written (x ∷ u) e).1).0 in
    let n : x ≡ 0x5b → ⊥ = λ q. omega arith in
    rw (ne_eqb x 0x5b n, lt-ltb x 0x5b c)

-- the ULIDs of the versions are such
abbrev pub AllUlids : List Placed → Type 0
AllUlids ps = (p : Placed) (v : Version) → Memᴰ p ps → version_of p ≡ Some v → is_ulid (ulid_of v) ≡ true

-- the versions of a pack are read, so their identifiers keep the rules
pub walk_ulids : (limit : ℕ) (s : List ℕ) (at : ℕ) → AllUlids (placed_from limit s at)
unfolding placed_from is_valid
walk_ulids limit s at p v m e =
    let o = Memᴰ.of_map (placed limit s) (records at 0 (drop at s)).entries m in
    let r = version_told limit o.0.start o.0.tag (value_of s o.0) v (ap version_of o.2 ∙ e) in
    let rules = (version_role limit o.0.tag (value_of s o.0) v.identifier v.delete_flag r).rules in
    (both (is_ulid (ulid_of v)) (is_bucket v.identifier.bucket)
    (both (is_ulid (ulid_of v) && is_bucket v.identifier.bucket) (is_object v.identifier.object) rules).0).0

pub search_start : (ps : List Placed) (bucket object : List ℕ) → AllUlids ps → current ps bucket object ≡ current_below ps bucket object first_bound
unfolding current current_below is_live_below
search_start ps bucket object ulids =
    best_same (is_live ps bucket object) (is_live_below ps bucket object first_bound) ps
    (λ p v m e. rw (ulid_below (ulid_of v) (ulids p v m e)) (sym (and-true (is_live ps bucket object v.identifier))))

-- ---- how many versions of the name are below a bound

abbrev one : Option Version → ℕ
one None = 0
one (Some v) = 1

unfoldable pub how_many : (Identity → Bool) → List Placed → ℕ
how_many test [] = 0
how_many test (p ∷ ps) = one (filtered test (version_of p)) + how_many test ps

unfoldable pub versions_below : List Placed → List ℕ → List ℕ → List ℕ → ℕ
versions_below ps bucket object bound = how_many (is_below bucket object bound) ps

module _ (test wider : Identity → Bool) (narrower : (i : Identity) → test i ≡ true → wider i ≡ true) where
  no_more_here : (a : Option Version) → one (filtered test a) ≤ one (filtered wider a)
  unfolding filtered
  no_more_here None = omega arith
  no_more_here (Some v) = go (test v.identifier) refl
    where
      go : (t : Bool) → test v.identifier ≡ t → one (cond t (Some v) None) ≤ one (cond (wider v.identifier) (Some v) None)
      go true e = rw (narrower v.identifier e) (omega arith)
      go false e = omega arith

  no_more : (ps : List Placed) → how_many test ps ≤ how_many wider ps
  unfolding how_many
  no_more [] = omega arith
  no_more (p ∷ ps) = omega (arith, no_more_here (version_of p), no_more ps)

  fewer : (ps : List Placed) (p : Placed) (v : Version) → Memᴰ p ps → Passes wider (version_of p) v
      → test v.identifier ≡ false → how_many test ps < how_many wider ps
  unfolding how_many filtered
  fewer [] p v m o e = absurd (Memᴰ.not-nil m)
  fewer (q ∷ ps) p v m o e = ⊎_elim here (λ n. omega (arith, no_more_here (version_of q), fewer ps p v n o e)) (Memᴰ.cases_cons m)
    where
      here : p ≡ q → one (filtered test (version_of q)) + how_many test ps < one (filtered wider (version_of q)) + how_many wider ps
      here h =
          let is : version_of q ≡ Some v = ap version_of (sym h) ∙ o.is in
          rw (is, e, o.test_passed) (omega (arith, no_more ps))

-- ---- deletions of the name

unfoldable pub deletes_name : List ℕ → List ℕ → Role → Bool
deletes_name bucket object (version i delete_flag) = false
deletes_name bucket object (deletion i) = has_name (Some i) bucket object
deletes_name bucket object other = false
deletes_name bucket object (unreadable n) = false

unfoldable pub is_any_deleted : List Placed → List ℕ → List ℕ → Bool
is_any_deleted [] bucket object = false
is_any_deleted (p ∷ ps) bucket object = deletes_name bucket object p.role || is_any_deleted ps bucket object

names_none : (r : Role) (ulid bucket object : List ℕ) → deletes_name bucket object r ≡ false → deletes (identity ulid bucket object) r ≡ false
unfolding deletes_name deletes same_identity has_name
names_none (version i delete_flag) ulid bucket object e = refl
names_none (deletion i) ulid bucket object e = after (same_bytes i.ulid ulid) (same_bytes i.bucket bucket) (same_bytes i.object object) e
  where
    after : (a b c : Bool) → (b && c) ≡ false → ((a && b) && c) ≡ false
    after true b c f = f
    after false b c f = refl
names_none other ulid bucket object e = refl
names_none (unreadable n) ulid bucket object e = refl

-- where there is none, no version of the name is deleted
pub none_deleted : (ps : List Placed) (bucket object : List ℕ) → is_any_deleted ps bucket object ≡ false
    → (ulid : List ℕ) → is_deleted ps (identity ulid bucket object) ≡ false
unfolding is_any_deleted is_deleted
none_deleted [] bucket object e ulid = refl
none_deleted (p ∷ ps) bucket object e ulid =
    let n = neither_so (deletes_name bucket object p.role) (is_any_deleted ps bucket object) e in
    rw (names_none p.role ulid bucket object n.0, none_deleted ps bucket object n.1 ulid)

-- ---- a step of the search

same_test : (a b : Bool) → (a ≡ true → b ≡ true) → (b ≡ true → a ≡ true) → a ≡ b
same_test true b f g = sym (f refl)
same_test false b f g = sym (not_so b (λ e. true≢false (sym (g e))))

better_nothing : (a : Option Version) → better a None ≡ a
unfolding better
better_nothing None = refl
better_nothing (Some v) = refl

module _ (a : Option Version) (v w : Version) (is : a ≡ Some v) where
  later_better : less (ulid_of v) (ulid_of w) ≡ true → better a (Some w) ≡ Some w
  unfolding better
  later_better t = rw is (by t)
    where
      by : less (ulid_of v) (ulid_of w) ≡ true → better (Some v) (Some w) ≡ Some w
      by e = rw e

  earlier_better : less (ulid_of v) (ulid_of w) ≡ false → better a (Some w) ≡ Some v
  unfolding better
  earlier_better t = rw is (by t)
    where
      by : less (ulid_of v) (ulid_of w) ≡ false → better (Some v) (Some w) ≡ Some v
      by e = rw e

-- a version of the name below the bound, where it stands
pub record Offered (ps : List Placed) (bucket object bound : List ℕ) (v : Version) : Type 0 where
  pub at : Placed
  pub among : Memᴰ at ps
  pub offers : Passes (is_below bucket object bound) (version_of at) v

-- what is kept beside the best of those that are live: none beside none, or that best one, or one that is deleted and than which no live one is greater
pub data Covers (ps : List Placed) (bucket object bound : List ℕ) (live kept : Option Version) : Type 0 where
  none_kept : live ≡ None → kept ≡ None → Covers ps bucket object bound live kept
  live_one : (v : Version) → live ≡ Some v → kept ≡ Some v → Offered ps bucket object bound v → Covers ps bucket object bound live kept
  deleted_one : (v : Version) → kept ≡ Some v → is_deleted ps v.identifier ≡ true → Offered ps bucket object bound v
      → ((w : Version) → live ≡ Some w → less (ulid_of v) (ulid_of w) ≡ false) → Covers ps bucket object bound live kept

-- what is left of an offer: all of it, or none of what is deleted
abbrev pub Spared : List Placed → Option Version → Option Version → Type 0
Spared ps offer left = (left ≡ offer) ⊎ ((left ≡ None) × ((v : Version) → offer ≡ Some v → is_deleted ps v.identifier ≡ true))

module _ (ps : List Placed) (bucket object : List ℕ) where
  -- what a candidate, the greatest below some bound, tells of the current version
  abbrev pub settled : Option Version → Option Version
  settled None = None
  settled (Some v) = cond (is_deleted ps v.identifier) (current_below ps bucket object (ulid_of v)) (Some v)

module _ (ps : List Placed) (bucket object bound : List ℕ) where
  abbrev below : Identity → Bool
  below = is_below bucket object bound

  abbrev live_below : List ℕ → Identity → Bool
  live_below = is_live_below ps bucket object

  abbrev Covering : Option Version → Option Version → Type 0
  Covering = Covers ps bucket object bound

  live_below_lem : (i : Identity) → live_below bound i ≡ true → below i ≡ true
  unfolding is_live_below is_live is_below
  live_below_lem i e = go (has_name (Some i) bucket object) (is_deleted ps i) e
    where
      go : (a b : Bool) → ((a && not b) && less i.ulid bound) ≡ true → (a && less i.ulid bound) ≡ true
      go true true h = absurd (true≢false (sym h))
      go true false h = h
      go false b h = h

  live_kept : (b : List ℕ) (i : Identity) → live_below b i ≡ true → is_deleted ps i ≡ false
  unfolding is_live_below is_live
  live_kept b i e =
      let h = both (is_live ps bucket object i) (less i.ulid b) e in
      not-true (is_deleted ps i) (both (has_name (Some i) bucket object) (not (is_deleted ps i)) h.0).1

  pub below_name : (i : Identity) → below i ≡ true → (i.bucket ≡ bucket) × (i.object ≡ object)
  unfolding is_below
  below_name i e = has_name_lem bucket object i (both (has_name (Some i) bucket object) (less i.ulid bound) e).0

  below_live : (i : Identity) → below i ≡ true → is_deleted ps i ≡ false → live_below bound i ≡ true
  unfolding is_live_below is_live is_below
  below_live i e kept = let h = both (has_name (Some i) bucket object) (less i.ulid bound) e in rw (h.0, h.1, kept)

  -- ---- one more is met

  module _ (live kept : Option Version) (covers : Covering live kept) (w : Version) (o : Offered ps bucket object bound w) where
    meets_deleted : is_deleted ps w.identifier ≡ true → Covering live (better kept (Some w))
    unfolding better
    meets_deleted gone = by covers
      where
        by : Covering live kept → Covering live (better kept (Some w))
        by (none_kept l k) = deleted_one w (rw k) gone o (λ x e. no_version (sym l ∙ e))
        by (live_one v l k there) =
            ⊎_elim
            (λ t. deleted_one w (later_better kept v w k t) gone o (λ x e. rw (same_version (sym e ∙ l)) (less_asymmetric (ulid_of v) (ulid_of w) t)))
            (λ t. live_one v l (earlier_better kept v w k t) there)
            (either (less (ulid_of v) (ulid_of w)))
        by (deleted_one v k dead there least) =
            ⊎_elim
            (λ t. deleted_one w (later_better kept v w k t) gone o
            (λ x e. not_less_transitive (ulid_of w) (ulid_of v) (ulid_of x) (less_asymmetric (ulid_of v) (ulid_of w) t) (least x e)))
            (λ t. deleted_one v (earlier_better kept v w k t) dead there least)
            (either (less (ulid_of v) (ulid_of w)))

    meets_live : Covering (better live (Some w)) (better kept (Some w))
    unfolding better
    meets_live = by covers
      where
        by : Covering live kept → Covering (better live (Some w)) (better kept (Some w))
        by (none_kept l k) = live_one w (rw l) (rw k) o
        by (live_one v l k there) =
            ⊎_elim (λ t. live_one w (later_better live v w l t) (later_better kept v w k t) o)
            (λ t. live_one v (earlier_better live v w l t) (earlier_better kept v w k t) there)
            (either (less (ulid_of v) (ulid_of w)))
        by (deleted_one v k dead there least) =
            ⊎_elim (λ t. live_one w (wins t live refl) (later_better kept v w k t) o)
            (λ t. deleted_one v (earlier_better kept v w k t) dead there (λ x e. loses t x live refl e))
            (either (less (ulid_of v) (ulid_of w)))
          where
            wins : less (ulid_of v) (ulid_of w) ≡ true → (a : Option Version) → live ≡ a → better live (Some w) ≡ Some w
            wins t None e = rw e
            wins t (Some y) e =
                let greater : less (ulid_of y) (ulid_of w) ≡ true
                = ⊎_elim (λ r. r) (λ r. clash t (not_less_transitive (ulid_of v) (ulid_of y) (ulid_of w) (least y e) r)) (either (less (ulid_of y) (ulid_of w))) in
                later_better live y w e greater

            loses : less (ulid_of v) (ulid_of w) ≡ false → (x : Version) (a : Option Version) → live ≡ a → better live (Some w) ≡ Some x
                → less (ulid_of v) (ulid_of x) ≡ false
            loses t x None e is =
                let same : Some w ≡ Some x = sym (ap (λ b. better b (Some w)) e) ∙ is in
                rw (← same_version same) t
            loses t x (Some y) e is =
                ⊎_elim (λ r. rw (← same_version (sym (later_better live y w e r) ∙ is)) t)
                (λ r. rw (← same_version (sym (earlier_better live y w e r) ∙ is)) (least y e)) (either (less (ulid_of y) (ulid_of w)))

  -- a record is met, and what is left of what it offers below the bound
  pub covers_more : (live kept : Option Version) → Covering live kept → (p : Placed) → Memᴰ p ps → (a : Option Version) → version_of p ≡ a
      → (left : Option Version) → Spared ps (filtered below a) left → Covering (better live (filtered (live_below bound) a)) (better kept left)
  unfolding filtered
  covers_more live kept covers p m None is left spared = rw (⊎_elim (λ e. e) (λ e. e.0) spared, better_nothing live, better_nothing kept) covers
  covers_more live kept covers p m (Some w) is left spared = by (below w.identifier) refl (is_deleted ps w.identifier) refl spared
    where
      offered : below w.identifier ≡ true → Offered ps bucket object bound w
      offered b = record { at = p; among = m; offers = record { is = is; test_passed = b } }

      passes : (l : Bool) → live_below bound w.identifier ≡ l → (t : Option Version) → left ≡ t
          → Covering (better live (cond l (Some w) None)) (better kept t)
          → Covering (better live (cond (live_below bound w.identifier) (Some w) None)) (better kept left)
      passes l e t f c = rw (e, f) c

      still : live_below bound w.identifier ≡ false → left ≡ None
          → Covering (better live (cond (live_below bound w.identifier) (Some w) None)) (better kept left)
      still e f = passes false e None f (rw (better_nothing live, better_nothing kept) covers)

      by : (b : Bool) → below w.identifier ≡ b → (d : Bool) → is_deleted ps w.identifier ≡ d → Spared ps (cond (below w.identifier) (Some w) None) left
          → Covering (better live (cond (live_below bound w.identifier) (Some w) None)) (better kept left)
      by false b d g s =
          let none_left : left ≡ None = ⊎_elim (λ e. rw b at e) (λ e. e.0) s in
          still (not_so (live_below bound w.identifier) (λ l. clash (live_below_lem w.identifier l) b)) none_left
      by true b true g s =
          let not_live : live_below bound w.identifier ≡ false
          = not_so (live_below bound w.identifier) (λ l. clash g (live_kept bound w.identifier l)) in
          ⊎_elim
          (λ e.
          let all_left : left ≡ Some w = rw b at e in
          passes false not_live (Some w) all_left (rw (better_nothing live) (meets_deleted live kept covers w (offered b) g)))
          (λ e. still not_live e.0) s
      by true b false g s =
          ⊎_elim
          (λ e.
          let all_left : left ≡ Some w = rw b at e in
          passes true (below_live w.identifier b g) (Some w) all_left (meets_live live kept covers w (offered b)))
          (λ e. clash (e.1 w (rw b)) g) s

  -- ---- the best of all that are below the bound

  search_nothing : best below ps ≡ None → current_below ps bucket object bound ≡ None
  unfolding current_below
  search_nothing e = none_best (live_below bound) ps
      (λ p v m o. best_none below ps e p v m (record { is = o.is; test_passed = live_below_lem v.identifier o.test_passed }))

  module _ (c : Version) (found : best below ps ≡ Some c) where
    greatest : Best below ps c
    greatest = best_found below ps c found

    -- what is found is current, where no `vd` names it
    pub search_found : is_deleted ps c.identifier ≡ false → current_below ps bucket object bound ≡ Some c
    unfolding current_below
    search_found kept =
        found_best (live_below bound)
        (record {
          front = greatest.front;
          at = greatest.at;
          back = greatest.back;
          cut = greatest.cut;
          offers = record { is = greatest.offers.is; test_passed = below_live c.identifier greatest.offers.test_passed kept };
          earlier = λ p w m o. greatest.earlier p w m (passes p w o);
          later = λ p w m o. greatest.later p w m (passes p w o);
        })
      where
        passes : (p : Placed) (w : Version) → Passes (live_below bound) (version_of p) w → Passes below (version_of p) w
        passes p w o = record { is = o.is; test_passed = live_below_lem w.identifier o.test_passed }

    found_covers : Covering (current_below ps bucket object bound) (Some c)
    unfolding current_below
    found_covers =
        ⊎_elim (λ gone. deleted_one c refl gone there least) (λ kept. live_one c (search_found kept) refl there) (either (is_deleted ps c.identifier))
      where
        there : Offered ps bucket object bound c
        there = record { at = greatest.at; among = best_member below greatest; offers = greatest.offers }

        least : (w : Version) → best (live_below bound) ps ≡ Some w → less (ulid_of c) (ulid_of w) ≡ false
        least w e =
            let b = best_found (live_below bound) ps w e in
            best_greatest below greatest b.at w (best_member (live_below bound) b)
            (record { is = b.offers.is; test_passed = live_below_lem w.identifier b.offers.test_passed })

  pub covers_best : (kept : Option Version) → best below ps ≡ kept → Covering (current_below ps bucket object bound) kept
  covers_best None e = none_kept (search_nothing e) refl
  covers_best (Some c) e = found_covers c e

  -- ---- what is kept tells of the current version

  module _ (c : Version) (there : Offered ps bucket object bound c) where
    c_below : below c.identifier ≡ true
    c_below = there.offers.test_passed

    -- where a `vd` names it and no live one is greater, the current version is below it
    pub search_deleted : is_deleted ps c.identifier ≡ true
        → ((w : Version) → current_below ps bucket object bound ≡ Some w → less (ulid_of c) (ulid_of w) ≡ false)
        → current_below ps bucket object bound ≡ current_below ps bucket object (ulid_of c)
    unfolding current_below is_live_below is_below
    search_deleted gone least = best_same (live_below bound) (live_below (ulid_of c)) ps
        (λ p v m e. same_test (live_below bound v.identifier) (live_below (ulid_of c) v.identifier) (down p v m e) (up v))
      where
        not_greater : (p : Placed) (v : Version) → Memᴰ p ps → Passes (live_below bound) (version_of p) v → (a : Option Version)
            → best (live_below bound) ps ≡ a → less (ulid_of c) (ulid_of v) ≡ false
        not_greater p v m o None e = absurd (best_none (live_below bound) ps e p v m o)
        not_greater p v m o (Some x) e =
            not_less_transitive (ulid_of c) (ulid_of x) (ulid_of v) (least x e) (best_greatest (live_below bound) (best_found (live_below bound) ps x e) p v m o)

        down : (p : Placed) (v : Version) → Memᴰ p ps → version_of p ≡ Some v → live_below bound v.identifier ≡ true
            → live_below (ulid_of c) v.identifier ≡ true
        down p v m e l =
            let b = live_below_lem v.identifier l in
            let not_less = not_greater p v m (record { is = e; test_passed = l }) (best (live_below bound) ps) refl in
            let n = below_name v.identifier b in
            let k = below_name c.identifier c_below in
            ⊎_elim (λ t. rw (both (is_live ps bucket object v.identifier) (less (ulid_of v) bound) l).0 t)
            (λ t.
            let same : v.identifier ≡ c.identifier = same_name v.identifier c.identifier (n.0 ∙ sym k.0) (n.1 ∙ sym k.1) t not_less in
            clash (ap (is_deleted ps) same ∙ gone) (live_kept bound v.identifier l))
            (either (less (ulid_of v) (ulid_of c)))

        up : (v : Version) → live_below (ulid_of c) v.identifier ≡ true → live_below bound v.identifier ≡ true
        up v l =
            let h = both (is_live ps bucket object v.identifier) (less (ulid_of v) (ulid_of c)) l in
            let k = both (has_name (Some c.identifier) bucket object) (less (ulid_of c) bound) c_below in
            rw (h.0, less_transitive (ulid_of v) (ulid_of c) bound h.1 k.1)

    -- and fewer versions are below it
    pub search_falls : versions_below ps bucket object (ulid_of c) < versions_below ps bucket object bound
    unfolding versions_below is_below
    search_falls =
        fewer (is_below bucket object (ulid_of c)) below smaller ps there.at c there.among there.offers
        (rw (less_irreflexive (ulid_of c)) (and-false (has_name (Some c.identifier) bucket object)))
      where
        smaller : (i : Identity) → is_below bucket object (ulid_of c) i ≡ true → below i ≡ true
        smaller i e =
            let h = both (has_name (Some i) bucket object) (less i.ulid (ulid_of c)) e in
            let k = both (has_name (Some c.identifier) bucket object) (less (ulid_of c) bound) c_below in
            rw (h.0, less_transitive i.ulid (ulid_of c) bound h.1 k.1)

  pub covers_settles : (kept : Option Version) → Covering (current_below ps bucket object bound) kept
      → current_below ps bucket object bound ≡ settled ps bucket object kept
  unfolding current_below
  covers_settles kept (none_kept l k) = l ∙ ap (settled ps bucket object) (sym k)
  covers_settles kept (live_one v l k there) =
      let not-deleted = live_kept bound v.identifier (best_found (live_below bound) ps v l).offers.test_passed in
      rw (k, not-deleted) l
  covers_settles kept (deleted_one v k gone there least) = rw (k, gone) (search_deleted v there gone least)

  pub covers_offered : (live kept : Option Version) → Covering live kept → (v : Version) → kept ≡ Some v → Offered ps bucket object bound v
  covers_offered live kept (none_kept l k) v e = no_version (sym k ∙ e)
  covers_offered live kept (live_one w l k there) v e = rw (← same_version (sym k ∙ e)) there
  covers_offered live kept (deleted_one w k gone there least) v e = rw (← same_version (sym k ∙ e)) there
