-- Every reason is given exactly when what it says holds.
use Rattle.std.specs.Prelude.{ℕ, ◌≤◌, ◌<◌, Bool, ◌↔◌, ◌≡◌, eqb}
use Rattle.std.proofs.Math.Bool.{true, false, cond}
use mathlib.Core.List.Memᴰ
use mathlib.Core.List.{List}
use Rattle.std.proofs.Math.Logic.{⊎_elim}
use Rattle.std.specs.Prelude.{Option, None, Some}
use Rattle.std.proofs.Math.Path.{refl, ap}
use Rattle.std.proofs.Common.{sym, subst, ◌∙◌, arith, eq-eqb, ne_eqb, eqb-true}
use Rattle.std.proofs.lemmas.Bool.{eqb-false}
use Rattle.slices.specs.Logic.{absurd_numbers, either, clash}
use Rattle.identifier.specs.Texts.{less}
use Rattle.identifier.specs.Order.{less_irreflexive}
use Rattle.identifier.specs.Identity.{Identity, same_identity_refl, same_identity_true}
use Rattle.current_version.specs.Current as current-answer
use Rattle.current_version.specs.Current.{Role, version, deletion, other, unreadable, Placed, Version, version_by, version_of, deletes}
use Rattle.current_version.specs.Best.{ulid_of, same_version}
use Rattle.current_version.specs.Exactly.{Kept, Live, IsCurrent, current_member, same_name}
use Rattle.current_version.proofs.Exactly.{none_exactly, current_is}
use Rattle.explanation.specs.Reasons.{Reason, current, current_marker, older, repeated, removed, holds, first_deletion, first_version, unless_removed, unless_repeated, unless_older, reason_of}
use Rattle.explanation.specs.Starts.{Rising, one_there, behind}
use Rattle.explanation.specs.Facts.{Earliest, Deletes, Holds, Says, OfName, none_such, such_first, first_such, such_none, told_role}

-- ---- tests and what they test

deletes_tests : (i : Identity) (r : Role) → deletes i r ≡ true ↔ Deletes i r
unfolding deletes
deletes_tests i (version j f) = (λ e. clash e refl, λ e. absurd_numbers (cc))
deletes_tests i (deletion j) = (λ e. ap deletion (same_identity_true j i e), λ e. let same : j ≡ i = cc in rw same (same_identity_refl i))
deletes_tests i other = (λ e. clash e refl, λ e. absurd_numbers (cc))
deletes_tests i (unreadable n) = (λ e. clash e refl, λ e. absurd_numbers (cc))

holds_tests : (i : Identity) (r : Role) → holds i r ≡ true ↔ Holds i r
unfolding holds
holds_tests i (version j f) =
    (λ e. (f, ap (λ (k : Identity). version k f) (same_identity_true j i e)), λ e. let q = e.1 in let same : j ≡ i = cc in rw same (same_identity_refl i))
holds_tests i (deletion j) = (λ e. clash e refl, λ e. let q = e.1 in absurd_numbers (cc))
holds_tests i other = (λ e. clash e refl, λ e. let q = e.1 in absurd_numbers (cc))
holds_tests i (unreadable n) = (λ e. clash e refl, λ e. let q = e.1 in absurd_numbers (cc))

-- ---- what a record tells

held_tells : (p : Placed) (i : Identity) → Holds i p.role → (v : Version) × ((version_of p ≡ Some v) × (v.identifier ≡ i))
unfolding version_of
held_tells p i h = (record { identifier = i; delete_flag = h.0; value = p.value; start = p.start }, (ap (version_by p.start p.value) h.1, refl))

-- ---- every reason is given exactly when what it says holds

module _ (ps : List Placed) (rises : Rising ps) (bucket object : List ℕ) (found : Option Version)
    (looked : found ≡ current-answer.current ps bucket object) where
  abbrev Found : Version → Type 0
  Found c = found ≡ Some c

  is_current : (c : Version) → Found c → IsCurrent ps bucket object c
  is_current c e = current_is ps bucket object c (sym looked ∙ e)

  module _ (p : Placed) (v : Version) (named : OfName ps bucket object p v) where
    abbrev told : p.role ≡ version v.identifier v.delete_flag
    told = (told_role p v named.tells).0

    abbrev here : p.start ≡ v.start
    here = (told_role p v named.tells).1

    held : Holds v.identifier p.role
    held = (v.delete_flag, told)

    live : Kept ps v.identifier → Live ps bucket object p v
    live kept = record { tells = named.tells; in_bucket = named.in_bucket; is_object_lem = named.is_object_lem; kept = kept }

    -- where it starts, only it does
    same_start : (c : Version) → Found c → c.start ≡ v.start → c ≡ v
    same_start c e same =
        let x = is_current c e in
        let there : x.at.start ≡ c.start = (told_role x.at c x.live.tells).1 in
        let one : x.at ≡ p = one_there ps rises x.at p (current_member x) named.there (there ∙ same ∙ sym here) in
        same_version (sym x.live.tells ∙ ap version_of one ∙ named.tells)

    -- the earliest record of a live identifier that is not the current one has a lesser ULID
    is_older : Kept ps v.identifier → Earliest ps (Holds v.identifier) v.start → (c : Version) → Found c → (c.start ≡ v.start → ⊥)
        → less (ulid_of v) (ulid_of c) ≡ true
    is_older kept first c e differs = ⊎_elim (λ t. t) (λ t. absurd (equal t)) (either (less (ulid_of v) (ulid_of c)))
      where
        equal : less (ulid_of v) (ulid_of c) ≡ false → ⊥
        equal t =
            let x = is_current c e in
            let same : v.identifier ≡ c.identifier =
            same_name v.identifier c.identifier (named.in_bucket ∙ sym x.live.in_bucket) (named.is_object_lem ∙ sym x.live.is_object_lem) t
            (x.greatest p v named.there (live kept)) in
            let there = told_role x.at c x.live.tells in
            let not_before : v.start ≤ x.at.start
            = first.earliest x.at (current_member x) (c.delete_flag, there.0 ∙ ap (λ (i : Identity). version i c.delete_flag) (sym same)) in
            ⊎_elim (λ m. x.earliest p v m named.tells same)
            (λ m.
            ⊎_elim (λ q. differs (sym there.1 ∙ ap (λ (y : Placed). y.start) (sym q) ∙ here))
            (λ n. omega (arith, here, not_before, behind x.front x.at x.back (subst Rising x.cut rises) p n)) (Memᴰ.cases_cons m))
            (Memᴰ.append_cases x.front (rw x.cut at named.there))

    pub reason_holds : Says ps Found v (reason_of ps found v)
    unfolding reason_of
    reason_holds = go (first_deletion ps v.identifier) refl (first_version ps v.identifier) refl found refl
      where
        flagged : Found v → (f : Bool) → v.delete_flag ≡ f → Says ps Found v (cond f current_marker current)
        flagged e true f = (e, f)
        flagged e false f = (e, f)

        beside : Kept ps v.identifier → Earliest ps (Holds v.identifier) v.start → (o : Option Version) → found ≡ o
            → Says ps Found v (unless_older v.start o (cond v.delete_flag current_marker current))
        beside kept first None e = absurd ((none_exactly ps bucket object).0 (sym looked ∙ e) p v named.there (live kept))
        beside kept first (Some c) e = by (eqb c.start v.start) refl
          where
            by : (t : Bool) → eqb c.start v.start ≡ t → Says ps Found v (cond t (cond v.delete_flag current_marker current) (older c))
            by true q = flagged (e ∙ ap Some (same_start c e (eqb-true c.start v.start q))) v.delete_flag refl
            by false q = (kept, (first, (e, is_older kept first c e (eqb-false c.start v.start q))))

        stands : Kept ps v.identifier → (k : ℕ) → Earliest ps (Holds v.identifier) k → (t : Bool) → eqb k v.start ≡ t
            → (o : Option Version) → found ≡ o → Says ps Found v (cond t (unless_older v.start o (cond v.delete_flag current_marker current)) (repeated k))
        stands kept k first true q o e = beside kept (subst (Earliest ps (Holds v.identifier)) (eqb-true k v.start q) first) o e
        stands kept k first false q o e =
            let at_most : k ≤ p.start = first.earliest p named.there held in
            let differs : k ≡ v.start → ⊥ = eqb-false k v.start q in
            (kept, (first, less_of k v.start (omega (arith, here)) differs))
          where
            less_of : (a b : ℕ) → a ≤ b → (a ≡ b → ⊥) → a < b
            less_of a b h n = omega arith

        go : (d : Option ℕ) → first_deletion ps v.identifier ≡ d → (f : Option ℕ) → first_version ps v.identifier ≡ f → (o : Option Version) → found ≡ o
            → Says ps Found v (unless_removed d (unless_repeated v.start f (unless_older v.start o (cond v.delete_flag current_marker current))))
        go (Some k) d f g o e = such_first (deletes v.identifier) (Deletes v.identifier) (deletes_tests v.identifier) ps rises k d
        go None d None g o e = absurd (none_such (holds v.identifier) (Holds v.identifier) (holds_tests v.identifier) ps g p named.there held)
        go None d (Some k) g o e =
            stands (λ q m r. none_such (deletes v.identifier) (Deletes v.identifier) (deletes_tests v.identifier) ps d q m r) k
            (such_first (holds v.identifier) (Holds v.identifier) (holds_tests v.identifier) ps rises k g) (eqb k v.start) refl o e

    pub holds_reason : (r : Reason) → Says ps Found v r → reason_of ps found v ≡ r
    unfolding reason_of
    holds_reason r h = by r h
      where
        none_deleted : Kept ps v.identifier → first_deletion ps v.identifier ≡ None
        none_deleted kept = such_none (deletes v.identifier) (Deletes v.identifier) (deletes_tests v.identifier) ps rises kept

        version_at_lem : (k : ℕ) → Earliest ps (Holds v.identifier) k → first_version ps v.identifier ≡ Some k
        version_at_lem k x = first_such (holds v.identifier) (Holds v.identifier) (holds_tests v.identifier) ps rises k x

        -- no record before the current one has its identifier
        itself : Found v → Earliest ps (Holds v.identifier) v.start
        itself e =
            let x = is_current v e in
            record {
              at = p;
              there = named.there;
              is = held;
              stands = here;
              earliest = λ q m is.
                  let w = held_tells q v.identifier is in
                  let there : x.at.start ≡ v.start = (told_role x.at v x.live.tells).1 in
                  ⊎_elim (λ n. absurd (x.earliest q w.0 n w.1.0 w.1.1))
                  (λ n.
                  ⊎_elim (λ same. let at : q.start ≡ x.at.start = ap (λ (y : Placed). y.start) same in omega arith)
                  (λ k. omega (arith, behind x.front x.at x.back (subst Rising x.cut rises) q k)) (Memᴰ.cases_cons n))
                  (Memᴰ.append_cases x.front (rw x.cut at m));
            }

        found_kept : Found v → first_deletion ps v.identifier ≡ None
        found_kept e = none_deleted (is_current v e).live.kept

        own : eqb v.start v.start ≡ true
        own = eq-eqb v.start v.start refl

        by : (r : Reason) → Says ps Found v r → reason_of ps found v ≡ r
        by current (e, f) = rw (found_kept e, version_at_lem v.start (itself e), own, e, own, f)
        by current_marker (e, f) = rw (found_kept e, version_at_lem v.start (itself e), own, e, own, f)
        by (older c) (kept, (first, (e, l))) =
            let differs : c.start ≡ v.start → ⊥ =
            λ q. clash (ap (λ (x : Version). less (ulid_of v) (ulid_of x)) (sym (same_start c e q)) ∙ l) (less_irreflexive (ulid_of v)) in
            rw (none_deleted kept, version_at_lem v.start first, own, e, ne_eqb c.start v.start differs)
        by (repeated k) (kept, (first, l)) =
            let differs : k ≡ v.start → ⊥ = λ q. omega arith in
            rw (none_deleted kept, version_at_lem k first, ne_eqb k v.start differs)
        by (removed k) x = rw (first_such (deletes v.identifier) (Deletes v.identifier) (deletes_tests v.identifier) ps rises k x)

    pub reason_exactly : (r : Reason) → reason_of ps found v ≡ r ↔ Says ps Found v r
    reason_exactly r = (λ e. subst (Says ps Found v) e reason_holds, holds_reason r)
