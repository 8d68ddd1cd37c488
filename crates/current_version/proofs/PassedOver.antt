-- Records other than `vr` and `vd`, pack lists among them, are passed over: one of them more, wherever it stands and whatever its value, moves the records
-- behind it and changes nothing else.
use Prim.Native.Nat.{ℕ, ◌+◌, ◌≤◌}
use Rattle.std.specs.Prelude.{Bool, true, false, ◌≡◌}
use mathlib.Core.List.{List, [], ◌∷◌, ◌++◌}
use Rattle.std.proofs.Math.Path.{refl, subst}
use Rattle.std.proofs.Common.{ap, ◌∙◌, lt-ltb, le-ltb}
use native.Mathlib.Omega.{arith}
use Rattle.std.proofs.Math.ListN.{length, length-append}
use Rattle.tlv.specs.Layout.{Record, layout, layouts, length_layout}
use Rattle.pack.specs.Acceptance.{AllFit}
use Rattle.msgpack.specs.Views.{Each, no_more, and_each}
use Rattle.identifier.specs.Identity.{Identity}
use Rattle.records.specs.Record.{pack_list_tag}
use Rattle.current_version.specs.Current.{Role, version, deletion, other, unreadable, is_looked_at, role, Placed, placed_by, version_of, filtered, better, best, deletes, is_deleted, is_live, current, alone, readability, answer_in, is_name, lookup}
use Rattle.current_version.specs.Roles.{pack_list_not_looked_at}
use Rattle.current_version.specs.Best.{best_same}
use Rattle.current_version.specs.Packs.{standing, lookup_layouts}
use Rattle.current_version.specs.Alike.{AlikeRoles, versions, deletions, others, unreadables, both_alone}
use Rattle.current_version.proofs.Alike.{answers_alike}
use Rattle.current_version.specs.PassedOver.{moved, MovedAnswers, Moved, PassedOver}

-- ---- a record that is no version, no deletion and not unreadable plays no part

module _ (p : Placed) (passed : p.role ≡ other) where
  readability_without : (ps qs : List Placed) → readability (ps ++ (p ∷ qs)) ≡ readability (ps ++ qs)
  unfolding readability
  readability_without [] qs = rw passed
  readability_without (q ∷ ps) qs = rw (readability_without ps qs)

  deleted_without : (ps qs : List Placed) (i : Identity) → is_deleted (ps ++ (p ∷ qs)) i ≡ is_deleted (ps ++ qs) i
  unfolding is_deleted deletes
  deleted_without [] qs i = rw passed
  deleted_without (q ∷ ps) qs i = rw (deleted_without ps qs i)

  best_without : (test : Identity → Bool) (ps qs : List Placed) → best test (ps ++ (p ∷ qs)) ≡ best test (ps ++ qs)
  unfolding best better filtered version_of
  best_without test [] qs = rw passed
  best_without test (q ∷ ps) qs = rw (best_without test ps qs)

  answer_without : (ps qs : List Placed) (bucket object : List ℕ) → answer_in (ps ++ (p ∷ qs)) bucket object ≡ answer_in (ps ++ qs) bucket object
  unfolding answer_in current is_live
  answer_without ps qs bucket object =
      rw (
        readability_without ps qs,
        best_without (is_live (ps ++ (p ∷ qs)) bucket object) ps qs,
        best_same (is_live (ps ++ (p ∷ qs)) bucket object) (is_live (ps ++ qs) bucket object) (ps ++ qs) (λ q v m e. rw (deleted_without ps qs v.identifier)),
      )

-- ---- where a record stands when so many bytes more stand at a place

same_roles : (r : Role) → AlikeRoles ◌≡◌ r r
same_roles (version i delete_flag) = versions i delete_flag
same_roles (deletion i) = deletions i
same_roles other = others
same_roles (unreadable n) = unreadables refl

module _ (limit from by : ℕ) where
  placed_moved : (at to : ℕ) (r : Record) → moved from by at ≡ to → Moved limit from by (placed_by limit at r.tag r.value) (placed_by limit to r.tag r.value)
  placed_moved at to r e = record { role = same_roles (role limit r.tag r.value); start = e; value = refl }

  behind : (at : ℕ) (rs : List Record) → from ≤ at → Each (Moved limit from by) (standing limit at rs) (standing limit (at + by) rs)
  unfolding standing
  behind at [] h = no_more
  behind at (r ∷ rs) h =
      let next : at + length (layout r) + by ≡ at + by + length (layout r) = omega arith in
      and_each (placed_moved at (at + by) r (rw (le-ltb at from h)))
      (subst (λ n. Each (Moved limit from by) (standing limit (at + length (layout r)) rs) (standing limit n rs)) next (behind (at + length (layout r)) rs (omega arith)))

  around : (at : ℕ) (front back : List Record) → at + length (layouts front) ≡ from
      → Each (Moved limit from by) (standing limit at (front ++ back)) (standing limit at front ++ standing limit (from + by) back)
  unfolding standing layouts
  around at [] back e = subst (λ n. Each (Moved limit from by) (standing limit at back) (standing limit (n + by) back)) (omega arith) (behind at back (omega arith))
  around at (r ∷ front) back e =
      let long = length_layout r in
      let whole = length-append (layout r) (layouts front) in
      and_each (placed_moved at at r (rw (lt-ltb at from (omega arith))))
      (around (at + length (layout r)) front back (omega arith))

-- ---- one record more

standing_with : (limit from at : ℕ) (front back : List Record) (r : Record) → at + length (layouts front) ≡ from
    → standing limit at (front ++ (r ∷ back))
    ≡ standing limit at front ++ (placed_by limit from r.tag r.value ∷ standing limit (from + length (layout r)) back)
unfolding standing layouts
standing_with limit from at [] back r e = let here : at ≡ from = omega arith in rw here
standing_with limit from at (s ∷ front) back r e =
    rw (standing_with limit from (at + length (layout s)) front back r (omega (arith, length-append (layout s) (layouts front))))

fit_without : (front back : List Record) (r : Record) → AllFit (front ++ (r ∷ back)) → AllFit (front ++ back)
fit_without [] back r fit = fit.1
fit_without (s ∷ front) back r fit = (fit.0, fit_without front back r fit.1)

shorter_without : (front back : List Record) (r : Record) → length (layouts (front ++ back)) ≤ length (layouts (front ++ (r ∷ back)))
unfolding layouts
shorter_without [] back r = omega (arith, length-append (layout r) (layouts back))
shorter_without (s ∷ front) back r =
    omega (arith, shorter_without front back r, length-append (layout s) (layouts (front ++ back)), length-append (layout s) (layouts (front ++ (r ∷ back))))

module _ (limit : ℕ) (front back : List Record) (r : Record) (bucket object : List ℕ) where
  no_name : (s : List ℕ) → is_name bucket object ≡ false → lookup limit s bucket object ≡ alone 20
  unfolding lookup
  no_name s e = rw e

  pub passed_over : is_looked_at r.tag ≡ false → PassedOver limit front back r bucket object
  unfolding role
  passed_over looked fit within = by (is_name bucket object) refl
    where
      from : ℕ
      from = length (layouts front)

      size : ℕ
      size = length (layout r)

      others_answer : answer_in (standing limit 0 (front ++ (r ∷ back))) bucket object
          ≡ answer_in (standing limit 0 front ++ standing limit (from + size) back) bucket object
      others_answer =
          ap (λ ps. answer_in ps bucket object) (standing_with limit from 0 front back r (omega arith))
          ∙ answer_without (placed_by limit from r.tag r.value) (rw looked) (standing limit 0 front) (standing limit (from + size) back) bucket object

      by : (name : Bool) → is_name bucket object ≡ name
          → MovedAnswers from size (lookup limit (layouts (front ++ back)) bucket object) (lookup limit (layouts (front ++ (r ∷ back))) bucket object)
      by false e = rw (no_name (layouts (front ++ back)) e, no_name (layouts (front ++ (r ∷ back))) e) (both_alone 20)
      by true e =
          rw (
            lookup_layouts limit (front ++ back) bucket object (fit_without front back r fit) (omega (arith, shorter_without front back r)) e,
            lookup_layouts limit (front ++ (r ∷ back)) bucket object fit within e,
            others_answer,
          )
          (answers_alike ◌≡◌ (λ p q. moved from size p ≡ q) ◌≡◌ (around limit from size 0 front back (omega arith)) bucket object)

  pub pack_list_passed_over : r.tag ≡ pack_list_tag → PassedOver limit front back r bucket object
  pack_list_passed_over tag = passed_over (rw tag pack_list_not_looked_at)
