-- How an explanation ends: with the lookup's refusal, or with all lines, or with too few words for them.
use Prim.Native.Nat.{ℕ, ◌/◌, ◌≤◌, ◌<◌}
use mathlib.Core.Bool.{Bool, true, false, cond}
use mathlib.Core.List.{List, map}
use Rattle.std.specs.Prelude.{Option, None, Some, Result, Ok, Err}
use mathlib.Core.Path.{◌≡◌, refl, sym, ◌∙◌}
use native.Mathlib.Omega.{arith}
use borrow.Author.Tests.{le-leb, lt-leb}
use lib.Dec.{leb}
use lib.ListN.{length, length-map}
use Rattle.slices.specs.Logic.{absurd_numbers}
use Rattle.slices.specs.Overwriting.{overwritten}
use Rattle.slices.specs.Places.{part_at, Inside, within_inside}
use Rattle.slices.specs.declared.Place.{Place}
use Rattle.refusals.specs.Limit.{pack_limit}
use Rattle.pack.specs.Reading as pack
use Rattle.pack.specs.Reading.{reading, whole}
use Rattle.pack.specs.Scan.{fitted}
use Rattle.current_version.specs.Current as current-answer
use Rattle.current_version.specs.Current.{Placed, placed, Version, lookup}
use Rattle.current_version.proofs.Exactly.{lookup_exactly}
use Rattle.lookup_records.specs.Walk.{placed_from, Checked, walk_start, walk_all}
use Rattle.lookup.specs.Answers.{candidate_in, refusal_of, found_of, FoundInside}
use Rattle.lookup.specs.declared.Version as declared-version
use Rattle.lookup.specs.declared.Fault as lookup-code
use Rattle.lookup.specs.declared.Fault.TheVariants as lookup-fault
use Rattle.explanation.specs.Reasons.{Line, line_of, versions_of, lines_of, rows_of, explained, explain_by, explain}
use Rattle.explanation.specs.Answers.{outcome, explained_of, told_after, fitted_lines, ulid_found, UlidTold}
use Rattle.explanation.specs.declared.Explanation.{Explanation}
use Rattle.explanation.specs.declared.Fault.{Fault}
use Rattle.explanation.specs.declared.Fault.TheVariants.{Lookup, NoRoom}

-- ---- the lines of a pack that can be read

module _ (ps : List Placed) (found : Option Version) (bucket object told : List ℕ) (ulid : Place) (n : ℕ) (counted : n ≡ length (versions_of bucket object ps)) where
  abbrev lines : List Line
  lines = lines_of ps found bucket object

  abbrev Tells : Result Explanation Fault → List ℕ → Type 0
  Tells r left = (r ≡ fitted_lines (length lines) (length told / 3) ulid) × (left ≡ told_after (explained lines) told)

  count_is : length lines ≡ n
  unfolding lines_of
  count_is = length-map (versions_of bucket object ps) (line_of ps found) ∙ sym counted

  pub too_few : length told / 3 < n → Tells (Err NoRoom) told
  too_few h = rw (count_is, lt-leb n (length told / 3) h) (refl, refl)

  pub enough : n ≤ length told / 3 → Tells (Ok (record { count = n; ulid = ulid })) (overwritten told 0 (rows_of lines))
  enough h = rw (count_is, le-leb n (length told / 3) h) (refl, refl)

-- ---- of any pack, by what the lookup answered

-- where the ULID of what was found stands
abbrev pub ulid_place : Option declared-version.Version → Place
ulid_place None = record { start = 0; len = 0 }
ulid_place (Some v) = v.identifier.ulid

module _ (s bucket object told : List ℕ) where
  abbrev Explains : Result Explanation Fault → List ℕ → Type 0
  Explains r left = (explained_of r ≡ fitted (outcome (explain pack_limit s bucket object)) (length told / 3))
      × ((left ≡ told_after (explain pack_limit s bucket object) told) × UlidTold s (lookup pack_limit s bucket object) r)

  explain_by_lem : (a : current-answer.Answer) → a ≡ lookup pack_limit s bucket object
      → explain pack_limit s bucket object ≡ explain_by a (map (placed pack_limit s) (reading pack_limit s).entries) bucket object
  unfolding explain
  explain_by_lem a looked = rw (← looked)

  -- ---- a refusal

  no_ulid_lem : (f : Fault) → UlidTold s (lookup pack_limit s bucket object) (Err f)
  no_ulid_lem f = record { is = λ e q. absurd_numbers (cc); inside = λ e q. absurd_numbers (cc) }

  refused_explains : (f : Fault) (n place : ℕ) → explained_of (Err f) ≡ pack.refused n place
      → current-answer.refused_at n place ≡ lookup pack_limit s bucket object → Explains (Err f) told
  refused_explains f n place is looked = rw (explain_by_lem (current-answer.refused_at n place) looked) (is, (refl, no_ulid_lem f))

  alone_explains : (f : Fault) (n : ℕ) → explained_of (Err f) ≡ pack.alone n
      → current-answer.alone n ≡ lookup pack_limit s bucket object → Explains (Err f) told
  alone_explains f n is looked = rw (explain_by_lem (current-answer.alone n) looked) (is, (refl, no_ulid_lem f))

  pub fault_explains : (f : lookup-code.Fault) → refusal_of f ≡ lookup pack_limit s bucket object → Explains (Err (Lookup f)) told
  fault_explains lookup-fault.Inadmissible looked = alone_explains _ _ refl looked
  fault_explains (lookup-fault.Pack f) looked = refused_explains _ _ _ refl looked
  fault_explains (lookup-fault.Unreadable f at) looked = refused_explains _ _ _ refl looked

  -- ---- lines

  -- what the lookup answers where it refuses nothing
  abbrev answer_of : Option Version → current-answer.Answer
  answer_of o = current-answer.answer_of o

  found_answers : (c : Option declared-version.Version) → found_of s (Ok c) ≡ answer_of (candidate_in s c)
  found_answers None = refl
  found_answers (Some v) = refl

  module _ (found : Option declared-version.Version) (looked : found_of s (Ok found) ≡ lookup pack_limit s bucket object) where
    answered : answer_of (candidate_in s found) ≡ lookup pack_limit s bucket object
    answered = sym (found_answers found) ∙ looked

    accepted : (reading pack_limit s).ending ≡ whole
    accepted = by (candidate_in s found) (sym answered)
      where
        by : (o : Option Version) → lookup pack_limit s bucket object ≡ answer_of o → (reading pack_limit s).ending ≡ whole
        by None e = ((lookup_exactly pack_limit s bucket object current-answer.nothing).0 e).0.accepted
        by (Some v) e = ((lookup_exactly pack_limit s bucket object (current-answer.found v)).0 e).0.accepted

    pub lines_checked : Checked s 0
    lines_checked = walk_start pack_limit s accepted

    abbrev all_lines : List Line
    all_lines = lines_of (placed_from pack_limit s 0) (candidate_in s found) bucket object

    explain_lines : explain pack_limit s bucket object ≡ explained all_lines
    explain_lines = explain_by_lem (answer_of (candidate_in s found)) answered ∙ rw (walk_all pack_limit s accepted) (by (candidate_in s found))
      where
        by : (o : Option Version) → explain_by (answer_of o) (placed_from pack_limit s 0) bucket object ≡ explained (lines_of (placed_from pack_limit s 0) o bucket object)
        by None = refl
        by (Some v) = refl

    lines_explain : (ulid : Place) → part_at s ulid ≡ ulid_found (lookup pack_limit s bucket object) → Inside s ulid → (r : Result Explanation Fault) (left : List ℕ)
        → r ≡ fitted_lines (length all_lines) (length told / 3) ulid → left ≡ told_after (explained all_lines) told → Explains r left
    lines_explain ulid is inside r left e f =
        rw (explain_lines, e) (by (leb (length all_lines) (length told / 3)), (f, told_ulid (leb (length all_lines) (length told / 3))))
      where
        whole_list : Explanation
        whole_list = record { count = length all_lines; ulid = ulid }

        by : (t : Bool) → explained_of (cond t (Ok whole_list) (Err NoRoom)) ≡ cond t (pack.counted (length all_lines)) (pack.alone 19)
        by true = refl
        by false = refl

        told_ulid : (t : Bool) → UlidTold s (lookup pack_limit s bucket object) (cond t (Ok whole_list) (Err NoRoom))
        told_ulid true = record {
          is = λ x q. let same : whole_list ≡ x = cc in rw (← same) is;
          inside = λ x q. let same : whole_list ≡ x = cc in rw (← same) inside;
        }
        told_ulid false = no_ulid_lem NoRoom

    -- the ULID stands where that of what was found does
    place_is : (c : Option declared-version.Version) → found_of s (Ok c) ≡ lookup pack_limit s bucket object
        → part_at s (ulid_place c) ≡ ulid_found (lookup pack_limit s bucket object)
    place_is None e = rw (← e)
    place_is (Some v) e = rw (← e)

    place_inside : (c : Option declared-version.Version) → FoundInside s (Ok c) → Inside s (ulid_place c)
    place_inside None inside = record { end = omega arith }
    place_inside (Some v) inside =
        let there = inside.version v refl in
        within_inside s (within_inside s there.value.inside there.told.primary_within) there.told.identifier.ulid

    pub found_explains : (ulid : Place) → ulid ≡ ulid_place found → FoundInside s (Ok found) → (r : Result Explanation Fault) (left : List ℕ)
        → r ≡ fitted_lines (length all_lines) (length told / 3) ulid → left ≡ told_after (explained all_lines) told → Explains r left
    found_explains ulid at inside r left e f = lines_explain ulid (rw at (place_is found looked)) (rw at (place_inside found inside)) r left e f
