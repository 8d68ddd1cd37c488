-- The row of one record, reason by reason: a removal, a repeat, or where it stands beside the current version.
use Prim.Native.Nat.{ℕ}
use mathlib.Core.Bool.{Bool, true, false}
use mathlib.Core.List.{List, [], ◌∷◌}
use Rattle.std.specs.Prelude.{Option, None, Some}
use mathlib.Core.Path.{◌≡◌, refl}
use borrow.Author.Tests.{eq-eqb, ne_eqb}
use Rattle.slices.specs.Places.{part_at}
use Rattle.slices.specs.declared.Place.{Place}
use Rattle.identifier.specs.Identity.{Identity, identity}
use Rattle.held_identifier.specs.Held.{has_name}
use Rattle.primary.specs.Answers.{texts_in}
use Rattle.primary.specs.declared.Texts.{Texts}
use Rattle.current_version.specs.Current.{Placed, Version, version_by, version_of, filtered}
use Rattle.current_version.specs.Exactly.{has_name_lem}
use Rattle.lookup_records.specs.Answers.{role_in}
use Rattle.lookup_records.specs.declared.Role as declared
use Rattle.lookup_records.specs.declared.Role.TheVariants as role-answer
use Rattle.lookup_records.specs.declared.Visited.{Visited}
use Rattle.lookup.specs.Answers.{placed_in, candidate_in}
use Rattle.lookup.specs.declared.Version as declared-version
use Rattle.explanation.specs.Reasons.{first_deletion, first_version, reason_of, line_of, is_named, row_of, rows_of}
use Rattle.explanation.specs.Answers.{version_at, own_line, standing_line, count_of, lines_for}

-- ---- beside the current version

module _ (s : List ℕ) (found : Option declared-version.Version) (start : ℕ) (delete_flag : Bool) where
  abbrev row : List ℕ
  row = row_of (standing_line start delete_flag (candidate_in s found))

  pub none_current : found ≡ None → row_of (own_line start delete_flag) ≡ row
  none_current is = rw is

  module _ (v : declared-version.Version) (is : found ≡ Some v) where
    pub itself_current : v.start ≡ start → row_of (own_line start delete_flag) ≡ row
    itself_current e = rw (is, eq-eqb v.start start e)

    pub other_current : (v.start ≡ start → ⊥) → start ∷ 2 ∷ v.start ∷ [] ≡ row
    other_current e = rw (is, ne_eqb v.start start e)

-- ---- of a version of the name

module _ (ps : List Placed) (found : Option Version) (start : ℕ) (i : Identity) (delete_flag : Bool) where
  abbrev row_at : List ℕ
  row_at = row_of (line_of ps found (version_at start i delete_flag))

  pub removed_row : (p : ℕ) → Some p ≡ first_deletion ps i → start ∷ 4 ∷ p ∷ [] ≡ row_at
  unfolding reason_of
  removed_row p e = rw (← e)

  module _ (kept : None ≡ first_deletion ps i) where
    pub unrepeated_row : None ≡ first_version ps i → row_of (standing_line start delete_flag found) ≡ row_at
    unfolding reason_of
    unrepeated_row e = rw (← kept, ← e)

    pub first_row : (p : ℕ) → Some p ≡ first_version ps i → p ≡ start → row_of (standing_line start delete_flag found) ≡ row_at
    unfolding reason_of
    first_row p e same = rw (← kept, ← e, eq-eqb p start same)

    pub repeated_row : (p : ℕ) → Some p ≡ first_version ps i → (p ≡ start → ⊥) → start ∷ 3 ∷ p ∷ [] ≡ row_at
    unfolding reason_of
    repeated_row p e differs = rw (← kept, ← e, ne_eqb p start differs)

-- ---- of the record at a place

-- a role other than `Version` tells none
no_version : (s : List ℕ) (start : ℕ) (value : List ℕ) (r : declared.Role)
    → ((primary : Place) (t : Texts) (deleted : Bool) → r ≡ role-answer.Version primary t deleted → ⊥) → version_by start value (role_in s r) ≡ None
no_version s start value (role-answer.Version primary t deleted) k = absurd (k primary t deleted refl)
no_version s start value (role-answer.Deletion t) k = refl
no_version s start value role-answer.Other k = refl
no_version s start value (role-answer.Unreadable f) k = refl

module _ (s bucket object : List ℕ) (r : declared.Role) where
  abbrev count : ℕ
  count = count_of (filtered (is_named bucket object) (version_by 0 [] (role_in s r)))

  pub none_counted : ((primary : Place) (t : Texts) (deleted : Bool) → r ≡ role-answer.Version primary t deleted → ⊥) → 0 ≡ count
  unfolding filtered
  none_counted z = rw (no_version s 0 [] r z)

  module _ (primary : Place) (t : Texts) (deleted : Bool) (is : r ≡ role-answer.Version primary t deleted) where
    pub other_counted : has_name (Some (texts_in s t)) bucket object ≡ false → 0 ≡ count
    unfolding filtered
    other_counted n = rw (is, n)

    pub one_counted : has_name (Some (texts_in s t)) bucket object ≡ true → 1 ≡ count
    unfolding filtered
    one_counted n = rw (is, n)

module _ (ps : List Placed) (found : Option Version) (s bucket object : List ℕ) (at : ℕ) (v : Visited) where
  abbrev rows : List ℕ
  rows = rows_of (lines_for ps found (filtered (is_named bucket object) (version_of (placed_in s at v))))

  pub none_told : ((primary : Place) (t : Texts) (deleted : Bool) → v.role ≡ role-answer.Version primary t deleted → ⊥) → [] ≡ rows
  unfolding filtered version_of rows_of
  none_told z = rw (no_version s at _ v.role z)

  module _ (primary : Place) (t : Texts) (deleted : Bool) (is : v.role ≡ role-answer.Version primary t deleted) where
    pub other_told : has_name (Some (texts_in s t)) bucket object ≡ false → [] ≡ rows
    unfolding filtered version_of rows_of
    other_told n = rw (is, n)

    pub line_told : has_name (Some (texts_in s t)) bucket object ≡ true → row_of (line_of ps found (version_at at (identity (part_at s t.ulid) bucket object) deleted)) ≡ rows
    unfolding filtered version_of rows_of reason_of
    line_told n =
        let names = has_name_lem bucket object (texts_in s t) n in
        rw (is, n, ← names.0, ← names.1)
