-- The relations that the demands are said with here tell things apart: what differs in one respect alone is not related. Those of crates below have
-- a file of this name there.
use Rattle.std.specs.Prelude.{ℕ, ◌≤◌, true, cond, List, ◌≡◌, length, take}
use Rattle.std.specs.Prelude.{Option, Result, Ok}
use Rattle.refusals.specs.Limit.{pack_limit}
use Rattle.refusals.specs.Answers as refusals
use Rattle.refusals.specs.Answers.{granted}
use Rattle.refusals.specs.declared.Unwritten.{Unwritten}
use Rattle.records.specs.Answers.{PlaceInside}
use Rattle.writer.specs.Writing.{Item, written, buffer_after}
use Rattle.writer_laws.specs.Added.{IsAdded}
use Rattle.current_version.specs.Current.{refused_at, is_name, lookup}
use Rattle.current_version.specs.Packs.{ReadablePack, SameAnswer}
use Rattle.current_version.specs.Bytes.{SameRecordsIn, OneValueIn}
use Rattle.lookup.specs.Answers.{found_of, FoundInside}
use Rattle.demands_laws.specs.Deletion.{TakesOut}
use Rattle.demands_laws.specs.Sites.{AlikePacks, AlikeLookups}
use Rattle.demands.specs.Answers.{of_front, answers_of, looked_up, DeletionHolds, BothHold, read_back_of, read_behind, ReadBackHolds}
use Rattle.demands.specs.declared.LookedUp.{LookedUp}
use Rattle.demands.specs.declared.Both.{Both}
use Rattle.demands.specs.declared.ReadBack.{ReadBack}

-- ---- the calls that write a deletion and look an object up

module _ (used : ℕ) (asked : Option Item) (before bucket object : List ℕ) (r : Result LookedUp Unwritten) (after : List ℕ)
    (x : DeletionHolds used asked before bucket object r after) where
  pub other_answers_than_the_calls : (answers_of after r ≡ of_front (looked_up bucket object) after
      (cond (is_name bucket object) (written pack_limit (length before) used asked) (refusals.refused 20)) → ⊥) → ⊥
  other_answers_than_the_calls d = d x.answers

  pub another_buffer : (after ≡ cond (is_name bucket object) (buffer_after pack_limit used asked before) before → ⊥) → ⊥
  another_buffer d = d x.buffer

  module _ (l : LookedUp) (is : r ≡ Ok l) where
    pub found_outside : (FoundInside (take l.count after) l.found → ⊥) → ⊥
    found_outside d = d (x.found_inside.inside l is)

    pub name_is_not_admissible : (is_name bucket object ≡ true → ⊥) → ⊥
    name_is_not_admissible d = d (x.named l is)

    pub more_told_than_there : (used ≤ length before → ⊥) → ⊥
    more_told_than_there d = d (x.told_inside l is)

    pub others_are_taken_out : ReadablePack pack_limit (take used before)
        → (TakesOut pack_limit asked (take used before) bucket object (found_of (take l.count after) l.found) → ⊥) → ⊥
    others_are_taken_out readable d = d (x.takes_out l is readable)

    -- where a refusal is found
    module _ (number place : ℕ) (found : found_of (take l.count after) l.found ≡ refused_at number place) where
      pub lookup_does_not_refuse : (lookup pack_limit (take l.count after) bucket object ≡ refused_at number place → ⊥) → ⊥
      lookup_does_not_refuse d = d (x.stands_written l number place is found).refuses

      pub another_count : (written pack_limit (length before) used asked ≡ granted l.count → ⊥) → ⊥
      another_count d = d (x.stands_written l number place is found).counted

      pub not_written : (after ≡ buffer_after pack_limit used asked before → ⊥) → ⊥
      not_written d = d (x.stands_written l number place is found).buffer

      pub nothing_was_damaged : ReadablePack pack_limit (take used before) → ⊥
      nothing_was_damaged = (x.stands_written l number place is found).damaged

-- ---- a record added

module _ (used : ℕ) (asked : Option Item) (before : List ℕ) (r : Result ReadBack Unwritten) (after : List ℕ) (x : ReadBackHolds used asked before r after) where
  pub other_answers_than_the_readings : (read_back_of after r ≡ of_front (read_behind used) after (written pack_limit (length before) used asked) → ⊥) → ⊥
  other_answers_than_the_readings d = d x.answers

  pub another_buffer_read : (after ≡ buffer_after pack_limit used asked before → ⊥) → ⊥
  another_buffer_read d = d x.buffer

  module _ (b : ReadBack) (is : r ≡ Ok b) where
    pub read_outside : (PlaceInside (take b.count after) used b.read → ⊥) → ⊥
    read_outside d = d (x.read_inside.inside b is)

    pub read_behind_the_end : (used ≤ length before → ⊥) → ⊥
    read_behind_the_end d = d (x.told_inside b is)

    pub another_is_added : (IsAdded asked (take used before) (take b.count after) b.read → ⊥) → ⊥
    another_is_added d = d (x.reads_back b is)

-- ---- a lookup in two packs

module _ (first second bucket object : List ℕ) (r : Both) (x : BothHold first second bucket object r) where
  pub first_answer_differs : (found_of first r.first ≡ lookup pack_limit first bucket object → ⊥) → ⊥
  first_answer_differs d = d x.first_is

  pub second_answer_differs : (found_of second r.second ≡ lookup pack_limit second bucket object → ⊥) → ⊥
  second_answer_differs d = d x.second_is

  pub the_answers_differ : ReadablePack pack_limit first → ReadablePack pack_limit second → SameRecordsIn pack_limit first second
      → OneValueIn pack_limit first → is_name bucket object ≡ true → (SameAnswer (found_of first r.first) (found_of second r.second) → ⊥) → ⊥
  the_answers_differ p q same one name d = d (x.alike p q same one name)

  pub the_sites_differ : AlikePacks pack_limit first second
      → (AlikeLookups pack_limit first second (found_of first r.first) (found_of second r.second) → ⊥) → ⊥
  the_sites_differ alike d = d (x.sites alike)

  pub first_found_outside : (FoundInside first r.first → ⊥) → ⊥
  first_found_outside d = d x.first_inside

  pub second_found_outside : (FoundInside second r.second → ⊥) → ⊥
  second_found_outside d = d x.second_inside
