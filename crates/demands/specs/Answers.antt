-- What the code that writes, reads and looks up answers, for every input; and of these answers demand 3, and demand 2's read-back.
use Rattle.std.specs.Prelude.{ℕ, ◌+◌, ◌≤◌, Bool, true, cond, List, ◌≡◌, length, take}
use Rattle.std.specs.Prelude.{Option, Result, Ok, Err}
use Rattle.refusals.specs.Answers as refusals
use Rattle.refusals.specs.Limit.{pack_limit}
use Rattle.refusals.specs.Answers.{granted}
use Rattle.refusals.specs.Unwritten.{number_of}
use Rattle.refusals.specs.declared.Unwritten.{Unwritten}
use Rattle.records.specs.Record.{AtPlace, record_at, there_from}
use Rattle.records.specs.Answers.{place_of, PlaceInside}
use Rattle.writer.specs.Writing.{Item, answer_of, written, buffer_after}
use Rattle.writer_laws.specs.Added.{IsAdded}
use Rattle.current_version.specs.Current.{Answer, refused_at, is_name, lookup}
use Rattle.current_version.specs.Packs.{ReadablePack, SameAnswer}
use Rattle.current_version.specs.Bytes.{SameRecordsIn, OneValueIn}
use Rattle.lookup.specs.Answers.{found_of, FoundInside}
use Rattle.demands_laws.specs.Deletion.{TakesOut}
use Rattle.demands_laws.specs.Sites.{AlikePacks, AlikeLookups}
use Rattle.demands.specs.declared.LookedUp.{LookedUp}
use Rattle.demands.specs.declared.Both.{Both}
use Rattle.demands.specs.declared.ReadBack.{ReadBack}

-- ---- the writer's call, and what is then told of the front as long as the count that it returns

-- the count, and what is told of the front; or the number of the refusal, after which nothing is read
pub data Answers (A : Type 0) : Type 0 where
  counted : (count : ℕ) → A → Answers A
  refused : (number : ℕ) → Answers A

-- by what the writer answers and the buffer then holds
abbrev pub of_front : {A : Type 0} → (List ℕ → A) → List ℕ → refusals.Answer ℕ → Answers A
of_front tell buf (granted n) = counted n (tell (take n buf))
of_front tell buf (refusals.refused n) = refused n

-- a count lies in the buffer
pub record CountInside (buf : List ℕ) (w : Result ℕ Unwritten) : Type 0 where
  pub inside : (n : ℕ) → w ≡ Ok n → n ≤ length buf

-- ---- a deletion, and a lookup after it

abbrev pub answers_of : List ℕ → Result LookedUp Unwritten → Answers Answer
answers_of buf (Ok l) = counted l.count (found_of (take l.count buf) l.found)
answers_of buf (Err u) = refused (number_of u)

abbrev pub looked_up : List ℕ → List ℕ → List ℕ → Answer
looked_up bucket object s = lookup pack_limit s bucket object

-- the writer's call, made only where the name is admissible: document 01 tests 20 first
pub record WritesFor (admissible : Bool) (used : ℕ) (asked : Option Item) (before : List ℕ) (w : Result ℕ Unwritten) (after : List ℕ) : Type 0 where
  pub answer : answer_of w ≡ cond admissible (written pack_limit (length before) used asked) (refusals.refused 20)
  pub buffer : after ≡ cond admissible (buffer_after pack_limit used asked before) before

-- what is found lies in the pack
pub record DeletionInside (buf : List ℕ) (r : Result LookedUp Unwritten) : Type 0 where
  pub inside : (l : LookedUp) → r ≡ Ok l → FoundInside (take l.count buf) l.found

-- the lookup refuses when the deletion has been written, for what stood before it: the deletion stands written
pub record StandsWritten (used n number place : ℕ) (asked : Option Item) (before bucket object after : List ℕ) : Type 0 where
  pub refuses : lookup pack_limit (take n after) bucket object ≡ refused_at number place
  pub counted : written pack_limit (length before) used asked ≡ granted n
  pub buffer : after ≡ buffer_after pack_limit used asked before
  -- the front before was not accepted, or some `vr` or `vd` record of it could not be read
  pub damaged : ReadablePack pack_limit (take used before) → ⊥

-- of a call that is asked to add a `vd` after the first `used` bytes
pub record DeletionHolds (used : ℕ) (asked : Option Item) (before bucket object : List ℕ) (r : Result LookedUp Unwritten) (after : List ℕ) : Type 0 where
  pub answers : answers_of after r
      ≡ of_front (looked_up bucket object) after (cond (is_name bucket object) (written pack_limit (length before) used asked) (refusals.refused 20))
  pub buffer : after ≡ cond (is_name bucket object) (buffer_after pack_limit used asked before) before
  pub found_inside : DeletionInside after r
  -- where the writer adds it, the name is admissible and the front is as long as was told
  pub named : (l : LookedUp) → r ≡ Ok l → is_name bucket object ≡ true
  pub told_inside : (l : LookedUp) → r ≡ Ok l → used ≤ length before
  -- demand 3: and where this front is accepted and its `vr` and `vd` records can all be read, the answer for an object is that for the
  -- front with all `vr` records of the identifier taken out
  pub takes_out : (l : LookedUp) → r ≡ Ok l → ReadablePack pack_limit (take used before)
      → TakesOut pack_limit asked (take used before) bucket object (found_of (take l.count after) l.found)
  pub stands_written : (l : LookedUp) (number place : ℕ) → r ≡ Ok l → found_of (take l.count after) l.found ≡ refused_at number place
      → StandsWritten used l.count number place asked before bucket object after

-- ---- a lookup in two packs

pub record BothHold (first second bucket object : List ℕ) (r : Both) : Type 0 where
  pub first_is : found_of first r.first ≡ lookup pack_limit first bucket object
  pub second_is : found_of second r.second ≡ lookup pack_limit second bucket object
  pub first_inside : FoundInside first r.first
  pub second_inside : FoundInside second r.second
  -- demand 3: where both are accepted, their `vr` and `vd` records can all be read, they have the same records, each as often, and `vr`
  -- records that share an identifier have equal values, the answers for an object are the same
  pub alike : ReadablePack pack_limit first → ReadablePack pack_limit second → SameRecordsIn pack_limit first second
      → OneValueIn pack_limit first → is_name bucket object ≡ true → SameAnswer (found_of first r.first) (found_of second r.second)
  -- demand 2: where the records of both are alike one by one, so are the answers
  pub sites : AlikePacks pack_limit first second → AlikeLookups pack_limit first second (found_of first r.first) (found_of second r.second)

-- ---- a record written, and read at its place

abbrev pub read_back_of : List ℕ → Result ReadBack Unwritten → Answers AtPlace
read_back_of buf (Ok b) = counted b.count (place_of (take b.count buf) b.read)
read_back_of buf (Err u) = refused (number_of u)

-- behind the first `used` bytes, in places of the pack
abbrev pub read_behind : ℕ → List ℕ → AtPlace
read_behind used s = there_from (used + 32) (record_at pack_limit s used)

pub record ReadInside (used : ℕ) (buf : List ℕ) (r : Result ReadBack Unwritten) : Type 0 where
  pub inside : (b : ReadBack) → r ≡ Ok b → PlaceInside (take b.count buf) used b.read

-- of a call that is asked to add a record after the first `used` bytes
pub record ReadBackHolds (used : ℕ) (asked : Option Item) (before : List ℕ) (r : Result ReadBack Unwritten) (after : List ℕ) : Type 0 where
  pub answers : read_back_of after r ≡ of_front (read_behind used) after (written pack_limit (length before) used asked)
  pub buffer : after ≡ buffer_after pack_limit used asked before
  pub read_inside : ReadInside used after r
  pub told_inside : (b : ReadBack) → r ≡ Ok b → used ≤ length before
  -- demand 2: what is read is what was handed in
  pub reads_back : (b : ReadBack) → r ≡ Ok b → IsAdded asked (take used before) (take b.count after) b.read
