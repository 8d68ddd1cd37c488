-- What a deposited pack is: an accepted pack whose every record is of one of the four tags, can be read and keeps the profile. Of another pack, the first
-- record at fault is told, and its number.
use Rattle.std.specs.Prelude.{ℕ, ◌≤◌, true, ◌≡◌, length}
use mathlib.Core.List.{List, ◌∷◌, ◌++◌, Memᴰ}
use Rattle.std.proofs.Common.{arith}
use Rattle.std.specs.Prelude.{Some}
use Rattle.refusals.specs.Answers as answers
use Rattle.refusals.specs.Answers.{Answer}
use Rattle.pack.specs.declared.Entry.{Entry}
use Rattle.pack.specs.Reading.{reading}
use Rattle.pack.specs.Bounds.{reading_bounded}
use Rattle.records.specs.Record.{is_known, Record, primary_in, read_record}
use Rattle.deposit.specs.Exactly.{Keeps}
use Rattle.deposit.specs.Packs.{value_at, spare_at, entry_fault}

-- ---- one record

-- it is of one of the four tags, can be read, and keeps the profile
pub record MayBeDeposited (limit tag spare : ℕ) (value : List ℕ) : Type 0 where
  pub read : Record
  pub reads : read_record limit tag value ≡ answers.granted read
  pub known : is_known tag ≡ true
  pub keeps : Keeps tag spare value (primary_in value read.told) read.contents.identifier.bucket

-- ---- the records of a pack

module _ (limit : ℕ) (s : List ℕ) where
  abbrev pub EntryMay : Entry → Type 0
  EntryMay e = MayBeDeposited limit e.tag (spare_at s e.start) (value_at s e.start e.length)

  -- the first at fault: those before it may be deposited
  pub record FirstAtFault (es : List Entry) (n at : ℕ) : Type 0 where
    pub before : List Entry
    pub entry : Entry
    pub after : List Entry
    pub cut : es ≡ before ++ (entry ∷ after)
    pub may : (e : Entry) → Memᴰ e before → EntryMay e
    pub fault : entry_fault limit s entry ≡ Some n
    pub stands : entry.start ≡ at

  -- ---- what is told lies within the limit on a pack's length

  pub deposit_count : length (reading limit s).entries ≤ limit
  deposit_count = omega (arith, (reading_bounded limit s).count)
