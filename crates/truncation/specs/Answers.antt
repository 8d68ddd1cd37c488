-- What the check and the scan of the first n bytes of an accepted pack answer, and what the scan's list then holds, by where the cut falls.
use Rattle.std.specs.Prelude.{ℕ, ◌-◌, ◌≤◌, ◌<◌, List, ◌++◌, ◌≡◌, length, drop}
use Rattle.pack.specs.declared.Entry.{Entry}
use Rattle.pack.specs.Reading.{Outcome, counted, refused, alone}
use Rattle.truncation.specs.Steps.{cut_number}
use Rattle.truncation.specs.Cut.{BetweenRecords, InsideRecord}

-- as many records as stand before the cut; or the refusal, at the start of the broken record
pub record CheckedCut (es : List Entry) (n : ℕ) (answer : Outcome) : Type 0 where
  pub between : (c : BetweenRecords es n) → answer ≡ counted (length c.before)
  pub inside : (c : InsideRecord es n) → answer ≡ refused (cut_number (n - c.broken.start)) c.broken.start

-- the same of the scan: these records' entries are at the front of the list, or it is too short for them, or is as it was
pub record ScannedCut (es : List Entry) (n : ℕ) (list : List Entry) (answer : Outcome) (after : List Entry) : Type 0 where
  pub between : (c : BetweenRecords es n) → length c.before ≤ length list
      → (answer ≡ counted (length c.before)) × (after ≡ c.before ++ drop (length c.before) list)
  pub short : (c : BetweenRecords es n) → length list < length c.before → (answer ≡ alone 19) × (after ≡ list)
  pub inside : (c : InsideRecord es n) → (answer ≡ refused (cut_number (n - c.broken.start)) c.broken.start) × (after ≡ list)
