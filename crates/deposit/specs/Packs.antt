-- A pack checked against the deposit profile: 1 to 8 for the whole pack, and then the first record at fault.
use Rattle.std.specs.Prelude.{ℕ, ◌+◌, List, [], ◌∷◌, take, drop}
use Rattle.std.specs.Prelude.{Option, None, Some}
use Rattle.tlv.specs.Layout.{field}
use Rattle.pack.specs.declared.Entry.{Entry}
use Rattle.pack.specs.Reading.{Reading, Ending, whole, refused, reading, Outcome, counted, outcome}
use Rattle.deposit.specs.Profile.{fault_of}

-- the value of the record that an entry tells of, and its bytes 28 and 29
abbrev pub value_at : List ℕ → ℕ → ℕ → List ℕ
value_at s start len = take len (drop (start + 32) s)

abbrev pub spare_at : List ℕ → ℕ → ℕ
spare_at s start = field (drop start s) 28 2

unfoldable pub entry_fault : ℕ → List ℕ → Entry → Option ℕ
entry_fault limit s e = fault_of limit e.tag (spare_at s e.start) (value_at s e.start e.length)

abbrev pub or_at : Option ℕ → ℕ → Ending → Ending
or_at None start later = later
or_at (Some n) start later = refused n start

-- the first of these records that is at fault, with its start
unfoldable pub first_fault : ℕ → List ℕ → List Entry → Ending
first_fault limit s [] = whole
first_fault limit s (e ∷ es) = or_at (entry_fault limit s e) e.start (first_fault limit s es)

abbrev pub if_whole : Ending → Ending → Ending
if_whole whole later = later
if_whole (refused n at) later = refused n at

-- by how many records there are
abbrev pub outcome_by : ℕ → Ending → Outcome
outcome_by count whole = counted count
outcome_by count (refused n at) = refused n at

-- the pack s, read under a limit on its length; it is a deposited pack when this ends whole
unfoldable pub deposit_reading : ℕ → List ℕ → Reading
deposit_reading limit s =
    record { entries = (reading limit s).entries; ending = if_whole (reading limit s).ending (first_fault limit s (reading limit s).entries) }

-- how many records it has, or the refusal with its place
abbrev pub deposit : ℕ → List ℕ → Outcome
deposit limit s = outcome (deposit_reading limit s)
