-- A whole pack handed over in parts: how many records are told and how it ends, and the words that tell of them.
use Rattle.std.specs.Prelude.{ℕ, ◌+◌, ◌-◌, ◌*◌, ◌≤◌, min, Bool, true, false, cond, List, [], ◌∷◌, ◌++◌, ◌≡◌, leb, length, get_or, drop, Option, Some, None, Result, Ok, Err}
use Rattle.std.proofs.Common.{arith, le-leb}
use Rattle.pack.specs.declared.Entry.{Entry}
use Rattle.pack.specs.Reading.{Ending, whole, refused, Reading}
use Rattle.pipe.specs.Taking as pipe
use Rattle.pipe.specs.Taking.{Progress, going, ended}
use Rattle.pipe.specs.declared.Count.{Count}

-- the words of an entry, and of all
abbrev pub words_in : Entry → List ℕ
words_in e = e.start ∷ e.tag ∷ e.length ∷ e.hash ∷ []

unfoldable pub words_of : List Entry → List ℕ
words_of [] = []
words_of (e ∷ es) = words_in e ++ words_of es

-- so many records, and how the pack ends; or that the lent words are too few for them
pub data Feeding : Type 0 where
  told : (records : ℕ) → Ending → Feeding
  short : Feeding

-- what each answer of the code says
abbrev pub ending_of : Result (Unit {0}) (ℕ × ℕ) → Ending
ending_of (Ok _) = whole
ending_of (Err r) = refused r.0 r.1

-- how a pack ends that is closed so
abbrev pub ending_in : Progress → Ending
ending_in (going g) = whole
ending_in (pipe.refused n place) = refused n place
ending_in (ended records) = whole

abbrev pub feeding_of : Option Count → Feeding
feeding_of (Some c) = told c.records (ending_of c.verdict)
feeding_of None = short

-- four words a record
abbrev pub has_room : Reading → ℕ → Bool
has_room r room = leb (4 * length r.entries) room

unfoldable pub fed : Reading → ℕ → Feeding
fed r room = cond (has_room r room) (told (length r.entries) r.ending) short

-- the words at exit: those of the records, and after them what was there
unfoldable pub words_after : Reading → List ℕ → List ℕ
words_after r words = cond (has_room r (length words)) (words_of r.entries ++ drop (4 * length r.entries) words) words

-- ---- the parts of a pack, by their lengths; what is left of it is one part more

-- where the part at hand ends that begins at a place: the k-th, from 0, of a pack of so many bytes
unfoldable pub part_end : ℕ → List ℕ → ℕ → ℕ → ℕ
part_end len lengths k at = cond (leb (length lengths) k) len (at + min (get_or lengths k 0) (len - at))

pub part_end_last : (len : ℕ) (lengths : List ℕ) (k at : ℕ) → length lengths ≤ k → part_end len lengths k at ≡ len
unfolding part_end
part_end_last len lengths k at l = rw (le-leb (length lengths) k l)

pub part_end_within : (len : ℕ) (lengths : List ℕ) (k at : ℕ) → at ≤ len → (at ≤ part_end len lengths k at) × (part_end len lengths k at ≤ len)
unfolding part_end
part_end_within len lengths k at l = go (leb (length lengths) k)
  where
    go : (t : Bool) → (at ≤ cond t len (at + min (get_or lengths k 0) (len - at))) × (cond t len (at + min (get_or lengths k 0) (len - at)) ≤ len)
    go true = (l, omega arith)
    go false = (omega arith, omega arith)
