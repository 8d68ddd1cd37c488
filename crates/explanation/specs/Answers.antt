-- What the answers of the code say: document 01's numbers, and rows of three words.
use Rattle.std.specs.Prelude.{ℕ, ◌/◌, Bool, cond, List, [], ◌∷◌, ◌≡◌, leb, length}
use Rattle.std.specs.Prelude.{Option, None, Some, Result, Ok, Err}
use Rattle.slices.specs.Overwriting.{overwritten}
use Rattle.slices.specs.Places.{part_at, Inside}
use Rattle.slices.specs.declared.Place.{Place}
use Rattle.pack.specs.Reading as pack
use Rattle.pack.specs.Reading.{Outcome, counted}
use Rattle.identifier.specs.Identity.{Identity}
use Rattle.records.specs.Answers as records
use Rattle.current_version.specs.Current as current-answer
use Rattle.current_version.specs.Current.{Placed, Version}
use Rattle.lookup.specs.declared.Fault as lookup
use Rattle.lookup.specs.declared.Fault.TheVariants as lookup-fault
use Rattle.explanation.specs.Reasons.{current, current_marker, unless_older, Line, line_of, rows_of, Answer, explained, refused_at, alone}
use Rattle.explanation.specs.declared.Row.{Row}
use Rattle.explanation.specs.declared.Explanation.{Explanation}
use Rattle.explanation.specs.declared.Fault.{Fault}
use Rattle.explanation.specs.declared.Fault.TheVariants.{Lookup, NoRoom}

-- ---- on the way

-- a version at a place; its value plays no part in a reason
abbrev pub version_at : ℕ → Identity → Bool → Version
version_at start i delete_flag = record { identifier = i; delete_flag = delete_flag; value = []; start = start }

-- the line of the current one itself
abbrev pub own_line : ℕ → Bool → Line
own_line start delete_flag = record { start = start; reason = cond delete_flag current_marker current }

-- its line, where no deletion names it and it repeats none
abbrev pub standing_line : ℕ → Bool → Option Version → Line
standing_line start delete_flag found = record { start = start; reason = unless_older start found (cond delete_flag current_marker current) }

-- how many lines it has, if it is one of the name
abbrev pub count_of : Option Version → ℕ
count_of None = 0
count_of (Some v) = 1

abbrev pub row_in : Row → List ℕ
row_in r = r.start ∷ r.reason ∷ r.place ∷ []

-- the words of a record that has a line or none
abbrev pub words_in : Option Row → List ℕ
words_in None = []
words_in (Some r) = row_in r

abbrev pub count_in : Option Row → ℕ
count_in None = 0
count_in (Some r) = 1

abbrev pub lines_for : List Placed → Option Version → Option Version → List Line
lines_for ps found None = []
lines_for ps found (Some v) = line_of ps found v ∷ []

-- ---- answers

abbrev pub outcome : Answer → Outcome
outcome (explained ls) = counted (length ls)
outcome (refused_at n at) = pack.refused n at
outcome (alone n) = pack.alone n

-- only a name that breaks the rules is refused at no place
abbrev pub refusal_of : lookup.Fault → Outcome
refusal_of lookup-fault.Inadmissible = pack.alone 20
refusal_of (lookup-fault.Pack f) = pack.refused (pack.fault_number f) (pack.fault_place f)
refusal_of (lookup-fault.Unreadable f at) = pack.refused (records.number_of f) at

abbrev pub explained_of : Result Explanation Fault → Outcome
explained_of (Ok e) = counted e.count
explained_of (Err (Lookup f)) = refusal_of f
explained_of (Err NoRoom) = pack.alone 19

-- the lent words at exit: three for each line in front, where there is room for all; a refusal leaves them as they were
abbrev pub told_after : Answer → List ℕ → List ℕ
told_after (explained ls) told = cond (leb (length ls) (length told / 3)) (overwritten told 0 (rows_of ls)) told
told_after (refused_at n at) told = told
told_after (alone n) told = told

-- with so many lines and room for so many
abbrev pub fitted_lines : ℕ → ℕ → Place → Result Explanation Fault
fitted_lines n room ulid = cond (leb n room) (Ok (record { count = n; ulid = ulid })) (Err NoRoom)

-- ---- the ULID of the current version, which `older` names

abbrev pub ulid_found : current-answer.Answer → List ℕ
ulid_found current-answer.nothing = []
ulid_found (current-answer.found v) = v.identifier.ulid
ulid_found (current-answer.refused_at n at) = []
ulid_found (current-answer.alone n) = []

pub record UlidTold (s : List ℕ) (found : current-answer.Answer) (r : Result Explanation Fault) : Type 0 where
  pub is : (e : Explanation) → r ≡ Ok e → part_at s e.ulid ≡ ulid_found found
  pub inside : (e : Explanation) → r ≡ Ok e → Inside s e.ulid
