-- Why a version is current, or why not: a line for each version record of a name (change request 3).
use Rattle.std.specs.Prelude.{ℕ, Bool, false, cond, List, [], ◌∷◌, ◌++◌, map, eqb}
use Rattle.std.specs.Prelude.{Option, None, Some}
use Rattle.pack.specs.Reading.{reading}
use Rattle.identifier.specs.Identity.{Identity, same_identity}
use Rattle.held_identifier.specs.Held.{has_name}
use Rattle.current_version.specs.Current as current-answer
use Rattle.current_version.specs.Current.{Role, version, deletion, other, unreadable, Placed, placed, Version, version_of, filtered, deletes, lookup}

pub data Reason : Type 0 where
  current : Reason  -- `current`
  current_marker : Reason  -- `current marker`
  older : Version → Reason  -- `older U`: the current version
  repeated : ℕ → Reason  -- `repeat P`: where the earliest version record with its identifier starts
  removed : ℕ → Reason  -- `removed P`: where the earliest deletion of it starts

pub record Line : Type 0 where
  pub start : ℕ
  pub reason : Reason

-- ---- the earliest record of its kind

-- the start of the first record whose role passes a test
unfoldable pub first_where : (Role → Bool) → List Placed → Option ℕ
first_where test [] = None
first_where test (p ∷ ps) = cond (test p.role) (Some p.start) (first_where test ps)

-- a version with this identifier
unfoldable pub holds : Identity → Role → Bool
holds i (version j delete_flag) = same_identity j i
holds i (deletion j) = false
holds i other = false
holds i (unreadable n) = false

-- wherever they stand
abbrev pub first_deletion : List Placed → Identity → Option ℕ
first_deletion ps i = first_where (deletes i) ps

abbrev pub first_version : List Placed → Identity → Option ℕ
first_version ps i = first_where (holds i) ps

-- ---- the reason of one version: removal comes first, then repeat, then older

abbrev pub unless_removed : Option ℕ → Reason → Reason
unless_removed None next = next
unless_removed (Some p) next = removed p

-- its own record is a version record with its identifier
abbrev pub unless_repeated : ℕ → Option ℕ → Reason → Reason
unless_repeated start None next = next
unless_repeated start (Some p) next = cond (eqb p start) next (repeated p)

abbrev pub unless_older : ℕ → Option Version → Reason → Reason
unless_older start None next = next
unless_older start (Some c) next = cond (eqb c.start start) next (older c)

-- among the records of a pack, with what the lookup finds there
unfoldable pub reason_of : List Placed → Option Version → Version → Reason
reason_of ps found v =
    unless_removed (first_deletion ps v.identifier)
    (unless_repeated v.start (first_version ps v.identifier) (unless_older v.start found (cond v.delete_flag current_marker current)))

abbrev pub line_of : List Placed → Option Version → Version → Line
line_of ps found v = record { start = v.start; reason = reason_of ps found v }

-- ---- the lines of a name: one for each of its version records, in pack order

abbrev pub is_named : List ℕ → List ℕ → Identity → Bool
is_named bucket object i = has_name (Some i) bucket object

abbrev pub with_first : Option Version → List Version → List Version
with_first None vs = vs
with_first (Some v) vs = v ∷ vs

unfoldable pub versions_of : List ℕ → List ℕ → List Placed → List Version
versions_of bucket object [] = []
versions_of bucket object (p ∷ ps) = with_first (filtered (is_named bucket object) (version_of p)) (versions_of bucket object ps)

unfoldable pub lines_of : List Placed → Option Version → List ℕ → List ℕ → List Line
lines_of ps found bucket object = map (line_of ps found) (versions_of bucket object ps)

-- ---- the explanation of a pack: the lookup's own refusals, or all lines

pub data Answer : Type 0 where
  explained : List Line → Answer
  refused_at : (number place : ℕ) → Answer
  alone : (number : ℕ) → Answer

-- of the records of a pack, by what the lookup answers
abbrev pub explain_by : current-answer.Answer → List Placed → List ℕ → List ℕ → Answer
explain_by current-answer.nothing ps bucket object = explained (lines_of ps None bucket object)
explain_by (current-answer.found v) ps bucket object = explained (lines_of ps (Some v) bucket object)
explain_by (current-answer.refused_at n at) ps bucket object = refused_at n at
explain_by (current-answer.alone n) ps bucket object = alone n

unfoldable pub explain : ℕ → List ℕ → List ℕ → List ℕ → Answer
explain limit s bucket object = explain_by (lookup limit s bucket object) (map (placed limit s) (reading limit s).entries) bucket object

-- ---- a line in three numbers: start, reason, place

abbrev pub reason_number : Reason → ℕ
reason_number current = 0
reason_number current_marker = 1
reason_number (older c) = 2
reason_number (repeated p) = 3
reason_number (removed p) = 4

-- of a current one its own start, of an older one that of the current one
abbrev pub reason_place : ℕ → Reason → ℕ
reason_place start current = start
reason_place start current_marker = start
reason_place start (older c) = c.start
reason_place start (repeated p) = p
reason_place start (removed p) = p

abbrev pub row_of : Line → List ℕ
row_of l = l.start ∷ reason_number l.reason ∷ reason_place l.start l.reason ∷ []

unfoldable pub rows_of : List Line → List ℕ
rows_of [] = []
rows_of (l ∷ ls) = row_of l ++ rows_of ls
