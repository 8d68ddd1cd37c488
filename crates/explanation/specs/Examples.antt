-- The five reasons, and their precedence, on records written out; antt computes every row.
use Rattle.std.specs.Prelude.{ℕ, Bool, true, false, List, [], ◌∷◌, ◌≡◌, refl}
use Rattle.slices.specs.Bytes.{same_bytes}
use Rattle.identifier.specs.Texts.{less}
use Rattle.identifier.specs.Identity.{Identity, identity, same_identity}
use Rattle.held_identifier.specs.Held.{has_name}
use Rattle.current_version.specs.Current as current-answer
use Rattle.current_version.specs.Current.{Role, version, deletion, other, Placed, version_of, filtered, better, best, deletes, is_deleted, is_live}
use Rattle.explanation.specs.Reasons.{first_where, holds, reason_of, versions_of, lines_of, rows_of}

abbrev herd : List ℕ
herd = 0x68 ∷ []  -- h

abbrev flock : List ℕ
flock = 0x66 ∷ []  -- f

abbrev scan : List ℕ
scan = 0x73 ∷ []  -- s

-- a version of `herd`; ULIDs are compared as texts, so one byte will do
abbrev of : ℕ → Identity
of x = identity (x ∷ []) herd scan

abbrev at : ℕ → Role → Placed
at start role = record { start = start; role = role; value = [] }

-- the newest is deleted twice, from before and from behind; then come one that is told twice, and an older one
abbrev records : Bool → List Placed
records delete_flag =
    at 0 (version (of 1) false)
    ∷ at 10 (deletion (of 3))
    ∷ at 20 (version (of 3) false)
    ∷ at 30 (version (of 2) delete_flag)
    ∷ at 40 (version (identity (4 ∷ []) flock scan) false)
    ∷ at 50 (version (of 2) true)
    ∷ at 60 (version (of 3) false)
    ∷ at 70 (version (of 1) false)
    ∷ at 80 (deletion (of 3))
    ∷ at 90 other
    ∷ []

abbrev rows : List Placed → List ℕ
rows ps = rows_of (lines_of ps (current-answer.current ps herd scan) herd scan)

-- start, reason, place: older, removed, current, repeat, removed, repeat
all_but_marker : rows (records false) ≡ 0 ∷ 2 ∷ 30 ∷ 20 ∷ 4 ∷ 10 ∷ 30 ∷ 0 ∷ 30 ∷ 50 ∷ 3 ∷ 30 ∷ 60 ∷ 4 ∷ 10 ∷ 70 ∷ 3 ∷ 0 ∷ []
unfolding rows_of lines_of versions_of reason_of first_where holds current-answer.current best better filtered version_of is_live is_deleted deletes
    has_name same_identity same_bytes less
all_but_marker = refl

-- a marker is current as it is: what repeats it has a flag of its own, which plays no part
marker : rows (records true) ≡ 0 ∷ 2 ∷ 30 ∷ 20 ∷ 4 ∷ 10 ∷ 30 ∷ 1 ∷ 30 ∷ 50 ∷ 3 ∷ 30 ∷ 60 ∷ 4 ∷ 10 ∷ 70 ∷ 3 ∷ 0 ∷ []
unfolding rows_of lines_of versions_of reason_of first_where holds current-answer.current best better filtered version_of is_live is_deleted deletes
    has_name same_identity same_bytes less
marker = refl

-- nothing is live: each line is of a removal, and none is older
nothing_live : rows (at 5 (version (of 1) false) ∷ at 15 (deletion (of 1)) ∷ []) ≡ 5 ∷ 4 ∷ 15 ∷ []
unfolding rows_of lines_of versions_of reason_of first_where holds current-answer.current best better filtered version_of is_live is_deleted deletes
    has_name same_identity same_bytes less
nothing_live = refl
