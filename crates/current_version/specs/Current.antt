-- The current version of an object in a pack (document 01, "The current version").
use Rattle.std.specs.Prelude.{ℕ, Bool, false, cond, not, ◌&&◌, ◌||◌, List, [], ◌∷◌, map, eqb, take, drop}
use Rattle.std.specs.Prelude.{Option, None, Some}
use Rattle.refusals.specs.Answers as refusals
use Rattle.pack.specs.Reading.{Ending, whole, refused, reading}
use Rattle.pack.specs.declared.Entry.{Entry}
use Rattle.identifier.specs.Texts.{less}
use Rattle.identifier.specs.Identity.{Identity, same_identity, is_bucket, is_object}
use Rattle.held_identifier.specs.Held.{has_name}
use Rattle.records.specs.Record as records
use Rattle.records.specs.Record.{version_tag, version_delete_tag, read_record}

-- ---- what a record is to a lookup, by its tag and value

pub data Role : Type 0 where
  version : Identity → Bool → Role  -- whether it is a delete marker
  deletion : Identity → Role  -- the version it names; its delete identifier plays no part
  other : Role
  unreadable : ℕ → Role  -- with document 01's number

abbrev pub role_by : Identity → records.Kind → Role
role_by i records.block = other
role_by i (records.version delete_flag) = version i delete_flag
role_by i (records.version_delete delete_id) = deletion i
role_by i (records.pack_list entries) = other

abbrev pub role_of : refusals.Answer records.Record → Role
role_of (refusals.granted r) = role_by r.contents.identifier r.contents.kind
role_of (refusals.refused n) = unreadable n

-- `vr` and `vd`; records with other tags are passed over
unfoldable pub is_looked_at : ℕ → Bool
is_looked_at tag = eqb tag version_tag || eqb tag version_delete_tag

unfoldable pub role : ℕ → ℕ → List ℕ → Role
role limit tag value = cond (is_looked_at tag) (role_of (read_record limit tag value)) other

-- ---- a record where it stands

pub record Placed : Type 0 where
  pub start : ℕ
  pub role : Role
  pub value : List ℕ

abbrev pub placed_by : ℕ → ℕ → ℕ → List ℕ → Placed
placed_by limit start tag value = record { start = start; role = role limit tag value; value = value }

-- the value of an entry's record follows the 32 bytes of its header
abbrev pub value_of : List ℕ → Entry → List ℕ
value_of s e = take e.length (drop 32 (drop e.start s))

abbrev pub placed : ℕ → List ℕ → Entry → Placed
placed limit s e = placed_by limit e.start e.tag (value_of s e)

-- ---- what a `vr` tells, and the better of two

pub record Version : Type 0 where
  pub identifier : Identity
  pub delete_flag : Bool
  pub value : List ℕ
  pub start : ℕ

abbrev pub version_by : ℕ → List ℕ → Role → Option Version
version_by start value (version i delete_flag) = Some (record { identifier = i; delete_flag = delete_flag; value = value; start = start })
version_by start value (deletion i) = None
version_by start value other = None
version_by start value (unreadable n) = None

unfoldable pub version_of : Placed → Option Version
version_of p = version_by p.start p.value p.role

-- a version, where its identifier passes a test
unfoldable pub filtered : (Identity → Bool) → Option Version → Option Version
filtered test None = None
filtered test (Some v) = cond (test v.identifier) (Some v) None

-- the first stands earlier: the later is better only where its ULID is greater
unfoldable pub better : Option Version → Option Version → Option Version
better None w = w
better (Some v) None = Some v
better (Some v) (Some w) = cond (less v.identifier.ulid w.identifier.ulid) (Some w) (Some v)

-- the best of the versions whose identifiers pass a test
unfoldable pub best : (Identity → Bool) → List Placed → Option Version
best test [] = None
best test (p ∷ ps) = better (filtered test (version_of p)) (best test ps)

-- ---- the current version among the records of a pack

unfoldable pub deletes : Identity → Role → Bool
deletes i (version j delete_flag) = false
deletes i (deletion j) = same_identity j i
deletes i other = false
deletes i (unreadable n) = false

-- some `vd` names it, wherever it stands
unfoldable pub is_deleted : List Placed → Identity → Bool
is_deleted [] i = false
is_deleted (p ∷ ps) i = deletes i p.role || is_deleted ps i

-- of this name, and no `vd` names it
unfoldable pub is_live : List Placed → List ℕ → List ℕ → Identity → Bool
is_live ps bucket object i = has_name (Some i) bucket object && not (is_deleted ps i)

unfoldable pub current : List Placed → List ℕ → List ℕ → Option Version
current ps bucket object = best (is_live ps bucket object) ps

-- ---- the lookup in a pack

pub data Answer : Type 0 where
  nothing : Answer
  found : Version → Answer
  refused_at : (number place : ℕ) → Answer
  alone : (number : ℕ) → Answer

abbrev pub unreadable_first : Placed → Role → Ending → Ending
unreadable_first p (version i delete_flag) next = next
unreadable_first p (deletion i) next = next
unreadable_first p other next = next
unreadable_first p (unreadable n) next = refused n p.start

-- 9 to 12, 14 to 18 and 22: the first record, in pack order, that cannot be read
unfoldable pub readability : List Placed → Ending
readability [] = whole
readability (p ∷ ps) = unreadable_first p p.role (readability ps)

abbrev pub unless_refused : Ending → Answer → Answer
unless_refused whole next = next
unless_refused (refused n at) next = refused_at n at

abbrev pub answer_of : Option Version → Answer
answer_of None = nothing
answer_of (Some v) = found v

-- of the records of an accepted pack
unfoldable pub answer_in : List Placed → List ℕ → List ℕ → Answer
answer_in ps bucket object = unless_refused (readability ps) (answer_of (current ps bucket object))

unfoldable pub is_name : List ℕ → List ℕ → Bool
is_name bucket object = is_bucket bucket && is_object object

-- 20 first, then 1 to 8 of the whole pack, then what its records answer
unfoldable pub lookup : ℕ → List ℕ → List ℕ → List ℕ → Answer
lookup limit s bucket object =
    cond (is_name bucket object)
    (unless_refused (reading limit s).ending (answer_in (map (placed limit s) (reading limit s).entries) bucket object))
    (alone 20)
