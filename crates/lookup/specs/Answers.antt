-- What the answers of the code say: document 01's numbers, and the contents at the places told.
use Rattle.std.specs.Prelude.{ℕ, ◌+◌, Bool, true, false, List, [], ◌∷◌, ◌⊎◌, ◌≡◌, refl, length}
use Rattle.std.proofs.Common.{true≢false, sym, arith}
use Rattle.std.specs.Prelude.{Option, None, Some, Result, Ok, Err}
use Rattle.slices.specs.declared.Place.{Place}
use Rattle.refusals.specs.Limit.{pack_limit}
use Rattle.pack.specs.Reading.{Ending, whole, refused}
use Rattle.pack.specs.Reading as pack
use Rattle.identifier.specs.Identity.{identity}
use Rattle.primary.specs.Answers.{texts_in}
use Rattle.records.specs.Answers as records
use Rattle.records.specs.Answers.{IsValue}
use Rattle.records.specs.declared.Fault as records-fault
use Rattle.current_version.specs.Current.{Placed, Version, Answer, nothing, found, refused_at, alone, readability, deletes, is_deleted}
use Rattle.lookup_records.specs.Answers.{role_in, value_in, VersionTold}
use Rattle.lookup_records.specs.Walk.{placed_from}
use Rattle.lookup_records.specs.declared.Role.{Role}
use Rattle.lookup_records.specs.declared.Role.TheVariants as role-answer
use Rattle.lookup_records.specs.declared.Visited.{Visited}
use Rattle.ulid_hints.specs.Hints.{ulid_at, AllFirst, Shown}
use Rattle.lookup.specs.Search.{greatest_below, current_below, first_bound, is_any_deleted, Covers}
use Rattle.lookup.specs.declared.Version as declared-version
use Rattle.lookup.specs.declared.Fault.{Fault}
use Rattle.lookup.specs.declared.Fault.TheVariants as fault-answer
use Rattle.lookup.specs.declared.Noted.{Noted}
use Rattle.lookup.specs.declared.Turn.{Turn}
use Rattle.lookup.specs.declared.Turn.TheVariants as turn-answer

-- ---- contents at places of the pack

-- why a record cannot be read, if it cannot
abbrev pub fault_at : ℕ → Role → Ending
fault_at at (role-answer.Version primary t deleted) = whole
fault_at at (role-answer.Deletion t) = whole
fault_at at role-answer.Other = whole
fault_at at (role-answer.Unreadable f) = refused (records.number_of f) at

abbrev pub placed_in : List ℕ → ℕ → Visited → Placed
placed_in s at v = record { start = at; role = role_in s v.role; value = value_in s at v.value.len }

abbrev pub version_in : List ℕ → declared-version.Version → Version
version_in s v = record { identifier = texts_in s v.identifier; delete_flag = v.deleted; value = value_in s v.start v.len; start = v.start }

abbrev pub candidate_in : List ℕ → Option declared-version.Version → Option Version
candidate_in s None = None
candidate_in s (Some v) = Some (version_in s v)

-- ---- answers

abbrev pub fault_number : Fault → ℕ
fault_number fault-answer.Inadmissible = 20
fault_number (fault-answer.Pack f) = pack.fault_number f
fault_number (fault-answer.Unreadable f at) = records.number_of f

-- that of a name is at none
abbrev pub fault_place : Fault → ℕ
fault_place fault-answer.Inadmissible = 0
fault_place (fault-answer.Pack f) = pack.fault_place f
fault_place (fault-answer.Unreadable f at) = at

-- how the reading of records ends: all can be read, or one at this place cannot
abbrev pub ending_of : {A : Type 0} → Result A (records-fault.Fault × ℕ) → Ending
ending_of (Ok a) = whole
ending_of (Err at) = refused (records.number_of at.0) at.1

abbrev pub refusal_of : Fault → Answer
refusal_of fault-answer.Inadmissible = alone 20
refusal_of (fault-answer.Pack f) = refused_at (pack.fault_number f) (pack.fault_place f)
refusal_of (fault-answer.Unreadable f at) = refused_at (records.number_of f) at

abbrev pub found_of : List ℕ → Result (Option declared-version.Version) Fault → Answer
found_of s (Ok None) = nothing
found_of s (Ok (Some v)) = found (version_in s v)
found_of s (Err f) = refusal_of f

-- ---- the places told lie inside the pack

-- the value of a version follows the header of its record
abbrev pub place_of_value : declared-version.Version → Place
place_of_value v = record { start = v.start + 32; len = v.len }

pub record VersionInside (s : List ℕ) (v : declared-version.Version) : Type 0 where
  pub value : IsValue s v.start (place_of_value v)
  pub told : VersionTold s (place_of_value v) v.primary v.identifier

pub record CandidateInside (s : List ℕ) (c : Option declared-version.Version) : Type 0 where
  pub version : (v : declared-version.Version) → c ≡ Some v → VersionInside s v

pub record FoundInside (s : List ℕ) (r : Result (Option declared-version.Version) Fault) : Type 0 where
  pub version : (v : declared-version.Version) → r ≡ Ok (Some v) → VersionInside s v

-- ---- memory lent for the search

abbrev pub is_refusal : Answer → Bool
is_refusal nothing = false
is_refusal (found v) = false
is_refusal (refused_at n at) = true
is_refusal (alone n) = true

-- document 01's case E, and a name that breaks the rules
refusals_are : (is_refusal (refused_at 2 46) ≡ true) × (is_refusal (alone 20) ≡ true)
refusals_are = (refl, refl)

-- what it holds at exit: after a refusal what it held, else anything, as long as it was
pub record ScratchAfter (refusal : Bool) (old new : List ℕ) : Type 0 where
  pub long : length new ≡ length old
  pub kept : refusal ≡ true → new ≡ old

-- a refusal that changes it is none of these, nor is one of another length
scratch_changed : ScratchAfter true (1 ∷ 2 ∷ []) (1 ∷ 3 ∷ []) → ⊥
scratch_changed h = let e : ◌≡◌ {A = List ℕ} (1 ∷ 3 ∷ []) (1 ∷ 2 ∷ []) = h.kept refl in let z : ◌≡◌ {A = ℕ} 3 2 = cc in omega arith

scratch_shorter : ScratchAfter false (1 ∷ 2 ∷ []) (1 ∷ []) → ⊥
scratch_shorter h = omega (arith, h.long)

pub scratch_kept : (refusal : Bool) (old : List ℕ) → ScratchAfter refusal old old
scratch_kept refusal old = record { long = refl; kept = λ e. refl }

pub scratch_free : (old new : List ℕ) → length new ≡ length old → ScratchAfter false old new
scratch_free old new long = record { long = long; kept = λ e. absurd (true≢false (sym e)) }

pub scratch_as : (a b : Answer) (old new : List ℕ) → a ≡ b → ScratchAfter (is_refusal a) old new → ScratchAfter (is_refusal b) old new
scratch_as a b old new e h = rw (← e) h

-- ---- all records of a checked pack

-- of the versions of this name, deleted or not, the greatest; and whether a deletion has the name
pub record IsGreatest (s bucket object : List ℕ) (c : Option declared-version.Version) (deletions : Bool) : Type 0 where
  pub is : candidate_in s c ≡ greatest_below (placed_from pack_limit s 0) bucket object first_bound
  pub inside : CandidateInside s c
  pub deletions_is : deletions ≡ is_any_deleted (placed_from pack_limit s 0) bucket object

pub record Surveys (s bucket object : List ℕ) (r : Result (Option declared-version.Version × Bool) (records-fault.Fault × ℕ)) : Type 0 where
  pub ending : ending_of r ≡ readability (placed_from pack_limit s 0)
  pub greatest : (c : Option declared-version.Version) (deletions : Bool) → r ≡ Ok (c, deletions) → IsGreatest s bucket object c deletions

-- ---- hints: places of ULIDs of deletions of the name

-- whether a version of the name with the ULID at a place is deleted
unfoldable pub is_deleted_at : List ℕ → List ℕ → List ℕ → ℕ → Bool
is_deleted_at s bucket object place = is_deleted (placed_from pack_limit s 0) (identity (ulid_at s place) bucket object)

-- the hint that a record gives
pub record IsHint (s bucket object : List ℕ) (r : Role) (h : Option ℕ) : Type 0 where
  pub told : (place : ℕ) → h ≡ Some place → deletes (identity (ulid_at s place) bucket object) (role_in s r) ≡ true

-- one taken in, if there is one
pub record TakenIn (h : Option ℕ) (n : ℕ) (old : List ℕ) (r : ℕ) (new : List ℕ) : Type 0 where
  pub long : length new ≡ length old
  pub keeps : (p : ℕ → Bool) → ((place : ℕ) → h ≡ Some place → p place ≡ true) → AllFirst p old n → AllFirst p new r

-- all deletions: whether one is of the bound, and hints, each of which is true
pub record Notes (s bucket object bound : List ℕ) (r : Noted) (hints : List ℕ) : Type 0 where
  pub named : r.named ≡ is_deleted (placed_from pack_limit s 0) (identity bound bucket object)
  pub sound : AllFirst (is_deleted_at s bucket object) hints r.count

-- a version is left, or none where a hint shows its ULID
pub record Spares (s hints : List ℕ) (n : ℕ) (offer left : Option Version) : Type 0 where
  pub is : (left ≡ offer) ⊎ ((left ≡ None) × ((v : Version) → offer ≡ Some v → Shown s v.identifier.ulid hints n))

-- ---- a turn of the search

-- the next to look at, below the bound: the current version there, or one that is deleted and than which that is not greater
pub record IsNext (s bucket object bound : List ℕ) (c : Option declared-version.Version) : Type 0 where
  pub covers : Covers (placed_from pack_limit s 0) bucket object bound (current_below (placed_from pack_limit s 0) bucket object bound) (candidate_in s c)
  pub inside : CandidateInside s c

-- whether the version is deleted, and then the next one
abbrev pub is_gone : Turn → Bool
is_gone turn-answer.Live = false
is_gone (turn-answer.Below c) = true

pub record Turns (s bucket object ulid : List ℕ) (r : Turn) : Type 0 where
  pub gone : is_gone r ≡ is_deleted (placed_from pack_limit s 0) (identity ulid bucket object)
  pub next : (c : Option declared-version.Version) → r ≡ turn-answer.Below c → IsNext s bucket object ulid c
