-- What the answers of the code say: what a record is to a lookup, by the contents at the places told.
use Rattle.std.specs.Prelude.{ℕ, ◌-◌, Bool, true, cond, List, ◌≡◌, eqb, take, drop}
use Rattle.slices.specs.Places.{part_at, Within}
use Rattle.slices.specs.declared.Place.{Place}
use Rattle.refusals.specs.Answers.{granted}
use Rattle.refusals.specs.Limit.{pack_limit}
use Rattle.tlv.specs.Passing.{pass_at}
use Rattle.tlv.specs.declared.Passed.{Passed}
use Rattle.primary.specs.Answers.{texts_in, AllInside}
use Rattle.primary.specs.declared.Texts.{Texts}
use Rattle.records.specs.Record.{version_tag, Record, read_record, can_be_read, part_from}
use Rattle.records.specs.Answers.{number_of, place_of_part}
use Rattle.records.specs.declared.Kind.{Kind}
use Rattle.records.specs.declared.Kind.TheVariants as kind-answer
use Rattle.current_version.specs.Current as current
use Rattle.current_version.specs.Current.{version, deletion, other, unreadable, role}
use Rattle.lookup_records.specs.declared.Role.{Role}
use Rattle.lookup_records.specs.declared.Role.TheVariants.{Version, Deletion, Other, Unreadable}
use Rattle.lookup_records.specs.declared.Visited.{Visited}

-- ---- what a record is

-- with this primary part and identifier, by its kind
abbrev pub role_for : Place → Texts → Kind → Role
role_for primary t kind-answer.Block = Other
role_for primary t (kind-answer.Version deleted) = Version primary t deleted
role_for primary t (kind-answer.VersionDelete id) = Deletion t
role_for primary t kind-answer.PackList = Other

-- if those of one tag are not read
unfoldable pub role_but : ℕ → ℕ → ℕ → List ℕ → current.Role
role_but limit skipped tag value = cond (eqb tag skipped) other (role limit tag value)

-- by the contents at places of the pack
abbrev pub role_in : List ℕ → Role → current.Role
role_in s (Version primary t deleted) = version (texts_in s t) deleted
role_in s (Deletion t) = deletion (texts_in s t)
role_in s Other = other
role_in s (Unreadable f) = unreadable (number_of f)

-- ---- the places told

-- the value of a record at a place, so long
abbrev pub value_in : List ℕ → ℕ → ℕ → List ℕ
value_in s at n = take n (drop 32 (drop at s))

-- the value of a record that was passed ends where the next one starts
abbrev pub value_place : Passed → Place
value_place p = record { start = p.next - p.header.length; len = p.header.length }

pub record TextsWithin (outer : Place) (t : Texts) : Type 0 where
  pub ulid : Within outer t.ulid
  pub bucket : Within outer t.bucket
  pub object : Within outer t.object

-- of a version whose value stands at a place: the primary part is the one that the value tells
pub record VersionTold (s : List ℕ) (value primary : Place) (t : Texts) : Type 0 where
  pub readable : can_be_read pack_limit version_tag (part_at s value) ≡ true
  pub primary_is : (r : Record) → read_record pack_limit version_tag (part_at s value) ≡ granted r
      → primary ≡ place_of_part (part_from value.start r.told.primary)
  pub primary_within : Within value primary
  pub identifier : TextsWithin primary t

pub record RoleInside (s : List ℕ) (value : Place) (r : Role) : Type 0 where
  pub version : (primary : Place) (t : Texts) (deleted : Bool) → r ≡ Version primary t deleted → VersionTold s value primary t
  pub deletion : (t : Texts) → r ≡ Deletion t → AllInside s t

-- ---- the record at a place

pub record Visits (skipped : ℕ) (s : List ℕ) (at : ℕ) (v : Visited) : Type 0 where
  pub value_is : v.value ≡ value_place (pass_at s at)
  pub next_is : v.next ≡ (pass_at s at).next
  pub seen : role_in s v.role ≡ role_but pack_limit skipped (pass_at s at).header.tag (value_in s at (pass_at s at).header.length)
  pub inside : RoleInside s v.value v.role
