-- What the answers of the code say: document 01's numbers, and the contents at the places told.
use Rattle.std.specs.Prelude.{ℕ, ◌+◌, ◌^◌, ◌<◌, List, [], ◌≡◌, drop, Result, Ok, Err}
use Rattle.slices.specs.Places.{part_at, Inside, Within, shift_place}
use Rattle.slices.specs.declared.Place.{Place}
use Rattle.refusals.specs.Answers.{Answer, refused, granted}
use Rattle.tlv.specs.Found as tlv
use Rattle.pack.specs.Reading.{fault_number, fault_place}
use Rattle.value.specs.Reading as value
use Rattle.value.specs.declared.Part.{Part}
use Rattle.value.specs.declared.Told.{Told}
use Rattle.primary.specs.Answers as primary
use Rattle.primary.specs.Answers.{texts_in, AllInside}
use Rattle.primary.specs.declared.Texts.{Texts}
use Rattle.pack_list.specs.Lists as list
use Rattle.pack_list.specs.declared.Fault.{Fault as ListFault}
use Rattle.pack_list.specs.declared.Fault.TheVariants as list-fault
use Rattle.records.specs.Record.{Kind, block, version, version_delete, pack_list, Contents, Record, primary_in, AtPlace, there, refused_at, alone}
use Rattle.records.specs.declared.Kind as declared-kind
use Rattle.records.specs.declared.Kind.TheVariants as kind-answer
use Rattle.records.specs.declared.Record as declared-record
use Rattle.records.specs.declared.Fault.{Fault}
use Rattle.records.specs.declared.Fault.TheVariants.{Value, UnknownTag, Version, Encoded, Primary, Unfilled}
use Rattle.records.specs.declared.Placed.{Placed}
use Rattle.records.specs.declared.PlaceFault.{PlaceFault}
use Rattle.records.specs.declared.PlaceFault.TheVariants as place-fault

abbrev pub number_of : Fault → ℕ
number_of (Value f) = value.number_of f
number_of UnknownTag = 13
number_of Version = 14
number_of Encoded = 15
number_of (Primary f) = primary.number_of f
number_of Unfilled = 21

-- a pack list's refusal, as one of a record
abbrev pub of_list_fault : ListFault → Fault
of_list_fault (list-fault.Part f) = Primary f
of_list_fault list-fault.Unfilled = Unfilled

-- ---- contents at places

-- of a pack list that was read; else none
abbrev pub entries_of : Answer list.PackList → List list.Entry
entries_of (granted l) = l.entries
entries_of (refused n) = []

-- the places are of s; the entries of a pack list are those of the primary part
abbrev pub kind_in : (s part : List ℕ) → declared-kind.Kind → Kind
kind_in s part kind-answer.Block = block
kind_in s part (kind-answer.Version deleted) = version deleted
kind_in s part (kind-answer.VersionDelete id) = version_delete (part_at s id)
kind_in s part kind-answer.PackList = pack_list (entries_of (list.pack_list part))

abbrev pub contents_in : (s part : List ℕ) → Texts → declared-kind.Kind → Contents
contents_in s part t k = record { identifier = texts_in s t; kind = kind_in s part k }

-- of the primary part
abbrev pub part_of : List ℕ → Result (Texts × declared-kind.Kind) Fault → Answer Contents
part_of part (Ok (t, k)) = granted (contents_in part part t k)
part_of part (Err f) = refused (number_of f)

-- of the pack
abbrev pub record_in : List ℕ → declared-record.Record → Record
record_in s r = record { told = r.told; contents = contents_in s (primary_in s r.told) r.identifier r.kind }

abbrev pub answer_of : List ℕ → Result declared-record.Record Fault → Answer Record
answer_of s (Ok r) = granted (record_in s r)
answer_of s (Err f) = refused (number_of f)

abbrev pub place_of : List ℕ → Result Placed PlaceFault → AtPlace
place_of s (Ok p) = there (part_at s p.value) (record_in s p.«record»)
place_of s (Err place-fault.Outside) = alone 20
place_of s (Err (place-fault.Pack f)) = refused_at (fault_number f) (fault_place f)
place_of s (Err (place-fault.Record f)) = alone (number_of f)

-- ---- from places of the primary part, which begins at `by`, to places of the pack

abbrev pub shift_texts : ℕ → Texts → Texts
shift_texts by t = record { ulid = shift_place by t.ulid; bucket = shift_place by t.bucket; object = shift_place by t.object }

abbrev pub shift_kind : ℕ → declared-kind.Kind → declared-kind.Kind
shift_kind by kind-answer.Block = kind-answer.Block
shift_kind by (kind-answer.Version deleted) = kind-answer.Version deleted
shift_kind by (kind-answer.VersionDelete id) = kind-answer.VersionDelete (shift_place by id)
shift_kind by kind-answer.PackList = kind-answer.PackList

-- the sum is a number of 64 bits
pub record KindFits (by : ℕ) (k : declared-kind.Kind) : Type 0 where
  pub delete_id_lem : (id : Place) → k ≡ kind-answer.VersionDelete id → by + id.start < 2 ^ 64

-- ---- the places told lie inside

-- the primary part
pub record KindInside (part : List ℕ) (k : declared-kind.Kind) : Type 0 where
  pub delete_id_lem : (id : Place) → k ≡ kind-answer.VersionDelete id → Inside part id

pub record ContentsInside (part : List ℕ) (t : Texts) (k : declared-kind.Kind) : Type 0 where
  pub identifier : AllInside part t
  pub kind : KindInside part k

pub record PartInside (part : List ℕ) (r : Result (Texts × declared-kind.Kind) Fault) : Type 0 where
  pub contents : (t : Texts) (k : declared-kind.Kind) → r ≡ Ok (t, k) → ContentsInside part t k

-- the pack: the parts in it, and the contents in the primary part
abbrev pub place_of_part : Part → Place
place_of_part p = record { start = p.start; len = p.len }

pub record ToldInside (s : List ℕ) (t : Told) : Type 0 where
  pub primary : Inside s (place_of_part t.primary)
  pub secondary : Inside s (place_of_part t.secondary)

pub record ContentsWithin (p : Place) (t : Texts) (k : declared-kind.Kind) : Type 0 where
  pub ulid : Within p t.ulid
  pub bucket : Within p t.bucket
  pub object : Within p t.object
  pub delete_id_lem : (id : Place) → k ≡ kind-answer.VersionDelete id → Within p id

pub record PlacesInside (s : List ℕ) (d : declared-record.Record) : Type 0 where
  pub told : ToldInside s d.told
  pub contents : ContentsWithin (place_of_part d.told.primary) d.identifier d.kind

pub record RecordInside (s : List ℕ) (r : Result declared-record.Record Fault) : Type 0 where
  pub places : (d : declared-record.Record) → r ≡ Ok d → PlacesInside s d

-- the value of a record at a place: it follows the header, is as long as that says, and lies inside
pub record IsValue (s : List ℕ) (at : ℕ) (v : Place) : Type 0 where
  pub is : v ≡ record { start = at + 32; len = (tlv.header_of (drop at s)).length }
  pub inside : Inside s v

pub record PlaceInside (s : List ℕ) (at : ℕ) (r : Result Placed PlaceFault) : Type 0 where
  pub value : (p : Placed) → r ≡ Ok p → IsValue s at p.value
  pub places : (p : Placed) → r ≡ Ok p → PlacesInside s p.«record»
