-- One record: what its tag and value tell, and what stands at a place of a pack; refusals 1 to 18 and 20 to 22.
use Rattle.std.specs.Prelude.{ℕ, ◌+◌, Bool, cond, not, ◌||◌, List, [], ◌∷◌, ◌≡◌, refl, ltb, leb, eqb, length, take, drop}
use Rattle.refusals.specs.Sheet.{Row, lowest}
use Rattle.refusals.specs.Answers.{Answer, refused, granted, is_result, unless}
use Rattle.tlv.specs.Found.{Found, end, found, fault, step}
use Rattle.tlv.specs.declared.RecordHeader.{RecordHeader}
use Rattle.identifier.specs.Identity.{Identity}
use Rattle.value.specs.Header.{Telling, telling_of}
use Rattle.value.specs.Reading as value
use Rattle.value.specs.declared.Part.{Part}
use Rattle.value.specs.declared.Told.{Told}
use Rattle.primary.specs.Parts as primary
use Rattle.pack_list.specs.Lists.{Entry, PackList, pack_list as list_part}

-- ---- tags: two letters, as one number

abbrev pub block_tag : ℕ
block_tag = 0x626b  -- `bk`

abbrev pub version_tag : ℕ
version_tag = 0x7672  -- `vr`

abbrev pub version_delete_tag : ℕ
version_delete_tag = 0x7664  -- `vd`

abbrev pub pack_list_tag : ℕ
pack_list_tag = 0x6f6c  -- `ol`

unfoldable pub is_known : ℕ → Bool
is_known tag = eqb tag block_tag || eqb tag version_tag || eqb tag version_delete_tag || eqb tag pack_list_tag

-- ---- what the primary part tells

-- the kind of a record, with what that kind alone tells
pub data Kind : Type 0 where
  block : Kind
  version : Bool → Kind  -- whether it is a delete marker
  version_delete : List ℕ → Kind  -- the delete identifier
  pack_list : List Entry → Kind

pub record Contents : Type 0 where
  pub identifier : Identity
  pub kind : Kind

abbrev pub of_block : Answer Identity → Answer Contents
of_block (granted i) = granted (record { identifier = i; kind = block })
of_block (refused n) = refused n

abbrev pub of_version : Answer primary.Version → Answer Contents
of_version (granted v) = granted (record { identifier = v.identifier; kind = version v.deleted })
of_version (refused n) = refused n

abbrev pub of_version_delete : Answer primary.VersionDelete → Answer Contents
of_version_delete (granted v) = granted (record { identifier = v.identifier; kind = version_delete v.delete_id })
of_version_delete (refused n) = refused n

abbrev pub of_pack_list : Answer PackList → Answer Contents
of_pack_list (granted l) = granted (record { identifier = l.identifier; kind = pack_list l.entries })
of_pack_list (refused n) = refused n

-- the primary part of a record with this tag, which is a known one
unfoldable pub contents : ℕ → List ℕ → Answer Contents
contents tag part =
    cond (eqb tag block_tag) (of_block (primary.block part))
    (cond (eqb tag version_tag) (of_version (primary.version part))
    (cond (eqb tag version_delete_tag) (of_version_delete (primary.version_delete part))
    (of_pack_list (list_part part))))

-- ---- a record by its tag and value alone

pub record Record : Type 0 where
  pub told : Told  -- the parts, as places of the value
  pub contents : Contents

-- 13 to 15: a number, and whether it applies to a value whose header tells t
unfoldable pub told_rows : ℕ → Telling → List Row
told_rows tag t =
    record { number = 13; applies = not (is_known tag) }
    ∷ record { number = 14; applies = not (eqb t.version 0) }
    ∷ record { number = 15; applies = t.primary.encrypted || not (eqb t.primary.compression 0) }
    ∷ []

abbrev pub primary_in : List ℕ → Told → List ℕ
primary_in s t = take t.primary.len (drop t.primary.start s)

abbrev pub with_told : Told → Answer Contents → Answer Record
with_told t (granted c) = granted (record { told = t; contents = c })
with_told t (refused n) = refused n

abbrev pub by_value : ℕ → List ℕ → Answer Told → Answer Record
by_value tag s (granted t) = unless (lowest (told_rows tag (telling_of t))) (with_told t (contents tag (primary_in s t)))
by_value tag s (refused n) = refused n

-- the record with this tag and the value s, in which a secondary part has at most `limit` bytes
unfoldable pub read_record : ℕ → ℕ → List ℕ → Answer Record
read_record limit tag s = by_value tag s (value.reading limit s)

-- ---- document 01's "can be read", of a version or version delete: none of 9 to 12, 14 to 18 and 22 applies

unfoldable pub can_be_read : ℕ → ℕ → List ℕ → Bool
can_be_read limit tag s = is_result (read_record limit tag s)

-- ---- the record at a place of a pack

-- a record with its value's bytes; 1 to 8 with a place; 9 to 18 and 20 to 22 alone
pub data AtPlace : Type 0 where
  there : (value : List ℕ) → Record → AtPlace
  refused_at : (number place : ℕ) → AtPlace
  alone : (number : ℕ) → AtPlace

abbrev pub at_place : List ℕ → Answer Record → AtPlace
at_place value (granted r) = there value r
at_place value (refused n) = alone n

-- the value of a record with this header at a place
abbrev pub value_at : List ℕ → ℕ → RecordHeader → List ℕ
value_at s at h = take h.length (drop 32 (drop at s))

-- by what stands at the place; where none does, the place is not inside
abbrev pub by_step : ℕ → List ℕ → ℕ → Found → AtPlace
by_step limit s at end = alone 20
by_step limit s at (fault n) = refused_at n at
by_step limit s at (found h) = at_place (value_at s at h) (read_record limit h.tag (value_at s at h))

-- of the pack s, read under a limit on its length
unfoldable pub record_at : ℕ → List ℕ → ℕ → AtPlace
record_at limit s at =
    cond (leb (length s) at) (alone 20)
    (cond (ltb limit (length s)) (refused_at 1 0)
    (by_step limit s at (step (drop at s))))

-- 20 is tested before 1, and 1 before 2: three bytes under a limit of one
place_before_limit : record_at 1 (0 ∷ 0 ∷ 0 ∷ []) 3 ≡ alone 20
unfolding record_at
place_before_limit = refl

limit_before_header : record_at 1 (0 ∷ 0 ∷ 0 ∷ []) 2 ≡ refused_at 1 0
unfolding record_at
limit_before_header = refl

-- ---- as code tells a record: its value starts at a place of a pack, and the parts are places of the pack too

abbrev pub part_from : ℕ → Part → Part
part_from by p = record { start = by + p.start; len = p.len; compression = p.compression; encrypted = p.encrypted }

abbrev pub told_from : ℕ → Told → Told
told_from by t = record { version = t.version; primary = part_from by t.primary; present = t.present; secondary = part_from by t.secondary }

abbrev pub record_from : ℕ → Record → Record
record_from by r = record { told = told_from by r.told; contents = r.contents }

abbrev pub answer_from : ℕ → Answer Record → Answer Record
answer_from by (granted r) = granted (record_from by r)
answer_from by (refused n) = refused n

abbrev pub there_from : ℕ → AtPlace → AtPlace
there_from by (there value r) = there value (record_from by r)
there_from by (refused_at number place) = refused_at number place
there_from by (alone number) = alone number
