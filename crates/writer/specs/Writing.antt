-- One record a call (document 01, "Writing"): what may be written, what a call answers, and what the lent buffer then holds.
use Rattle.std.specs.Prelude.{ℕ, ◌+◌, Bool, cond, ◌&&◌, List, ◌≡◌, leb, length}
use Rattle.std.specs.Prelude.{Option, None, Some, Result, Ok, Err}
use Rattle.slices.specs.Overwriting.{overwritten}
use Rattle.refusals.specs.Limit.{pack_limit}
use Rattle.refusals.specs.Answers.{Answer, refused, granted, is_result}
use Rattle.refusals.specs.Unwritten.{number_of}
use Rattle.refusals.specs.declared.Unwritten.{Unwritten}
use Rattle.tlv.specs.Layout.{Record, layout}
use Rattle.identifier.specs.Ulid.{is_ulid}
use Rattle.identifier.specs.Identity.{Identity, is_valid}
use Rattle.primary.specs.Parts as primary
use Rattle.pack_list.specs.Lists as list
use Rattle.records.specs.Record.{block_tag, version_tag, version_delete_tag, pack_list_tag}
use Rattle.writer.specs.Values.{block_value, part_value, version_part, delete_part}

-- ---- what a call is asked to write

pub data Item : Type 0 where
  block : Identity → List ℕ → Item  -- with its data
  version : List ℕ → Item  -- a primary part handed in
  version_delete : List ℕ → Item  -- likewise
  pack_list : List ℕ → Item  -- likewise
  deletion : Identity → List ℕ → Item  -- a version delete made from an identifier and a delete ULID

abbrev pub tag_of : Item → ℕ
tag_of (block i d) = block_tag
tag_of (version p) = version_tag
tag_of (version_delete p) = version_delete_tag
tag_of (pack_list p) = pack_list_tag
tag_of (deletion i u) = version_delete_tag

abbrev pub value_of : Item → List ℕ
value_of (block i d) = block_value i d
value_of (version p) = part_value p
value_of (version_delete p) = part_value p
value_of (pack_list p) = part_value p
value_of (deletion i u) = part_value (delete_part i u)

-- the record's bytes; bytes 28 and 29 are 0
abbrev pub record_of : ℕ → List ℕ → Record
record_of tag value = record { spare = 0; tag = tag; value = value }

abbrev pub item_bytes : Item → List ℕ
item_bytes item = layout (record_of (tag_of item) (value_of item))

-- ---- what is admitted

abbrev pub admitted : Item → Bool
admitted (block i d) = is_valid i
admitted (version p) = is_result (primary.version p)
admitted (version_delete p) = is_result (primary.version_delete p)
admitted (pack_list p) = is_result (list.pack_list p)
admitted (deletion i u) = is_valid i && is_ulid u

-- what an identifier's struct asks for; nothing, where it names none
abbrev pub of_identity : (Identity → Item) → Option Identity → Option Item
of_identity item None = None
of_identity item (Some i) = Some (item i)

-- ---- the answer

-- the bytes of the pack with the record, or the number of the refusal
abbrev pub answer_of : Result ℕ Unwritten → Answer ℕ
answer_of (Ok n) = granted n
answer_of (Err f) = refused (number_of f)

-- of a record of n bytes that is admitted: the limit first, then the room
unfoldable pub counted : ℕ → ℕ → ℕ → ℕ → Answer ℕ
counted limit room used n = cond (leb (used + n) limit) (cond (leb (used + n) room) (granted (used + n)) (refused 19)) (refused 20)

unfoldable pub written : ℕ → ℕ → ℕ → Option Item → Answer ℕ
written limit room used None = refused 20
written limit room used (Some item) = cond (admitted item) (counted limit room used (length (item_bytes item))) (refused 20)

-- ---- the buffer: as it was on a refusal; else the record stands directly after the bytes so far, and every other byte is kept

abbrev pub left_by : Answer ℕ → List ℕ → ℕ → List ℕ → List ℕ
left_by (granted n) buf used bytes = overwritten buf used bytes
left_by (refused n) buf used bytes = buf

-- what a call does with a record that is admitted
pub record Stores (used : ℕ) (bytes buf : List ℕ) (answer : Result ℕ Unwritten) (after : List ℕ) : Type 0 where
  pub told : answer_of answer ≡ counted pack_limit (length buf) used (length bytes)
  pub left : after ≡ left_by (counted pack_limit (length buf) used (length bytes)) buf used bytes

unfoldable pub buffer_after : ℕ → ℕ → Option Item → List ℕ → List ℕ
buffer_after limit used None buf = buf
buffer_after limit used (Some item) buf = left_by (written limit (length buf) used (Some item)) buf used (item_bytes item)

-- ---- a version's primary part alone, at the front of a lent buffer

-- what an identifier asks for; nothing, where there is none or it is not admitted
abbrev pub version_part_of : Bool → Option Identity → Option (List ℕ)
version_part_of marker None = None
version_part_of marker (Some i) = cond (is_valid i) (Some (version_part i marker)) None

-- the part's length, or the number of the refusal
unfoldable pub part_written : ℕ → Option (List ℕ) → Answer ℕ
part_written room None = refused 20
part_written room (Some part) = cond (leb (length part) room) (granted (length part)) (refused 19)

unfoldable pub part_after : Option (List ℕ) → List ℕ → List ℕ
part_after None out = out
part_after (Some part) out = left_by (part_written (length out) (Some part)) out 0 part

-- what a call does with a part that is admitted
pub record StoresPart (part out : List ℕ) (answer : Result ℕ Unwritten) (after : List ℕ) : Type 0 where
  pub told : answer_of answer ≡ part_written (length out) (Some part)
  pub left : after ≡ part_after (Some part) out
