-- What each item means to a reader, and that the value written for it reads as that.
use Rattle.std.specs.Prelude.{ℕ, ◌+◌, ◌^◌, ◌≤◌, ◌<◌, ◌&&◌, List, ◌++◌, ◌≡◌, length}
use Rattle.std.proofs.Math.Bool.{true}
use Rattle.std.proofs.Common.{arith, length-append}
use Rattle.slices.specs.Bytes.{AllBytes, cons_bytes, append_bytes}
use Rattle.slices.specs.Logic.{both}
use Rattle.refusals.specs.Answers.{Answer, granted}
use Rattle.msgpack_model.specs.Encoding.{Encodes}
use Rattle.msgpack_model.specs.Bytes.{encoding_bytes}
use Rattle.identifier.specs.Identity.{Identity, is_valid}
use Rattle.identifier.specs.Composite.{composite_text}
use Rattle.identifier.specs.Ulid.{is_ulid}
use Rattle.primary.specs.Parts as primary
use Rattle.pack_list.specs.Lists as list
use Rattle.records.specs.Record as records
use Rattle.records.specs.Record.{version_tag, version_delete_tag, pack_list_tag, is_known, Contents, of_version, of_version_delete, of_pack_list, contents, read_record}
use Rattle.records_model.specs.Record.{RecordHeld, record_in, with_held}
use Rattle.records_model.specs.Written as values
use Rattle.records_model.specs.Written.{held_alone, held_with, plain_reads_back, block_reads_back, delete_reads_back}
use Rattle.writer.specs.Values.{block_header, block_part, block_value, part_value, delete_part}
use Rattle.writer.specs.Writing.{Item, block, version, version_delete, pack_list, deletion, tag_of, value_of, admitted}
use Rattle.writer.specs.Limits.{content_within}
use Rattle.writer_laws.specs.Encoded.{part_value_encodes, block_header_encodes, block_part_encodes, IdentityBytes, delete_part_encodes}

-- ---- the meaning: primary part, data, identifier, and delete flag, delete identifier or entries

abbrev pub held_of : Item → Answer RecordHeld
held_of (block i d) = granted (record { held = held_with (block_part i) d; contents = record { identifier = i; kind = records.block } })
held_of (version p) = with_held (held_alone p) (of_version (primary.version p))
held_of (version_delete p) = with_held (held_alone p) (of_version_delete (primary.version_delete p))
held_of (pack_list p) = with_held (held_alone p) (of_pack_list (list.pack_list p))
held_of (deletion i u) = granted (record { held = held_alone (delete_part i u); contents = record { identifier = i; kind = records.version_delete u } })

-- what is handed in is bytes
abbrev pub AreBytes : Item → Type 0
AreBytes (block i d) = IdentityBytes i × AllBytes d
AreBytes (version p) = AllBytes p
AreBytes (version_delete p) = AllBytes p
AreBytes (pack_list p) = AllBytes p
AreBytes (deletion i u) = IdentityBytes i × AllBytes u

-- ---- lengths

pub block_longer : (i : Identity) (d : List ℕ) → length (block_part i) + length d ≤ length (block_value i d)
unfolding block_value
block_longer i d = simp length-append (omega arith)

composite_bytes : (i : Identity) → IdentityBytes i → AllBytes (composite_text i)
unfolding composite_text
composite_bytes i b = append_bytes (i.ulid ++ _) (append_bytes i.ulid b.ulid (cons_bytes (omega arith) b.bucket))
    (cons_bytes (omega arith) b.object)

-- ---- each item's value is bytes, and reads as the item means

module _ (limit : ℕ) (small : limit < 2 ^ 32) where
  abbrev pub Reads : Item → Type 0
  Reads item = record_in (value_of item) (read_record limit (tag_of item) (value_of item)) ≡ held_of item

  module _ (i : Identity) (d : List ℕ) (bytes : IdentityBytes i) (v : is_valid i ≡ true) (l : length (block_value i d) ≤ limit) where
    pub block_part_lem : Encodes (values.block_part i) (block_part i)
    block_part_lem = block_part_encodes i v (composite_bytes i bytes)

    pub block_header_lem : Encodes (values.block_header (length d) (block_part i)) (block_header (length d) (length (block_part i)) ++ block_part i)
    block_header_lem = let n = block_longer i d in block_header_encodes (block_part i) (encoding_bytes block_part_lem) (omega arith) (length d) (omega arith)

    block_bytes : AllBytes d → AllBytes (block_value i d)
    unfolding block_value
    block_bytes b = append_bytes (block_header (length d) (length (block_part i)) ++ block_part i) (encoding_bytes block_header_lem) b

  module _ (p : List ℕ) (bytes : AllBytes p) (l : length (part_value p) ≤ limit) where
    pub part_value_lem : Encodes (values.plain_header p) (part_value p)
    part_value_lem = part_value_encodes p bytes (omega (arith, content_within (version p)))

  module _ (i : Identity) (u : List ℕ) (bytes : IdentityBytes i × AllBytes u) (a : (is_valid i && is_ulid u) ≡ true)
      (l : length (part_value (delete_part i u)) ≤ limit) where
    pub delete_part_lem : Encodes (values.delete_part i u) (delete_part i u)
    delete_part_lem = let t = both (is_valid i) (is_ulid u) a in delete_part_encodes i u t.0 t.1 bytes.0 bytes.1

  pub item_bytes_lem : (item : Item) → AreBytes item → admitted item ≡ true → length (value_of item) ≤ limit → AllBytes (value_of item)
  item_bytes_lem (block i d) b a l = block_bytes i d b.0 a l b.1
  item_bytes_lem (version p) b a l = encoding_bytes (part_value_lem p b l)
  item_bytes_lem (version_delete p) b a l = encoding_bytes (part_value_lem p b l)
  item_bytes_lem (pack_list p) b a l = encoding_bytes (part_value_lem p b l)
  item_bytes_lem (deletion i u) b a l = encoding_bytes (part_value_lem (delete_part i u) (encoding_bytes (delete_part_lem i u b a l)) l)
