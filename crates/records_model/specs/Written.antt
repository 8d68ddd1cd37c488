-- The headers and primary parts that document 01's writer writes, as values, and that any encodings of them read back.
use Rattle.std.specs.Prelude.{ℕ, ◌≤◌, Bool, true, false, ◌≡◌, refl, length}
use mathlib.Core.List.{List, [], ◌++◌, append-nil}
use Rattle.std.proofs.Common.{◌∙◌, le-leb, eq-eqb}
use Rattle.slices.specs.Bytes.{same_bytes}
use Rattle.refusals.specs.Sheet.{lowest}
use Rattle.refusals.specs.Answers.{granted}
use Rattle.msgpack.specs.Readers.{plus}
use Rattle.msgpack.specs.Views.{repeats}
use Rattle.msgpack_model.specs.Values.{Value, Boolean, Integer, Text, Binary, Array, Map, no_values_lem, value, Pairs, no_pairs, pair}
use Rattle.msgpack_model.specs.Encoding.{Encodes}
use Rattle.identifier.specs.Ulid.{is_ulid}
use Rattle.identifier.specs.Identity.{Identity, is_valid, identity_of}
use Rattle.identifier.specs.Composite.{composite_text, text_reads}
use Rattle.value.specs.Fields.{natural_under, is_there}
use Rattle.value.specs.Header.{primary_key, secondary_key, length_key, telling_alone, telling_with, alone, with_map, with_list, telling, header_repeats}
use Rattle.primary.specs.Parts as primary
use Rattle.primary.specs.Parts.{bucket_key, object_key, ulid_key, identifier_key, deleted_key, delete_id_key, text_under, texts_under, deleted_under, ulid_of, shape_at, shape_under, block_repeats}
use Rattle.records.specs.Record.{block_tag, version_delete_tag, is_known, Contents, version_delete as delete_kind, block as block_kind, contents, told_rows, read_record}
use Rattle.records_model.specs.Header.{header, Held, holds}
use Rattle.records_model.specs.Primary.{block, version, version_delete, version_reads}
use Rattle.records_model.specs.Record.{contents_of, contents_reads, record_in, by_held, record_holds, record_reads}

-- ---- the values

-- {e}
abbrev pub plain_header : List ℕ → Value
plain_header part = Map (pair (Text primary_key) (Binary part) no_pairs)

-- {s: [{l}], e}
abbrev pub block_header : ℕ → List ℕ → Value
block_header l part =
    Map (pair (Text secondary_key) (Array (value (Map (pair (Text length_key) (Integer (plus l)) no_pairs)) no_values_lem))
    (pair (Text primary_key) (Binary part) no_pairs))

-- {I}
abbrev pub block_part : Identity → Value
block_part i = Map (pair (Text identifier_key) (Text (composite_text i)) no_pairs)

-- {b, o, v}, and what follows
abbrev pub identity_map : Identity → Pairs → Value
identity_map i more =
    Map (pair (Text bucket_key) (Text i.bucket)
    (pair (Text object_key) (Text i.object)
    (pair (Text ulid_key) (Text i.ulid) more)))

-- `d`, which is true, of a delete marker; no other version has it
abbrev pub marker_pairs : Bool → Pairs
marker_pairs true = pair (Text deleted_key) (Boolean true) no_pairs
marker_pairs false = no_pairs

-- {b, o, v}, or {b, o, v, d}
abbrev pub version_part : Identity → Bool → Value
version_part i marker = identity_map i (marker_pairs marker)

-- {b, o, v, ???}
abbrev pub delete_part : Identity → List ℕ → Value
delete_part i id = identity_map i (pair (Text delete_id_key) (Text id) no_pairs)

-- ---- what they tell

-- no `v`, `c` or `z`
abbrev pub held_alone : List ℕ → Held
held_alone part = record { primary = part; secondary = []; told = telling_alone 0 0 false }

abbrev pub held_with : List ℕ → List ℕ → Held
held_with part secondary = record { primary = part; secondary = secondary; told = telling_with (telling_alone 0 0 false) (length secondary) 0 false }

pub plain_holds : (limit : ℕ) (part : List ℕ) → holds limit (plain_header part) [] ≡ granted (held_alone part)
unfolding holds header header_repeats repeats telling alone natural_under is_there same_bytes
plain_holds limit part = refl

pub block_holds : (limit : ℕ) (part secondary : List ℕ) → length secondary ≤ limit
    → holds limit (block_header (length secondary) part) secondary ≡ granted (held_with part secondary)
unfolding holds header header_repeats repeats telling alone with_list with_map natural_under is_there same_bytes
block_holds limit part secondary h = rw (le-leb (length secondary) limit h, eq-eqb (length secondary) (length secondary) refl)

pub block_part_lem : (i : Identity) → is_valid i ≡ true → block (block_part i) ≡ granted i
unfolding block block_repeats repeats shape_under shape_at same_bytes
block_part_lem i v = rw (text_reads i v)

pub version_part_lem : (i : Identity) (marker : Bool) → is_valid i ≡ true → version (version_part i marker) ≡ granted (record { identifier = i; deleted = marker })
unfolding version repeats text_under texts_under deleted_under same_bytes identity_of
version_part_lem i true v = rw v
version_part_lem i false v = rw v

pub delete_part_lem : (i : Identity) (id : List ℕ) → is_valid i ≡ true → is_ulid id ≡ true
    → version_delete (delete_part i id) ≡ granted (record { identifier = i; delete_id = id })
unfolding version_delete repeats text_under texts_under same_bytes identity_of ulid_of
delete_part_lem i id v u = rw (v, u)

-- ---- any encodings of them read back

module _ (limit : ℕ) {part e : List ℕ} where
  -- a primary part that reads, under the header {e}
  pub plain_reads_back : (tag : ℕ) (c : Contents) → is_known tag ≡ true → contents tag part ≡ granted c → Encodes (plain_header part) e
      → record_in e (read_record limit tag e) ≡ granted (record { held = held_alone part; contents = c })
  unfolding record_holds lowest told_rows
  plain_reads_back tag c known reads x =
      let here : record_in e (read_record limit tag e) ≡ by_held tag (holds limit (plain_header part) []) = rw append-nil at (record_reads limit tag x []) in
      here ∙ rw (plain_holds limit part, known, reads)

  pub block_reads_back : (i : Identity) (secondary : List ℕ) → is_valid i ≡ true → length secondary ≤ limit
      → Encodes (block_part i) part → Encodes (block_header (length secondary) part) e
      → record_in (e ++ secondary) (read_record limit block_tag (e ++ secondary))
      ≡ granted (record { held = held_with part secondary; contents = record { identifier = i; kind = block_kind } })
  unfolding record_holds lowest told_rows is_known contents_of
  block_reads_back i secondary v l x y =
      record_reads limit block_tag y secondary ∙ rw (block_holds limit part secondary l, contents_reads block_tag x, block_part_lem i v)

pub version_reads_back : (i : Identity) (marker : Bool) {part : List ℕ} → is_valid i ≡ true → Encodes (version_part i marker) part
    → primary.version part ≡ granted (record { identifier = i; deleted = marker })
version_reads_back i marker v x = version_reads x ∙ version_part_lem i marker v

pub delete_reads_back : (i : Identity) (id : List ℕ) {part : List ℕ} → is_valid i ≡ true → is_ulid id ≡ true
    → Encodes (delete_part i id) part → contents version_delete_tag part ≡ granted (record { identifier = i; kind = delete_kind id })
unfolding contents_of
delete_reads_back i id v u x = contents_reads version_delete_tag x ∙ rw (delete_part_lem i id v u)
