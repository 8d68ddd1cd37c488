-- The packs of two sites, alike, with their lookups computed. A record that both have is alike to itself, though no reader could read it: one with the
-- tag `C!` and an empty value, and a version with a key twice.
use Rattle.std.specs.Prelude.{ℕ, true, List, [], ◌∷◌, ◌++◌, ◌≡◌, refl, length}
use Rattle.std.proofs.Common.{arith}
use Rattle.slices.specs.Bytes.{same_bytes}
use Rattle.refusals.specs.Sheet.{lowest}
use Rattle.refusals.specs.Limit.{pack_limit}
use Rattle.endian.specs.Numbers.{little, big, little_bytes, big_bytes}
use Rattle.endian.specs.Places.{holds, number_at}
use Rattle.xxh64.specs.Xxh64.{add, mul, rotl, fold_high, lane, taken, round, merge_accumulator, converge, stripes, consume8, consume4, consume1, consume, avalanche, xxh64}
use Rattle.tlv.specs.Layout.{Record, bytes_of, fields, head, layout, layouts, field}
use Rattle.tlv.specs.Found as tlv
use Rattle.tlv.specs.Found.{header_rows, value_rows, step}
use Rattle.pack.specs.Reading.{records, reading}
use Rattle.msgpack.specs.Formats.{formats, format_of}
use Rattle.msgpack.specs.Items.{head_of, pass_items, pass_head, pass_item}
use Rattle.msgpack.specs.Readers.{is_whole, content_at, read_boolean, integer_of, read_integer, count_at}
use Rattle.msgpack.specs.Lookup.{key_at, last_where, last_value}
use Rattle.msgpack.specs.Pairs.{times_where, times_of}
use Rattle.msgpack.specs.Views.{repeats, text_at, items_from, no_more, and_each}
use Rattle.msgpack_model.specs.Values.{Value, Boolean, Text, Binary, Map, no_pairs, pair}
use Rattle.msgpack_model.specs.Encoding.{true_byte, bin8, bin16, fixmap, map16, binary, Encodes, scalar, map, no_pair, next_pair}
use Rattle.msgpack_model.specs.Writers.{number_written}
use Rattle.identifier.specs.Texts.{member, all, less}
use Rattle.identifier.specs.Ulid.{alphabet, is_character, is_ulid}
use Rattle.identifier.specs.Identity.{sized, is_bucket, is_object, identity, is_valid, identity_of, same_identity}
use Rattle.held_identifier.specs.Held.{has_name}
use Rattle.value.specs.Fields.{natural_under, bytes_under, is_there}
use Rattle.value.specs.Header.{primary_key, with_map, with_list, header}
use Rattle.value.specs.Header as value-header
use Rattle.value.specs.Reading as value
use Rattle.primary.specs.Parts as primary
use Rattle.primary.specs.Parts.{bucket_key, object_key, ulid_key, deleted_key, fills, text_under, texts_under, deleted_under, ulid_of}
use Rattle.records.specs.Record.{version_tag, is_known, contents, told_rows, read_record}
use Rattle.records_model.specs.Alike.{same, maps, embedded, next_pair as next_pair_alike, no_pairs_alike, swapped, AlikeRecordValues, same_value, headers}
use Rattle.records_model.specs.Examples.{narrow, wide, ulid, herd, scan, twice_bytes, is_short, all_bytes, narrow_text, wide_text}
use Rattle.current_version.specs.Current.{is_looked_at, role, version_of, filtered, better, best, deletes, is_deleted, is_live, current, Answer, found, refused_at, readability, answer_in, is_name, lookup}
use Rattle.demands_laws.specs.Sites.{AlikePacks}

-- ---- a delete marker: {e: {b, o, v, d}} and {e: {o, b, v, d}}

abbrev here_part : Value
here_part = Map (pair (Text bucket_key) (Text herd) (pair (Text object_key) (Text scan)
    (pair (Text ulid_key) (Text ulid) (pair (Text deleted_key) (Boolean true) no_pairs))))

abbrev there_part : Value
there_part = Map (pair (Text object_key) (Text scan) (pair (Text bucket_key) (Text herd)
    (pair (Text ulid_key) (Text ulid) (pair (Text deleted_key) (Boolean true) no_pairs))))

abbrev here_part_bytes : List ℕ
here_part_bytes = 0x84 ∷ narrow bucket_key ++ narrow herd ++ narrow object_key ++ narrow scan ++ narrow ulid_key ++ narrow ulid ++ narrow deleted_key ++ 0xc3 ∷ []

abbrev there_part_bytes : List ℕ
there_part_bytes = 0xde ∷ 0 ∷ 4 ∷ wide object_key ++ narrow scan ++ narrow bucket_key ++ wide herd ++ narrow ulid_key ++ narrow ulid ++ narrow deleted_key
    ++ 0xc3 ∷ []

abbrev here_value : List ℕ
here_value = 0x81 ∷ narrow primary_key ++ 0xc4 ∷ length here_part_bytes ∷ here_part_bytes

abbrev there_value : List ℕ
there_value = 0x81 ∷ wide primary_key ++ 0xc5 ∷ 0 ∷ length there_part_bytes ∷ there_part_bytes

-- ---- the packs

-- bytes 28 and 29, the tag and the value
abbrev with : ℕ → ℕ → List ℕ → Record
with spare tag value = record { spare = spare; tag = tag; value = value }

abbrev unknown_tag : ℕ
unknown_tag = 0x4321  -- `C!`

-- the marker under a tag that is not looked at, which moves what follows; an empty value; and a version
abbrev pack : ℕ → List ℕ → List ℕ → List ℕ
pack spare moving last = layouts (with spare unknown_tag moving ∷ with spare unknown_tag [] ∷ with spare version_tag last ∷ [])

abbrev marker : List ℕ → ℕ → Answer
marker value start = found (record { identifier = identity ulid herd scan; delete_flag = true; value = value; start = start })

pub record Computed : Type 0 where
  pub here_found : lookup pack_limit (pack 0 here_value here_value) herd scan ≡ marker here_value 113
  pub there_found : lookup pack_limit (pack 1 there_value there_value) herd scan ≡ marker there_value 119
  pub here_refused : lookup pack_limit (pack 0 here_value (twice_bytes 1 0)) herd scan ≡ refused_at 22 113
  pub there_refused : lookup pack_limit (pack 1 there_value (twice_bytes 1 0)) herd scan ≡ refused_at 22 119

pub computed : Computed
unfolding layouts layout head fields bytes_of big_bytes little_bytes little big add mul rotl fold_high lane taken round
    merge_accumulator converge stripes consume8 consume4 consume1 consume avalanche xxh64 field header_rows value_rows
    lowest tlv.header_of step records reading pass_item pass_head pass_items head_of is_whole content_at read_boolean integer_of
    read_integer count_at key_at same_bytes last_where last_value repeats times_of times_where items_from format_of formats
    number_at holds natural_under bytes_under is_there value-header.alone value-header.telling value-header.header_repeats
    with_map with_list header value.reading fills text_at text_under texts_under deleted_under ulid_of primary.version
    is_ulid is_character alphabet is_bucket is_object is_valid identity_of sized member all is_known
    contents told_rows read_record is_looked_at role less has_name same_identity version_of filtered better best deletes
    is_deleted is_live current readability answer_in is_name lookup
computed = record { here_found = refl; there_found = refl; here_refused = refl; there_refused = refl }

-- ---- they are alike

here_part_lem : Encodes here_part here_part_bytes
unfolding is_short all
here_part_lem =
    map (fixmap 4 (omega arith)) (next_pair (narrow_text bucket_key refl) (narrow_text herd refl)
    (next_pair (narrow_text object_key refl) (narrow_text scan refl)
    (next_pair (narrow_text ulid_key refl) (narrow_text ulid refl)
    (next_pair (narrow_text deleted_key refl) (scalar true_byte) no_pair))))

there_part_lem : Encodes there_part there_part_bytes
unfolding is_short all big_bytes little_bytes
there_part_lem =
    map (map16 (number_written 2 4 (omega arith))) (next_pair (wide_text object_key refl) (narrow_text scan refl)
    (next_pair (narrow_text bucket_key refl) (wide_text herd refl)
    (next_pair (narrow_text ulid_key refl) (narrow_text ulid refl)
    (next_pair (narrow_text deleted_key refl) (scalar true_byte) no_pair))))

abbrev header_of : List ℕ → Value
header_of part = Map (pair (Text primary_key) (Binary part) no_pairs)

here_header_lem : Encodes (header_of here_part_bytes) here_value
unfolding is_short all big_bytes little_bytes
here_header_lem =
    map (fixmap 1 (omega arith)) (next_pair (narrow_text primary_key refl)
    (scalar (binary (bin8 (number_written 1 (length here_part_bytes) (omega arith))) (all_bytes here_part_bytes refl))) no_pair)

there_header_lem : Encodes (header_of there_part_bytes) there_value
unfolding is_short all big_bytes little_bytes
there_header_lem =
    map (fixmap 1 (omega arith)) (next_pair (wide_text primary_key refl)
    (scalar (binary (bin16 (number_written 2 (length there_part_bytes) (omega arith))) (all_bytes there_part_bytes refl))) no_pair)

values_alike : AlikeRecordValues here_value there_value
unfolding big_bytes little_bytes
values_alike = headers here_header_lem there_header_lem
    (maps (next_pair_alike (same _) (embedded here_part_lem there_part_lem (maps (swapped _ _ _ _ _))) no_pairs_alike)) []

pub found_alike : AlikePacks pack_limit (pack 0 here_value here_value) (pack 1 there_value there_value)
unfolding layouts layout head fields bytes_of big_bytes little_bytes little big add mul rotl fold_high lane taken round
    merge_accumulator converge stripes consume8 consume4 consume1 consume avalanche xxh64 field header_rows value_rows
    lowest tlv.header_of step records reading
found_alike =
    record {
      first_accepted = refl;
      second_accepted = refl;
      entries =
          and_each (record { tag = refl; value = values_alike })
          (and_each (record { tag = refl; value = same_value [] })
          (and_each (record { tag = refl; value = values_alike }) no_more));
    }

pub refused_alike : AlikePacks pack_limit (pack 0 here_value (twice_bytes 1 0)) (pack 1 there_value (twice_bytes 1 0))
unfolding layouts layout head fields bytes_of big_bytes little_bytes little big add mul rotl fold_high lane taken round
    merge_accumulator converge stripes consume8 consume4 consume1 consume avalanche xxh64 field header_rows value_rows
    lowest tlv.header_of step records reading
refused_alike =
    record {
      first_accepted = refl;
      second_accepted = refl;
      entries =
          and_each (record { tag = refl; value = values_alike })
          (and_each (record { tag = refl; value = same_value [] })
          (and_each (record { tag = refl; value = same_value (twice_bytes 1 0) }) no_more));
    }
