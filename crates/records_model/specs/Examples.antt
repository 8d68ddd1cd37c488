-- A block and a pack list as two sites may write them, to which the theorem applies, with both answers computed; and a key that repeats, where the order
-- decides which number is given.
use Rattle.std.specs.Prelude.{ℕ, ◌+◌, Bool, true, false, ◌&&◌, List, [], ◌∷◌, ◌++◌, ◌≡◌, refl, ltb, length}
use Rattle.std.proofs.Common.{arith, ltb-true}
use Rattle.slices.specs.Bytes.{AllBytes, none_bytes, cons_bytes, same_bytes}
use Rattle.slices.specs.Logic.{both}
use Rattle.refusals.specs.Sheet.{lowest}
use Rattle.refusals.specs.Answers.{Answer, refused, granted}
use Rattle.endian.specs.Numbers.{little, big, little_bytes, big_bytes}
use Rattle.endian.specs.Places.{holds, number_at}
use Rattle.msgpack.specs.Formats.{formats, format_of}
use Rattle.msgpack.specs.Items.{head_of, pass_items, pass_head, pass_item}
use Rattle.msgpack.specs.Readers.{is_whole, plus, minus, integer_of, content_at, read_integer, count_at}
use Rattle.msgpack.specs.Lookup.{key_at, last_where, last_value}
use Rattle.msgpack.specs.Pairs.{times_where, times_of}
use Rattle.msgpack.specs.Views.{repeats, text_at, items_from}
use Rattle.msgpack_model.specs.Values.{Value, Integer, Text, Binary, Array, Map, no_values_lem, value, Pairs, no_pairs, pair}
use Rattle.msgpack_model.specs.Encoding.{fixstr, str8, bin8, fixmap, text, binary, Encodes, scalar, map, no_pair, next_pair}
use Rattle.msgpack_model.specs.Writers.{number_written}
use Rattle.identifier.specs.Texts.{member, all}
use Rattle.identifier.specs.Ulid.{alphabet, is_character, is_ulid}
use Rattle.identifier.specs.Identity.{sized, is_bucket, is_object, identity, is_valid, identity_of}
use Rattle.value.specs.Header.{primary_key, secondary_key, length_key, compression_key, coding, Telling}
use Rattle.value.specs.Fields.{natural_under, bytes_under, is_there}
use Rattle.value.specs.Header as bytes
use Rattle.value.specs.Reading.{reading}
use Rattle.primary.specs.Parts.{bucket_key, object_key, ulid_key, identifier_key, fills, text_under, texts_under, shape_at, shape_under}
use Rattle.primary.specs.Parts as part
use Rattle.pack_list.specs.Lists as list
use Rattle.pack_list.specs.Lists.{entries_key, pack_key, source_key, stored_key, lengths_key, deltas_key, start_key, range, each_of, list_at, range_at, entry_at, entries_under, any_of, entry_repeats, list_repeats, all_of, sum, is_filled}
use Rattle.records.specs.Record.{block_tag, pack_list_tag, is_known, block, pack_list, contents, told_rows, read_record}
use Rattle.records_model.specs.Alike.{Alike, same, maps, next_pair as next_pair_alike, swapped, AlikeRecordValues, same_value}
use Rattle.records_model.specs.Record.{RecordHeld, record_in}
use Rattle.records_model.specs.Written.{held_alone}

-- ---- texts in two widths

abbrev pub narrow : List ℕ → List ℕ
narrow t = (0xa0 + length t) ∷ t

abbrev pub wide : List ℕ → List ℕ
wide t = 0xd9 ∷ big_bytes 1 (length t) ++ t

abbrev pub ulid : List ℕ
ulid =
    0x30 ∷ 0x30 ∷ 0x30 ∷ 0x30 ∷ 0x30 ∷ 0x30 ∷ 0x30 ∷ 0x30 ∷ 0x30 ∷ 0x30 ∷ 0x30 ∷ 0x30 ∷ 0x30 ∷ 0x30 ∷ 0x30 ∷ 0x30 ∷ 0x30
    ∷ 0x30 ∷ 0x30 ∷ 0x30 ∷ 0x30 ∷ 0x30 ∷ 0x30 ∷ 0x30 ∷ 0x30 ∷ 0x31 ∷ []

abbrev pub herd : List ℕ
herd = 0x68 ∷ 0x65 ∷ 0x72 ∷ 0x64 ∷ []

abbrev pub scan : List ℕ
scan = 0x73 ∷ []

abbrev pub secondary : List ℕ
secondary = 0x61 ∷ 0x62 ∷ []

abbrev pub limit : ℕ
limit = 4294967295

-- ---- the primary part: {I: {b, o, v}} and {I: {o, b, v}}

abbrev pub here_identity : Pairs
here_identity = pair (Text bucket_key) (Text herd) (pair (Text object_key) (Text scan) (pair (Text ulid_key) (Text ulid) no_pairs))

abbrev pub here_part : Value
here_part = Map (pair (Text identifier_key) (Map here_identity) no_pairs)

abbrev pub there_part : Value
there_part = Map (pair (Text identifier_key)
    (Map (pair (Text object_key) (Text scan) (pair (Text bucket_key) (Text herd) (pair (Text ulid_key) (Text ulid) no_pairs)))) no_pairs)

abbrev pub identity_bytes : List ℕ
identity_bytes = 0x83 ∷ narrow bucket_key ++ narrow herd ++ narrow object_key ++ narrow scan ++ narrow ulid_key ++ narrow ulid

abbrev pub here_part_bytes : List ℕ
here_part_bytes = 0x81 ∷ narrow identifier_key ++ identity_bytes

abbrev pub there_part_bytes : List ℕ
there_part_bytes = 0x81 ∷ narrow identifier_key ++ 0xde ∷ 0 ∷ 3 ∷ wide object_key ++ narrow scan ++ narrow bucket_key ++ wide herd ++ narrow ulid_key ++ narrow ulid

-- ---- the header: {s: [{l, c}], e} and {e, s: [{c, l}]}

abbrev here_secondary : Pairs
here_secondary = pair (Text length_key) (Integer (plus 2)) (pair (Text compression_key) (Integer (plus 7)) no_pairs)

abbrev pub here_header : Value
here_header = Map (pair (Text secondary_key) (Array (value (Map here_secondary) no_values_lem)) (pair (Text primary_key) (Binary here_part_bytes) no_pairs))

abbrev pub there_header : Value
there_header =
    Map (pair (Text primary_key) (Binary there_part_bytes)
    (pair (Text secondary_key) (Array
    (value (Map (pair (Text compression_key) (Integer (plus 7)) (pair (Text length_key) (Integer (plus 2)) no_pairs))) no_values_lem)) no_pairs))

abbrev pub here_bytes : List ℕ
here_bytes = 0x82 ∷ narrow secondary_key ++ 0x91 ∷ 0x82 ∷ narrow length_key ++ 2 ∷ narrow compression_key ++ 7 ∷ narrow primary_key
    ++ 0xc4 ∷ length here_part_bytes ∷ here_part_bytes

abbrev pub there_bytes : List ℕ
there_bytes = 0x82 ∷ wide primary_key ++ 0xc5 ∷ 0 ∷ length there_part_bytes ∷ there_part_bytes ++ narrow secondary_key
    ++ 0x91 ∷ 0x82 ∷ narrow compression_key ++ 7 ∷ narrow length_key ++ 0xcd ∷ 0 ∷ 2 ∷ []

-- ---- a header with `c` twice: {e, c: 1, c: 0}, {e, c: nil, c: 0} and {e, c: 0, c: nil}

abbrev twice : Value → Value → Value
twice first last = Map (pair (Text primary_key) (Binary here_part_bytes) (pair (Text compression_key) first (pair (Text compression_key) last no_pairs)))

-- each value is one byte
abbrev pub twice_bytes : ℕ → ℕ → List ℕ
twice_bytes first last = 0x83 ∷ narrow primary_key ++ 0xc4 ∷ length here_part_bytes ∷ here_part_bytes ++ narrow compression_key
    ++ first ∷ narrow compression_key ++ last ∷ []

-- ---- a pack list: {I, P: [{p, o: {l}, t: {s, l}, E, N}]} and {P: [{o: {l}, p, t: {l, s}, E, N}], I}

abbrev pub number : ℕ → Value
number n = Integer (plus n)

abbrev listed : Pairs
listed = pair (Text lengths_key) (Array (value (number 101) (value (number 101) no_values_lem)))
    (pair (Text deltas_key) (Array (value (Integer (minus 1)) no_values_lem)) no_pairs)

abbrev source : Value
source = Map (pair (Text list.length_key) (number 36) no_pairs)

abbrev pub here_entry : Value
here_entry =
    Map (pair (Text pack_key) (Text ulid)
    (pair (Text source_key) source
    (pair (Text stored_key) (Map (pair (Text start_key) (number 7) (pair (Text list.length_key) (number 303) no_pairs))) listed)))

abbrev pub there_entry : Value
there_entry =
    Map (pair (Text source_key) source
    (pair (Text pack_key) (Text ulid)
    (pair (Text stored_key) (Map (pair (Text list.length_key) (number 303) (pair (Text start_key) (number 7) no_pairs))) listed)))

abbrev pub here_list : Value
here_list = Map (pair (Text identifier_key) (Map here_identity) (pair (Text entries_key) (Array (value here_entry no_values_lem)) no_pairs))

abbrev pub there_list : Value
there_list = Map (pair (Text entries_key) (Array (value there_entry no_values_lem)) (pair (Text identifier_key) (Map here_identity) no_pairs))

abbrev pub here_list_bytes : List ℕ
here_list_bytes = 0x82 ∷ narrow identifier_key ++ identity_bytes ++ narrow entries_key ++ 0x91 ∷ 0x85 ∷ narrow pack_key ++ narrow ulid
    ++ narrow source_key ++ 0x81 ∷ narrow list.length_key ++ 36 ∷ narrow stored_key ++ 0x82 ∷ narrow start_key ++ 7 ∷ narrow list.length_key ++ 0xcd ∷ 1 ∷ 47
    ∷ narrow lengths_key ++ 0x92 ∷ 101 ∷ 101 ∷ narrow deltas_key ++ 0x91 ∷ 0xff ∷ []

abbrev pub there_list_bytes : List ℕ
there_list_bytes = 0x82 ∷ wide entries_key ++ 0xdc ∷ 0 ∷ 1 ∷ 0xde ∷ 0 ∷ 5 ∷ narrow source_key ++ 0x81 ∷ narrow list.length_key ++ 0xcd ∷ 0 ∷ 36
    ∷ narrow pack_key ++ wide ulid ++ narrow stored_key ++ 0x82 ∷ narrow list.length_key ++ 0xcd ∷ 1 ∷ 47 ∷ wide start_key ++ 7
    ∷ narrow lengths_key ++ 0x92 ∷ 0xcc ∷ 101 ∷ 101 ∷ narrow deltas_key ++ 0x91 ∷ 0xff ∷ narrow identifier_key ++ identity_bytes

abbrev pub here_list_header : List ℕ
here_list_header = 0x81 ∷ narrow primary_key ++ 0xc4 ∷ length here_list_bytes ∷ here_list_bytes

abbrev pub there_list_header : List ℕ
there_list_header = 0x81 ∷ wide primary_key ++ 0xc5 ∷ 0 ∷ length there_list_bytes ∷ there_list_bytes

-- ---- what is read

abbrev pub answer_to : List ℕ → Answer RecordHeld
answer_to s = record_in s (read_record limit block_tag s)

abbrev answer : List ℕ → List ℕ → Telling → Answer RecordHeld
answer primary secondary told =
    granted (record {
      held = record { primary = primary; secondary = secondary; told = told };
      contents = record { identifier = identity ulid herd scan; kind = block };
    })

abbrev with_secondary : Telling
with_secondary = record { version = 0; primary = coding 0 false; present = true; length = 2; secondary = coding 7 false }

abbrev pub list_answer_to : List ℕ → Answer RecordHeld
list_answer_to s = record_in s (read_record limit pack_list_tag s)

abbrev list_answer : List ℕ → Answer RecordHeld
list_answer primary =
    granted (record {
      held = held_alone primary;
      contents =
          record {
            identifier = identity ulid herd scan;
            kind =
                pack_list (record { pack = ulid; source = range 0 36; stored = range 7 303; lengths = 101 ∷ 101 ∷ []; deltas = minus 1 ∷ [] } ∷ []);
          };
    })

pub record Computed : Type 0 where
  pub here : answer_to (here_bytes ++ secondary) ≡ answer here_part_bytes secondary with_secondary
  pub there : answer_to (there_bytes ++ secondary) ≡ answer there_part_bytes secondary with_secondary
  pub twice_integers : answer_to (twice_bytes 1 0) ≡ refused 22
  pub nil_first : answer_to (twice_bytes 0xc0 0) ≡ refused 22
  pub nil_last : answer_to (twice_bytes 0 0xc0) ≡ refused 11
  pub list_here : list_answer_to here_list_header ≡ list_answer here_list_bytes
  pub list_there : list_answer_to there_list_header ≡ list_answer there_list_bytes

pub computed : Computed
unfolding read_record reading pass_item pass_head head_of number_at holds format_of pass_items big little formats bytes.header
    bytes.header_repeats repeats times_of times_where part.block_repeats bytes.telling bytes.alone bytes.with_list
    bytes.with_map items_from bytes_under last_value last_where key_at same_bytes content_at is_whole natural_under read_integer
    integer_of is_there count_at lowest told_rows is_known contents part.block fills shape_under shape_at text_at texts_under
    text_under identity_of is_valid is_ulid is_character alphabet is_bucket is_object sized member all big_bytes little_bytes
    list.pack_list each_of list_at range_at entry_at entries_under any_of entry_repeats list_repeats all_of sum list.is_short is_filled
computed =
    record {
      here = refl;
      there = refl;
      twice_integers = refl;
      nil_first = refl;
      nil_last = refl;
      list_here = refl;
      list_there = refl;
    }

-- ---- these are encodings

unfoldable pub is_short : ℕ → List ℕ → Bool
is_short most t = ltb (length t) most && all (λ b. ltb b 256) t

pub all_bytes : (t : List ℕ) → all (λ b. ltb b 256) t ≡ true → AllBytes t
unfolding all
all_bytes [] e = none_bytes
all_bytes (b ∷ t) e = let p = both (ltb b 256) (all (λ b. ltb b 256) t) e in cons_bytes (ltb-true b 256 p.0) (all_bytes t p.1)

pub narrow_text : (t : List ℕ) → is_short 32 t ≡ true → Encodes (Text t) (narrow t)
unfolding is_short
narrow_text t e = let p = both (ltb (length t) 32) _ e in scalar (text (fixstr (length t) (ltb-true _ _ p.0)) (all_bytes t p.1))

pub wide_text : (t : List ℕ) → is_short 256 t ≡ true → Encodes (Text t) (wide t)
unfolding is_short
wide_text t e = let p = both (ltb (length t) 256) _ e in scalar (text (str8 (number_written 1 (length t) (ltb-true _ _ p.0))) (all_bytes t p.1))

pub twice_header : {first last : Value} {a b : ℕ} → Encodes first (a ∷ []) → Encodes last (b ∷ []) → Encodes (twice first last) (twice_bytes a b)
unfolding is_short all big_bytes little_bytes
twice_header x y =
    map (fixmap 3 (omega arith)) (next_pair (narrow_text primary_key refl)
    (scalar (binary (bin8 (number_written 1 (length here_part_bytes) (omega arith))) (all_bytes here_part_bytes refl)))
    (next_pair (narrow_text compression_key refl) x (next_pair (narrow_text compression_key refl) y no_pair)))

-- ---- the theorem applies to the two sites

pub twice_alike : (first last : Value) → Alike (twice first last) (twice last first)
twice_alike first last = maps (next_pair_alike (same _) (same _) (swapped _ _ _ _ no_pairs))

-- ---- values that no reader can read: each is alike to itself

pub empty_alike : AlikeRecordValues [] []
empty_alike = same_value []

pub twice_itself : AlikeRecordValues (twice_bytes 1 0) (twice_bytes 1 0)
twice_itself = same_value (twice_bytes 1 0)
