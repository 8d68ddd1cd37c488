-- Document 01's cases A to N, as one table, computed on the definitions.
use Rattle.std.specs.Prelude.{ℕ, zero, suc, false, true, List, [], ◌∷◌, ◌++◌, map, ◌≡◌, refl, take, set}
use Rattle.slices.specs.Bytes.{same_bytes}
use Rattle.refusals.specs.Answers as refusals
use Rattle.refusals.specs.Sheet.{lowest}
use Rattle.refusals.specs.Limit.{pack_limit}
use Rattle.endian.specs.Numbers.{little, big}
use Rattle.endian.specs.Places.{holds, number_at}
use Rattle.xxh64.specs.Xxh64.{add, mul, rotl, fold_high, lane, taken, round, merge_accumulator, converge, stripes, consume8, consume4, consume1, consume, avalanche, xxh64}
use Rattle.tlv.specs.Layout.{field}
use Rattle.tlv.specs.Found.{header_rows, value_rows, header_of, step}
use Rattle.pack.specs.Reading as pack
use Rattle.msgpack.specs.Formats.{formats, format_of}
use Rattle.msgpack.specs.Items.{head_of, pass_items, pass_head, pass_item}
use Rattle.msgpack.specs.Readers.{is_whole, content_at, integer_of, read_integer, count_at}
use Rattle.msgpack.specs.Lookup.{key_at, last_where, last_value}
use Rattle.msgpack.specs.Pairs.{times_where, times_of}
use Rattle.msgpack.specs.Views.{repeats, items_from}
use Rattle.value.specs.Fields.{natural_under, bytes_under, is_there}
use Rattle.value.specs.Header.{coding, part, alone, telling, header_repeats, with_map, with_list, header}
use Rattle.value.specs.Reading as value
use Rattle.value.specs.declared.Told.{Told}

-- ---- what is asked of some bytes, and what is answered

pub data Question : Type 0 where
  as_pack : Question
  as_value : Question

pub data CaseAnswer : Type 0 where
  of_pack : pack.Reading → CaseAnswer
  of_value : refusals.Answer Told → CaseAnswer

abbrev pub answer : Question → List ℕ → CaseAnswer
answer as_pack s = of_pack (pack.reading pack_limit s)
answer as_value s = of_value (value.reading pack_limit s)

pub record Case : Type 0 where
  pub bytes : List ℕ
  pub asked : Question
  pub answered : CaseAnswer

-- ---- packs

-- document 001's sample record, tag `C!` and value `data data data`
abbrev pub sample : List ℕ
sample =
    0x89 ∷ 0x54 ∷ 0x4C ∷ 0x56 ∷ 0x0D ∷ 0x0A ∷ 0x1A ∷ 0x0A
    ∷ 0x00 ∷ 0x00 ∷ 0x00 ∷ 0x00 ∷ 0x00 ∷ 0x00 ∷ 0x00 ∷ 0x0E
    ∷ 0xE3 ∷ 0x3D ∷ 0xB5 ∷ 0xF4 ∷ 0x9F ∷ 0x8E ∷ 0xCB ∷ 0x36
    ∷ 0x00 ∷ 0x43 ∷ 0x21 ∷ 0x08 ∷ 0x00 ∷ 0x00 ∷ 0xBB ∷ 0x14
    ∷ 0x64 ∷ 0x61 ∷ 0x74 ∷ 0x61 ∷ 0x20 ∷ 0x64 ∷ 0x61 ∷ 0x74 ∷ 0x61 ∷ 0x20 ∷ 0x64 ∷ 0x61 ∷ 0x74 ∷ 0x61
    ∷ []

-- its one record, and how the reading ends
abbrev sample_then : pack.Ending → pack.Reading
sample_then ending = record { entries = record { start = 0; tag = 0x4321; length = 14; hash = 0xE33DB5F49F8ECB36 } ∷ []; ending = ending }

abbrev pack_case : List ℕ → pack.Reading → Case
pack_case s r = record { bytes = s; asked = as_pack; answered = of_pack r }

-- no record before the refusal
abbrev pack_refused : List ℕ → (number place : ℕ) → Case
pack_refused s n place = pack_case s (record { entries = []; ending = pack.refused n place })

-- ---- values

-- document 003's value: a header that tells a length and a primary part, and the secondary part
abbrev value_sample : List ℕ
value_sample =
    0x82 ∷ 0xA1 ∷ 0x73 ∷ 0x91 ∷ 0x81 ∷ 0xA1 ∷ 0x6C ∷ 0x0C ∷ 0xA1 ∷ 0x65 ∷ 0xC4 ∷ 0x10 ∷ 0xC4 ∷ 0x0E
    ∷ 0x76 ∷ 0x61 ∷ 0x6C ∷ 0x75 ∷ 0x65 ∷ 0x20 ∷ 0x31 ∷ 0x20 ∷ 0x68 ∷ 0x65 ∷ 0x61 ∷ 0x64 ∷ 0x65 ∷ 0x72
    ∷ 0x76 ∷ 0x61 ∷ 0x6C ∷ 0x75 ∷ 0x65 ∷ 0x20 ∷ 0x31 ∷ 0x20 ∷ 0x64 ∷ 0x61 ∷ 0x74 ∷ 0x61
    ∷ []

abbrev value_case : List ℕ → (refusals.Answer Told) → Case
value_case s a = record { bytes = s; asked = as_value; answered = of_value a }

-- byte 91 so often, and 90: lists of one item, the last of none
abbrev nested : ℕ → List ℕ
nested zero = 0x90 ∷ []
nested (suc n) = 0x91 ∷ nested n

-- ---- the table

abbrev pub cases : List Case
cases =
    -- A, the empty pack; B, the sample
    pack_case [] (record { entries = []; ending = pack.whole })
    ∷ pack_case sample (sample_then pack.whole)
    -- C to E: without its last byte, its first 31 bytes, with a byte 00 behind it
    ∷ pack_refused (take 45 sample) 7 0
    ∷ pack_refused (take 31 sample) 2 0
    ∷ pack_case (sample ++ (0x00 ∷ [])) (sample_then (pack.refused 2 46))
    -- F to J: one byte of it changed
    ∷ pack_refused (set sample 0 0x88) 3 0
    ∷ pack_refused (set sample 24 0x01) 4 0
    ∷ pack_refused (set sample 27 0x07) 5 0
    ∷ pack_refused (set sample 31 0x15) 6 0
    ∷ pack_refused (set sample 45 0x62) 8 0
    -- K, a value with both parts; L, its first 39 bytes
    ∷ value_case value_sample
    (refusals.granted (record { version = 0; primary = part 12 16 (coding 0 false); present = true; secondary = part 28 12 (coding 0 false) }))
    ∷ value_case (take 39 value_sample) (refusals.refused 12)
    -- M: the empty map, and the empty value
    ∷ value_case (0x80 ∷ []) (refusals.refused 11)
    ∷ value_case [] (refusals.refused 9)
    -- N: lists of depth 16 and 17
    ∷ value_case (nested 15) (refusals.refused 11)
    ∷ value_case (nested 16) (refusals.refused 10)
    -- request 4: {e, s: [{l, l}]}
    ∷ value_case (0x82 ∷ 0xa1 ∷ 0x65 ∷ 0xc4 ∷ 0 ∷ 0xa1 ∷ 0x73 ∷ 0x91 ∷ 0x82 ∷ 0xa1 ∷ 0x6c ∷ 0 ∷ 0xa1 ∷ 0x6c ∷ 0 ∷ []) (refusals.refused 22)
    ∷ []

pub cases_hold : map (λ (c : Case). answer c.asked c.bytes) cases ≡ map (λ (c : Case). c.answered) cases
unfolding little big add mul rotl fold_high lane taken round merge_accumulator converge stripes consume8 consume4 consume1
    consume avalanche xxh64 field header_rows value_rows lowest header_of step pack.records pack.reading pass_item pass_head
    pass_items head_of is_whole content_at integer_of read_integer count_at key_at same_bytes last_where last_value repeats times_of times_where items_from format_of
    formats number_at holds natural_under bytes_under is_there alone telling header_repeats with_map with_list header value.reading
cases_hold = refl
