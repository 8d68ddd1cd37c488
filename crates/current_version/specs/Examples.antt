-- The lookup on packs written out, as one table; antt computes every answer.
use Rattle.std.specs.Prelude.{ℕ, suc, ◌+◌, Bool, true, false, List, [], ◌∷◌, ◌++◌, map, ◌≡◌, refl, length, take, replicate}
use Rattle.slices.specs.Bytes.{same_bytes}
use Rattle.refusals.specs.Sheet.{lowest}
use Rattle.refusals.specs.Limit.{pack_limit}
use Rattle.endian.specs.Numbers.{little, big, little_bytes, big_bytes}
use Rattle.endian.specs.Places.{holds, number_at}
use Rattle.xxh64.specs.Xxh64.{add, mul, rotl, fold_high, lane, taken, round, merge_accumulator, converge, stripes, consume8, consume4, consume1, consume, avalanche, xxh64}
use Rattle.tlv.specs.Layout.{Record, bytes_of, fields, head, layout, layouts, field}
use Rattle.tlv.specs.Found.{header_rows, value_rows, header_of, step}
use Rattle.pack.specs.Reading.{whole, records, reading}
use Rattle.msgpack.specs.Formats.{formats, format_of}
use Rattle.msgpack.specs.Items.{head_of, pass_items, pass_head, pass_item}
use Rattle.msgpack.specs.Readers.{is_whole, content_at, read_boolean, integer_of, read_integer, count_at}
use Rattle.msgpack.specs.Lookup.{key_at, last_where, last_value}
use Rattle.msgpack.specs.Pairs.{times_where, times_of}
use Rattle.msgpack.specs.Views.{repeats, text_at, items_from}
use Rattle.identifier.specs.Texts.{member, all, less}
use Rattle.identifier.specs.Ulid.{alphabet, is_character, is_ulid}
use Rattle.identifier.specs.Identity.{sized, is_bucket, is_object, identity, is_valid, identity_of, same_identity}
use Rattle.held_identifier.specs.Held.{has_name}
use Rattle.value.specs.Fields.{natural_under, bytes_under, is_there}
use Rattle.value.specs.Header.{with_map, with_list, header}
use Rattle.value.specs.Header as value-header
use Rattle.value.specs.Reading as value
use Rattle.primary.specs.Parts as primary
use Rattle.primary.specs.Parts.{fills, text_under, texts_under, deleted_under, ulid_of}
use Rattle.records.specs.Record.{block_tag, version_tag, version_delete_tag, is_known, contents, told_rows, read_record}
use Rattle.current_version.specs.Current.{is_looked_at, role, Version, version_of, filtered, better, best, deletes, is_deleted, is_live, current, Answer, nothing, found, refused_at, alone, readability, answer_in, is_name, lookup}

-- ---- records in their shortest forms

-- of fewer than 32 bytes
abbrev text : List ℕ → List ℕ
text t = (0xa0 + length t) ∷ t

abbrev pair : List ℕ → List ℕ → List ℕ
pair key value = text key ++ value

abbrev pub herd : List ℕ
herd = 0x68 ∷ []  -- h

abbrev flock : List ℕ
flock = 0x66 ∷ []  -- f

abbrev pub scan : List ℕ
scan = 0x73 ∷ []  -- s

abbrev pub one : ℕ
one = 0x31  -- 1

abbrev pub two : ℕ
two = 0x32  -- 2

abbrev three : ℕ
three = 0x33  -- 3

-- zeros, and a last character
abbrev ulid : ℕ → List ℕ
ulid x = replicate 25 0x30 ++ (x ∷ [])

-- `b`, `o` and `v`
abbrev named : List ℕ → ℕ → List ℕ
named bucket x = pair (0x62 ∷ []) (text bucket) ++ pair (0x6f ∷ []) (text scan) ++ pair (0x76 ∷ []) (text (ulid x))

-- a map of so many pairs, as the primary part of a value that has no other
abbrev value_of : ℕ → List ℕ → List ℕ
value_of n pairs = 0x81 ∷ 0xa1 ∷ 0x65 ∷ 0xc4 ∷ suc (length pairs) ∷ (0x80 + n) ∷ pairs

abbrev pub with : ℕ → List ℕ → Record
with tag value = record { spare = 0; tag = tag; value = value }

-- a version of the bucket; with its delete flag `d`; with an unknown key, so that its value is another
abbrev pub plain : List ℕ → ℕ → List ℕ
plain bucket x = value_of 3 (named bucket x)

abbrev marker : ℕ → List ℕ
marker x = value_of 4 (named herd x ++ pair (0x64 ∷ []) (0xc3 ∷ []))

abbrev pub another : ℕ → List ℕ
another x = value_of 4 (named herd x ++ pair (0x78 ∷ []) (0xc0 ∷ []))

abbrev pub vr : List ℕ → Record
vr value = with version_tag value

abbrev vd : ℕ → Record
vd x = with version_delete_tag (value_of 4 (named herd x ++ pair (0x3f ∷ 0x3f ∷ 0x3f ∷ []) (text (ulid 0x5a))))

-- ---- the table

pub record Row : Type 0 where
  pub pack : List ℕ
  pub bucket : List ℕ
  pub object : List ℕ
  pub answer : Answer

-- what is told of a version of herd/scan
abbrev pub told : ℕ → Bool → List ℕ → ℕ → Version
told x delete_flag value start = record { identifier = identity (ulid x) herd scan; delete_flag = delete_flag; value = value; start = start }

abbrev is : ℕ → Bool → List ℕ → ℕ → Answer
is x delete_flag value start = found (told x delete_flag value start)

abbrev asks : List ℕ → List ℕ → List ℕ → Answer → Row
asks pack bucket object answer = record { pack = pack; bucket = bucket; object = object; answer = answer }

abbrev gives : Answer → List Record → Row
gives answer rs = asks (layouts rs) herd scan answer

unfoldable pub rows : List Row
rows =
    gives nothing []
    -- the greatest ULID first, in the middle, last
    ∷ gives (is three false (plain herd three) 0) (vr (plain herd three) ∷ vr (plain herd one) ∷ vr (plain herd two) ∷ [])
    ∷ gives (is three false (plain herd three) 75) (vr (plain herd one) ∷ vr (plain herd three) ∷ vr (plain herd two) ∷ [])
    ∷ gives (is three false (plain herd three) 150) (vr (plain herd one) ∷ vr (plain herd two) ∷ vr (plain herd three) ∷ [])
    -- the same identifier twice, in either order
    ∷ gives (is one false (plain herd one) 0) (vr (plain herd one) ∷ vr (another one) ∷ [])
    ∷ gives (is one false (another one) 0) (vr (another one) ∷ vr (plain herd one) ∷ [])
    -- a deletion after what it deletes, before it, and of nothing that is there
    ∷ gives (is one false (plain herd one) 0) (vr (plain herd one) ∷ vr (plain herd two) ∷ vd two ∷ [])
    ∷ gives (is one false (plain herd one) 181) (vd two ∷ vr (plain herd two) ∷ vr (plain herd one) ∷ [])
    ∷ gives (is one false (plain herd one) 106) (vd two ∷ vr (plain herd one) ∷ [])
    ∷ gives nothing (vr (plain herd one) ∷ vd one ∷ vr (another one) ∷ [])
    -- a current delete marker, a deleted one, and one that is not the greatest
    ∷ gives (is two true (marker two) 75) (vr (plain herd one) ∷ vr (marker two) ∷ [])
    ∷ gives (is one false (plain herd one) 0) (vr (plain herd one) ∷ vr (marker two) ∷ vd two ∷ [])
    ∷ gives (is three false (plain herd three) 78) (vr (marker two) ∷ vr (plain herd three) ∷ [])
    -- of another bucket: neither found, nor deleted by a `vd` of this one
    ∷ gives (is one false (plain herd one) 75) (vr (plain flock two) ∷ vr (plain herd one) ∷ [])
    ∷ asks (layouts (vd one ∷ vr (plain flock one) ∷ [])) flock scan
    (found (record { identifier = identity (ulid one) flock scan; delete_flag = false; value = plain flock one; start = 106 }))
    ∷ asks (layouts (vr (plain herd one) ∷ [])) herd flock nothing
    -- another tag is passed over; the first `vr` or `vd` that cannot be read is told, of whichever name
    ∷ gives (is one false (plain herd one) 32) (with block_tag [] ∷ vr (plain herd one) ∷ [])
    ∷ gives (refused_at 11 75) (vr (plain herd one) ∷ with version_delete_tag (0x80 ∷ []) ∷ vr [] ∷ [])
    ∷ gives (refused_at 17 0) (with version_delete_tag (plain flock one) ∷ [])
    -- the whole pack is checked before that, and the name before the pack
    ∷ asks (layouts (vr [] ∷ []) ++ (0x00 ∷ [])) herd scan (refused_at 2 32)
    ∷ asks (0x00 ∷ []) [] scan (alone 20)
    ∷ asks (0x00 ∷ []) herd [] (alone 20)
    ∷ []

pub rows_hold : map (λ (r : Row). lookup pack_limit r.pack r.bucket r.object) rows ≡ map (λ (r : Row). r.answer) rows
unfolding rows layouts layout head fields bytes_of big_bytes little_bytes little big add mul rotl fold_high lane taken round
    merge_accumulator converge stripes consume8 consume4 consume1 consume avalanche xxh64 field header_rows value_rows
    lowest header_of step records reading pass_item pass_head pass_items head_of is_whole content_at read_boolean integer_of
    read_integer count_at key_at same_bytes last_where last_value repeats times_of times_where items_from format_of formats
    number_at holds natural_under bytes_under is_there value-header.alone value-header.telling value-header.header_repeats
    with_map with_list header value.reading fills text_at text_under texts_under deleted_under ulid_of primary.version
    primary.version_delete is_ulid is_character alphabet is_bucket is_object is_valid identity_of sized member all is_known
    contents told_rows read_record is_looked_at role less has_name same_identity version_of filtered better best deletes
    is_deleted is_live current readability answer_in is_name lookup
rows_hold = refl

-- ---- a front of a pack, such as a copy that stopped between two records, is accepted by itself and can answer otherwise: a newer version may be missing, or

-- the deletion
abbrev pub cut_pack : List ℕ
cut_pack = layouts (vr (plain herd one) ∷ vd one ∷ vr (plain herd two) ∷ [])

-- the first n bytes are accepted, and answer so
pub record FrontAnswers (n : ℕ) (answer : Answer) : Type 0 where
  pub accepted : (reading pack_limit (take n cut_pack)).ending ≡ whole
  pub answered : lookup pack_limit (take n cut_pack) herd scan ≡ answer

pub record FrontsDiffer : Type 0 where
  pub all_of_it : FrontAnswers (length cut_pack) (is two false (plain herd two) 181)
  pub newer_version_missing : FrontAnswers 181 nothing
  pub deletion_missing : FrontAnswers 75 (is one false (plain herd one) 0)

pub fronts_differ : FrontsDiffer
unfolding layouts layout head fields bytes_of big_bytes little_bytes little big add mul rotl fold_high lane taken round
    merge_accumulator converge stripes consume8 consume4 consume1 consume avalanche xxh64 field header_rows value_rows
    lowest header_of step records reading pass_item pass_head pass_items head_of is_whole content_at read_boolean integer_of
    read_integer count_at key_at same_bytes last_where last_value repeats times_of times_where items_from format_of formats
    number_at holds natural_under bytes_under is_there value-header.alone value-header.telling value-header.header_repeats
    with_map with_list header value.reading fills text_at text_under texts_under deleted_under ulid_of primary.version
    primary.version_delete is_ulid is_character alphabet is_bucket is_object is_valid identity_of sized member all is_known
    contents told_rows read_record is_looked_at role less has_name same_identity version_of filtered better best deletes
    is_deleted is_live current readability answer_in is_name lookup
fronts_differ = record {
  all_of_it = record { accepted = refl; answered = refl };
  newer_version_missing = record { accepted = refl; answered = refl };
  deletion_missing = record { accepted = refl; answered = refl };
}
