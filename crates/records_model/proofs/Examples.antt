-- A block and a pack list as two sites may write them, to which the theorem applies, with both answers computed; and a key that repeats, where the order
-- decides which number is given.
use Rattle.std.specs.Prelude.{ℕ, true, [], ◌∷◌, ◌++◌, ◌≡◌, refl, ltb, length}
use Rattle.std.proofs.Common.{arith, ltb-true}
use Rattle.endian.specs.Numbers.{little_bytes, big_bytes}
use Rattle.msgpack.specs.Readers.{minus}
use Rattle.msgpack_model.specs.Values.{Integer, Map, no_pairs}
use Rattle.msgpack_model.specs.Encoding.{bin8, bin16, fixarray, array16, fixmap, map16, positive_fixint, negative_fixint, uint8, uint16, binary, Encodes, scalar, array, map, none, next, no_pair, next_pair}
use Rattle.msgpack_model.specs.Writers.{number_written}
use Rattle.identifier.specs.Texts.{all}
use Rattle.value.specs.Header.{primary_key, secondary_key, length_key, compression_key}
use Rattle.primary.specs.Parts.{bucket_key, object_key, ulid_key, identifier_key}
use Rattle.pack_list.specs.Lists as list
use Rattle.pack_list.specs.Lists.{entries_key, pack_key, source_key, stored_key, lengths_key, deltas_key, start_key, range, each_of, list_at, range_at, entry_at, entries_under, any_of, entry_repeats, list_repeats, all_of, sum, is_filled}
use Rattle.records.specs.Record.{block_tag, pack_list_tag}
use Rattle.records_model.specs.Alike.{Alike, same, maps, arrays, embedded, next as next_alike, no_values_alike, next_pair as next_pair_alike, no_pairs_alike, swapped, and_further}
use Rattle.records_model.specs.Written.{plain_header}
use Rattle.records_model.specs.AnswersAlike.{AnswersAlike, SameRecord}
use Rattle.records_model.proofs.TwoSites.{records_alike}
use Rattle.records_model.specs.Examples.{ulid, herd, scan, secondary, limit, here_identity, here_part, there_part, identity_bytes, here_part_bytes, there_part_bytes, here_header, there_header, here_bytes, there_bytes, number, here_entry, there_entry, here_list, there_list, here_list_bytes, there_list_bytes, here_list_header, there_list_header, answer_to, list_answer_to, is_short, all_bytes, narrow_text, wide_text}

-- ---- these are encodings

identity_written : Encodes (Map here_identity) identity_bytes
unfolding is_short all
identity_written =
    map (fixmap 3 (omega arith)) (next_pair (narrow_text bucket_key refl) (narrow_text herd refl)
    (next_pair (narrow_text object_key refl) (narrow_text scan refl)
    (next_pair (narrow_text ulid_key refl) (narrow_text ulid refl) no_pair)))

here_part_lem : Encodes here_part here_part_bytes
unfolding is_short all
here_part_lem = map (fixmap 1 (omega arith)) (next_pair (narrow_text identifier_key refl) identity_written no_pair)

there_part_lem : Encodes there_part there_part_bytes
unfolding is_short all big_bytes little_bytes
there_part_lem =
    map (fixmap 1 (omega arith)) (next_pair (narrow_text identifier_key refl)
    (map (map16 (number_written 2 3 (omega arith))) (next_pair (wide_text object_key refl) (narrow_text scan refl)
    (next_pair (narrow_text bucket_key refl) (wide_text herd refl)
    (next_pair (narrow_text ulid_key refl) (narrow_text ulid refl) no_pair))))
    no_pair)

here_header_lem : Encodes here_header here_bytes
unfolding is_short all big_bytes little_bytes
here_header_lem =
    map (fixmap 2 (omega arith)) (next_pair (narrow_text secondary_key refl)
    (array (fixarray 1 (omega arith)) (next
    (map (fixmap 2 (omega arith)) (next_pair (narrow_text length_key refl) (scalar (positive_fixint 2 (omega arith)))
    (next_pair (narrow_text compression_key refl) (scalar (positive_fixint 7 (omega arith))) no_pair))) none))
    (next_pair (narrow_text primary_key refl)
    (scalar (binary (bin8 (number_written 1 (length here_part_bytes) (omega arith))) (all_bytes here_part_bytes refl))) no_pair))

there_header_lem : Encodes there_header there_bytes
unfolding is_short all big_bytes little_bytes
there_header_lem =
    map (fixmap 2 (omega arith)) (next_pair (wide_text primary_key refl)
    (scalar (binary (bin16 (number_written 2 (length there_part_bytes) (omega arith))) (all_bytes there_part_bytes refl)))
    (next_pair (narrow_text secondary_key refl)
    (array (fixarray 1 (omega arith)) (next
    (map (fixmap 2 (omega arith)) (next_pair (narrow_text compression_key refl) (scalar (positive_fixint 7 (omega arith)))
    (next_pair (narrow_text length_key refl) (scalar (uint16 (number_written 2 2 (omega arith)))) no_pair))) none))
    no_pair))

small : (n : ℕ) → ltb n 128 ≡ true → Encodes (number n) (n ∷ [])
small n e = scalar (positive_fixint n (ltb-true n 128 e))

minus_one : Encodes (Integer (minus 1)) (0xff ∷ [])
minus_one = scalar (negative_fixint 31 1 (omega arith) refl)

here_list_lem : Encodes here_list here_list_bytes
unfolding is_short all big_bytes little_bytes
here_list_lem =
    map (fixmap 2 (omega arith)) (next_pair (narrow_text identifier_key refl) identity_written
    (next_pair (narrow_text entries_key refl)
    (array (fixarray 1 (omega arith)) (next
    (map (fixmap 5 (omega arith)) (next_pair (narrow_text pack_key refl) (narrow_text ulid refl)
    (next_pair (narrow_text source_key refl) (map (fixmap 1 (omega arith)) (next_pair (narrow_text list.length_key refl) (small 36 refl) no_pair))
    (next_pair (narrow_text stored_key refl) (map (fixmap 2 (omega arith)) (next_pair (narrow_text start_key refl) (small 7 refl)
    (next_pair (narrow_text list.length_key refl) (scalar (uint16 (number_written 2 303 (omega arith)))) no_pair)))
    (next_pair (narrow_text lengths_key refl) (array (fixarray 2 (omega arith)) (next (small 101 refl) (next (small 101 refl) none)))
    (next_pair (narrow_text deltas_key refl) (array (fixarray 1 (omega arith)) (next minus_one none)) no_pair)))))) none)) no_pair))

there_list_lem : Encodes there_list there_list_bytes
unfolding is_short all big_bytes little_bytes
there_list_lem =
    map (fixmap 2 (omega arith)) (next_pair (wide_text entries_key refl)
    (array (array16 (number_written 2 1 (omega arith))) (next
    (map (map16 (number_written 2 5 (omega arith))) (next_pair (narrow_text source_key refl)
    (map (fixmap 1 (omega arith)) (next_pair (narrow_text list.length_key refl) (scalar (uint16 (number_written 2 36 (omega arith)))) no_pair))
    (next_pair (narrow_text pack_key refl) (wide_text ulid refl)
    (next_pair (narrow_text stored_key refl) (map (fixmap 2 (omega arith))
    (next_pair (narrow_text list.length_key refl) (scalar (uint16 (number_written 2 303 (omega arith))))
    (next_pair (wide_text start_key refl) (small 7 refl) no_pair)))
    (next_pair (narrow_text lengths_key refl)
    (array (fixarray 2 (omega arith)) (next (scalar (uint8 (number_written 1 101 (omega arith)))) (next (small 101 refl) none)))
    (next_pair (narrow_text deltas_key refl) (array (fixarray 1 (omega arith)) (next minus_one none)) no_pair)))))) none))
    (next_pair (narrow_text identifier_key refl) identity_written no_pair))

here_list_header_lem : Encodes (plain_header here_list_bytes) here_list_header
unfolding is_short all big_bytes little_bytes
here_list_header_lem =
    map (fixmap 1 (omega arith)) (next_pair (narrow_text primary_key refl)
    (scalar (binary (bin8 (number_written 1 (length here_list_bytes) (omega arith))) (all_bytes here_list_bytes refl))) no_pair)

there_list_header_lem : Encodes (plain_header there_list_bytes) there_list_header
unfolding is_short all big_bytes little_bytes
there_list_header_lem =
    map (fixmap 1 (omega arith)) (next_pair (wide_text primary_key refl)
    (scalar (binary (bin16 (number_written 2 (length there_list_bytes) (omega arith))) (all_bytes there_list_bytes refl))) no_pair)

-- ---- the theorem applies to the two sites

sites_alike : Alike here_header there_header
sites_alike =
    maps (and_further (swapped _ _ _ _ no_pairs)
    (next_pair_alike (same _) (embedded here_part_lem there_part_lem (maps (next_pair_alike (same _) (maps (swapped _ _ _ _ _)) no_pairs_alike)))
    (next_pair_alike (same _) (arrays (next_alike (maps (swapped _ _ _ _ no_pairs)) no_values_alike)) no_pairs_alike)))

pub sites_read_alike : AnswersAlike SameRecord (answer_to (here_bytes ++ secondary)) (answer_to (there_bytes ++ secondary))
sites_read_alike = records_alike limit block_tag here_header_lem there_header_lem sites_alike secondary

entries_alike : Alike here_entry there_entry
entries_alike =
    maps (and_further (swapped _ _ _ _ _)
    (next_pair_alike (same _) (same _) (next_pair_alike (same _) (same _)
    (next_pair_alike (same _) (maps (swapped _ _ _ _ no_pairs))
    (next_pair_alike (same _) (same _) (next_pair_alike (same _) (same _) no_pairs_alike))))))

lists_alike : Alike here_list there_list
lists_alike =
    maps (and_further (swapped _ _ _ _ no_pairs)
    (next_pair_alike (same _) (arrays (next_alike entries_alike no_values_alike)) (next_pair_alike (same _) (same _) no_pairs_alike)))

pub lists_read_alike : AnswersAlike SameRecord (list_answer_to here_list_header) (list_answer_to there_list_header)
unfolding big_bytes little_bytes
lists_read_alike =
    records_alike limit pack_list_tag here_list_header_lem there_list_header_lem
    (maps (next_pair_alike (same _) (embedded here_list_lem there_list_lem lists_alike) no_pairs_alike)) []
