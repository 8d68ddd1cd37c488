-- TWO SITES READ ALIKE: any encodings, of any widths, of values that are equal up to the order of pairs give the same contents or both refuse, with the
-- same number unless a key that is read repeats.
use Rattle.std.specs.Prelude.{ℕ, List, ◌++◌, ◌≡◌, refl}
use Rattle.refusals.specs.Answers.{Answer, refused, granted}
use Rattle.msgpack_model.specs.Values.{Value}
use Rattle.msgpack_model.specs.Encoding.{Encodes}
use Rattle.value.specs.Reading.{reading}
use Rattle.primary.specs.Parts as bytes
use Rattle.pack_list.specs.Lists as list
use Rattle.records.specs.Record.{Record, read_record}
use Rattle.records_model.specs.Alike.{Alike, same_bytes_lem, AlikeRecordValues, same_value, headers}
use Rattle.records_model.specs.HeaderReads.{answer_in, value_reads}
use Rattle.records_model.specs.Primary.{block_reads, version_reads, version_delete_reads, pack_list_reads}
use Rattle.records_model.specs.Record.{record_in, record_reads}
use Rattle.records_model.specs.AnswersAlike.{AnswersAlike, same_refusal, both_read, SameHeld, SameRecord}
use Rattle.records_model.proofs.SameReading.{same_block_lem, same_version, same_version_delete, same_pack_list}
use Rattle.records_model.proofs.SameRecords.{same_held, same_records}

-- ---- values

pub values_alike : (limit : ℕ) {v w : Value} {e f : List ℕ} → Encodes v e → Encodes w f → Alike v w → (rest : List ℕ)
    → AnswersAlike SameHeld (answer_in (e ++ rest) (reading limit (e ++ rest))) (answer_in (f ++ rest) (reading limit (f ++ rest)))
values_alike limit x y z rest = rw (value_reads limit x rest, value_reads limit y rest) (same_held z limit rest)

-- ---- primary parts

module _ {p q : Value} {e f : List ℕ} (x : Encodes p e) (y : Encodes q f) (z : Alike p q) where
  pub blocks_alike : AnswersAlike (λ i j. i ≡ j) (bytes.block e) (bytes.block f)
  blocks_alike = rw (block_reads x, block_reads y) (same_block_lem z)

  pub versions_alike : AnswersAlike (λ i j. i ≡ j) (bytes.version e) (bytes.version f)
  versions_alike = rw (version_reads x, version_reads y) (same_version z)

  pub version_deletes_alike : AnswersAlike (λ i j. i ≡ j) (bytes.version_delete e) (bytes.version_delete f)
  version_deletes_alike = rw (version_delete_reads x, version_delete_reads y) (same_version_delete z)

  pub pack_lists_alike : AnswersAlike (λ i j. i ≡ j) (list.pack_list e) (list.pack_list f)
  pack_lists_alike = rw (pack_list_reads x, pack_list_reads y) (same_pack_list z)

-- ---- records

-- `rest` is the secondary part, which is the same at both sites
pub records_alike : (limit tag : ℕ) {v w : Value} {e f : List ℕ} → Encodes v e → Encodes w f → Alike v w → (rest : List ℕ)
    → AnswersAlike SameRecord (record_in (e ++ rest) (read_record limit tag (e ++ rest))) (record_in (f ++ rest) (read_record limit tag (f ++ rest)))
records_alike limit tag x y z rest = rw (record_reads limit tag x rest, record_reads limit tag y rest) (same_records z limit tag rest)

-- a record that is the same at both sites, whatever it holds
same_record : (value : List ℕ) (a : Answer Record) → AnswersAlike SameRecord (record_in value a) (record_in value a)
same_record value (granted r) = both_read (record { held = record { primary = same_bytes_lem _; secondary = refl; told = refl }; contents = refl })
same_record value (refused n) = same_refusal n

pub record_values_alike : (limit tag : ℕ) {x y : List ℕ} → AlikeRecordValues x y
    → AnswersAlike SameRecord (record_in x (read_record limit tag x)) (record_in y (read_record limit tag y))
record_values_alike limit tag {x} (same_value value) = same_record x (read_record limit tag x)
record_values_alike limit tag (headers x y z secondary) = records_alike limit tag x y z secondary
