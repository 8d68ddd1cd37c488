-- The deposit profile (request 9): a narrower rule for the records of packs that are deposited.
use Rattle.std.specs.Prelude.{ℕ, Bool, true, cond, not, ◌&&◌, List, [], ◌∷◌, eqb}
use Rattle.std.specs.Prelude.{Option, Some}
use Rattle.refusals.specs.Sheet.{Row, lowest}
use Rattle.refusals.specs.Answers.{Answer, refused, granted}
use Rattle.msgpack_forms.specs.Items.{all_short}
use Rattle.value.specs.Header.{header_keys}
use Rattle.records.specs.Record.{block_tag, Record, primary_in, read_record}
use Rattle.deposit_rules.specs.Keys.{keys_of, are_among, are_these}
use Rattle.deposit_rules.specs.Letters.{part_keys, written_keys}
use Rattle.deposit_rules.specs.Blocks.{has_length_alone, has_identifier_alone}
use Rattle.deposit_rules.specs.Buckets.{is_bucket_name}

-- a block has the writer's `s` and `I`: under `s` a list of one map with `l` alone, in the primary part `I` alone, a text. Of other records nothing is asked
unfoldable pub is_block_plain : ℕ → (header part : List ℕ) → Bool
is_block_plain tag header part = cond (eqb tag block_tag) (has_length_alone header && has_identifier_alone part) true

-- 23 to 28: a number, and whether it applies to a record with this tag and bytes 28 and 29, whose value begins with this header, with this primary part
-- and this bucket
unfoldable pub profile_rows : (tag spare : ℕ) (header part bucket : List ℕ) → List Row
profile_rows tag spare header part bucket =
    record { number = 23; applies = not (all_short header && all_short part) }
    ∷ record { number = 24; applies = not (are_among header_keys (keys_of header) && are_among (part_keys tag) (keys_of part)) }
    ∷ record { number = 25; applies = not (are_these (written_keys tag) (keys_of header)) }
    ∷ record { number = 26; applies = not (is_block_plain tag header part) }
    ∷ record { number = 27; applies = not (eqb spare 0) }
    ∷ record { number = 28; applies = not (is_bucket_name bucket) }
    ∷ []

-- all that the sheet gives for a record comes first
abbrev pub by_reading : (tag spare : ℕ) → List ℕ → Answer Record → Option ℕ
by_reading tag spare value (granted r) = lowest (profile_rows tag spare value (primary_in value r.told) r.contents.identifier.bucket)
by_reading tag spare value (refused n) = Some n

-- why a record with this tag, these bytes 28 and 29 and this value may not be deposited; none, where it may
unfoldable pub fault_of : (limit tag spare : ℕ) → List ℕ → Option ℕ
fault_of limit tag spare value = by_reading tag spare value (read_record limit tag value)
