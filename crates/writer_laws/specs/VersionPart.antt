-- A version's primary part that is made from an identifier reads as that identifier and delete flag; and a version that is written with it is
-- admitted, and reads back so.
use Rattle.std.specs.Prelude.{ℕ, Bool, true, false, cond, List, ◌≡◌, refl, leb, length, take}
use Rattle.std.specs.Prelude.{Option, None, Some}
use Rattle.std.proofs.Common.{ap, arith, leb-true}
use Rattle.slices.specs.Bytes.{AllBytes}
use Rattle.slices.specs.Logic.{absurd_numbers}
use Rattle.slices.specs.Overwriting.{overwritten_there}
use Rattle.refusals.specs.Answers.{granted, refused, is_result}
use Rattle.identifier.specs.Identity.{Identity, is_valid}
use Rattle.primary.specs.Parts as primary
use Rattle.records.specs.Record as records
use Rattle.records.specs.Record.{of_version}
use Rattle.records_model.specs.Record.{RecordHeld}
use Rattle.records_model.specs.Written.{held_alone, version_reads_back}
use Rattle.writer.specs.Values.{marker_pairs, version_part}
use Rattle.writer.specs.Writing.{version, item_bytes, counted, written, left_by, version_part_of, part_written, part_after}
use Rattle.writer_laws.specs.Encoded.{version_part_encodes}
use Rattle.writer_laws.specs.Added.{identity_map_bytes}

-- the part and no data, this identifier and this delete flag
abbrev pub version_held : Identity → Bool → RecordHeld
version_held i marker = record { held = held_alone (version_part i marker); contents = record { identifier = i; kind = records.version marker } }

-- ---- the part, which is bytes as every slice is

module _ (i : Identity) (marker : Bool) (rules : is_valid i ≡ true) (bytes : AllBytes (version_part i marker)) where
  pub version_part_reads : primary.version (version_part i marker) ≡ granted (record { identifier = i; deleted = marker })
  unfolding version_part
  version_part_reads = version_reads_back i marker rules (version_part_encodes i marker rules (identity_map_bytes i (marker_pairs marker) bytes).0)

  -- a version with this part is refused for want of room or above the limit, and else written
  pub version_part_admitted : (limit room used : ℕ)
      → written limit room used (Some (version (version_part i marker))) ≡ counted limit room used (length (item_bytes (version (version_part i marker))))
  unfolding written
  version_part_admitted limit room used = rw (ap is_result version_part_reads)

-- ---- the call, which leaves the part at the front of its buffer, where it tells a length

part_front : (part out : List ℕ) (n : ℕ) → part_written (length out) (Some part) ≡ granted n → take n (part_after (Some part) out) ≡ part
unfolding part_written part_after
part_front part out n e = by (leb (length part) (length out)) refl e
  where
    by : (t : Bool) → leb (length part) (length out) ≡ t → cond t (granted (length part)) (refused 19) ≡ granted n
        → take n (left_by (cond t (granted (length part)) (refused 19)) out 0 part) ≡ part
    by true f g = let is : length part ≡ n = cc in rw (← is) (overwritten_there out 0 part (omega (arith, leb-true (length part) (length out) f)))
    by false f g = absurd_numbers (cc)

pub version_part_written : (marker : Bool) (asked : Option Identity) (out : List ℕ) (n : ℕ) → part_written (length out) (version_part_of marker asked) ≡ granted n
    → (i : Identity) × (asked ≡ Some i) × (is_valid i ≡ true) × (take n (part_after (version_part_of marker asked) out) ≡ version_part i marker)
unfolding part_written
version_part_written marker None out n e = absurd_numbers (cc)
version_part_written marker (Some i) out n e = by (is_valid i) refl e
  where
    by : (v : Bool) → is_valid i ≡ v → part_written (length out) (cond v (Some (version_part i marker)) None) ≡ granted n
        → (j : Identity) × (Some i ≡ Some j) × (is_valid j ≡ true) × (take n (part_after (cond v (Some (version_part i marker)) None) out) ≡ version_part j marker)
    by true v f = (i, refl, v, part_front (version_part i marker) out n f)
    by false v f = absurd_numbers (cc)
