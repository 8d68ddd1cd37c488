-- What is read of a record, as places of the pack, is what its value tells.
use Prim.Native.Nat.{ℕ}
use mathlib.Core.List.{List}
use Rattle.std.specs.Prelude.{Some}
use mathlib.Core.Path.{◌≡◌, refl, sym, ap, ◌∙◌}
use native.Mathlib.Omega.{arith}
use Rattle.slices.specs.Logic.{absurd_numbers}
use Rattle.slices.specs.Lists.{part_of_part}
use Rattle.slices.specs.Places.{part_at}
use Rattle.slices.specs.declared.Place.{Place}
use Rattle.refusals.specs.Sheet.{lowest}
use Rattle.refusals.specs.Answers.{Answer, refused, granted}
use Rattle.value.specs.ReadingLaws.{parts_inside}
use Rattle.value.specs.declared.Told.{Told}
use Rattle.records.specs.Record.{Record, primary_in, read_record, told_from, record_from, answer_from}
use Rattle.records.specs.Laws.{read_as}
use Rattle.records.specs.Answers.{record_in, place_of_part}
use Rattle.records.specs.declared.Record as declared
use Rattle.deposit.specs.Profile.{profile_rows, fault_of}

module _ (limit tag spare : ℕ) (pack : List ℕ) (value : Place) where
  pub fault_refused : (n : ℕ) → refused n ≡ answer_from value.start (read_record limit tag (part_at pack value)) → Some n ≡ fault_of limit tag spare (part_at pack value)
  unfolding fault_of
  fault_refused n e = by (read_record limit tag (part_at pack value)) refl e
    where
      by : (a : Answer Record) → read_record limit tag (part_at pack value) ≡ a → refused n ≡ answer_from value.start a
          → Some n ≡ fault_of limit tag spare (part_at pack value)
      by (granted r) q f = absurd_numbers (cc)
      by (refused m) q f = let same : n ≡ m = cc in rw (q, same)

  pub fault_read : (d : declared.Record) → granted (record_in pack d) ≡ answer_from value.start (read_record limit tag (part_at pack value))
      → fault_of limit tag spare (part_at pack value)
      ≡ lowest (profile_rows tag spare (part_at pack value) (part_at pack (place_of_part d.told.primary)) (part_at pack d.identifier.bucket))
  unfolding fault_of
  fault_read d e = by (read_record limit tag (part_at pack value)) refl e
    where
      by : (a : Answer Record) → read_record limit tag (part_at pack value) ≡ a → granted (record_in pack d) ≡ answer_from value.start a
          → fault_of limit tag spare (part_at pack value)
          ≡ lowest (profile_rows tag spare (part_at pack value) (part_at pack (place_of_part d.told.primary)) (part_at pack d.identifier.bucket))
      by (refused m) q f = absurd_numbers (cc)
      by (granted r) q f =
          let is : record_in pack d ≡ record_from value.start r = cc in
          let told : d.told ≡ told_from value.start r.told = ap (λ (x : Record). x.told) is in
          let bucket : part_at pack d.identifier.bucket ≡ r.contents.identifier.bucket = ap (λ (x : Record). x.contents.identifier.bucket) is in
          let inside = parts_inside limit (part_at pack value) r.told (read_as limit tag (part_at pack value) r q).value_tells in
          let part : part_at pack (place_of_part d.told.primary) ≡ primary_in (part_at pack value) r.told
          = ap (λ (t : Told). part_at pack (place_of_part t.primary)) told
          ∙ sym (part_of_part pack value.start value.len r.told.primary.start r.told.primary.len (omega (arith, inside.primary_first, inside.secondary_last))) in
          rw (q, part, bucket)
