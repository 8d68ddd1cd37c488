-- A version's primary part that is made from an identifier reads as that identifier and delete flag; and a version that is written with it is
-- admitted, and reads back so.
use Rattle.std.specs.Prelude.{ℕ, Bool, true, List, ◌≡◌}
use Rattle.std.specs.Prelude.{Some, Result}
use Rattle.std.proofs.Common.{sym, ap, ◌∙◌}
use Rattle.slices.specs.Bytes.{AllBytes}
use Rattle.refusals.specs.Answers.{granted}
use Rattle.identifier.specs.Identity.{Identity, is_valid}
use Rattle.records.specs.Record.{of_version}
use Rattle.records.specs.Answers.{record_in}
use Rattle.records.specs.declared.Placed.{Placed}
use Rattle.records.specs.declared.PlaceFault.{PlaceFault}
use Rattle.records_model.specs.Record as held
use Rattle.records_model.specs.Record.{RecordHeld, with_held}
use Rattle.records_model.specs.Written.{held_alone}
use Rattle.writer.specs.Values.{version_part}
use Rattle.writer.specs.Writing.{version}
use Rattle.writer_laws.specs.Meaning.{held_of}
use Rattle.writer_laws.specs.Added.{IsAdded}
use Rattle.writer_laws.specs.VersionPart.{version_held, version_part_reads}

-- ---- the part, which is bytes as every slice is

module _ (i : Identity) (marker : Bool) (rules : is_valid i ≡ true) (bytes : AllBytes (version_part i marker)) where
  means : held_of (version (version_part i marker)) ≡ granted (version_held i marker)
  means = ap (λ v. with_held (held_alone (version_part i marker)) (of_version v)) (version_part_reads i marker rules bytes)

  -- and the record that is then read is this version
  pub version_part_reads_back : (before front : List ℕ) (p : Result Placed PlaceFault) (added : IsAdded (Some (version (version_part i marker))) before front p)
      → held.record_in front (granted (record_in front added.tells.found)) ≡ granted (version_held i marker)
  version_part_reads_back before front p added =
      let is = added.is_asked_lem in
      let same : version (version_part i marker) ≡ added.item = cc in
      added.tells.holds ∙ ap held_of (sym same) ∙ means
