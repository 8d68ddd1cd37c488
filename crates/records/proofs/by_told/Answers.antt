-- `records::by_told` meets its contract: each test is a row of the sheet.
use mathlib.Core.Bool.{true}
use mathlib.Core.Path.{◌≡◌, sym, ◌∙◌}
use Rattle.records.specs.Record.{is_known}
use Rattle.records.proofs.Readings.{unknown_tag_lem, later_version, encoded, untouched}
use Rattle.records.proofs.by_told.Goals as goal
use Rattle.records.proofs.by_told.Goals.{Else-not-is_known}

pub returns-then-not-is_known-clause-result_value : goal.returns-then-not-is_known-clause-result_value
returns-then-not-is_known-clause-result_value c = unknown_tag_lem _ _ _ (sym c.is_known.ensures ∙ c.if-not-is_known.true)

-- the tag is a known one
known : (c : Else-not-is_known) → is_known c.args.tag ≡ true
known c = sym c.is_known.ensures ∙ c.if-not-is_known.false

pub returns-then-told-ne0-clause-result_value : goal.returns-then-told-ne0-clause-result_value
returns-then-told-ne0-clause-result_value c = later_version _ _ _ (known (goal.at.returns-then-told-ne0-clause-result_value c).Else-not-is_known) c.if-told-ne0.true

pub returns-then-primary-clause-result_value : goal.returns-then-primary-clause-result_value
returns-then-primary-clause-result_value c = encoded _ _ _ (known (goal.at.returns-then-primary-clause-result_value c).Else-not-is_known) c.if-told-ne0.false c.if-primary.true

pub returns-clause-result_value : goal.returns-clause-result_value
returns-clause-result_value c = c.with_part.ensures.result_value ∙ untouched _ _ _ (known (goal.at.returns-clause-result_value c).Else-not-is_known) c.if-told-ne0.false c.if-primary.false
