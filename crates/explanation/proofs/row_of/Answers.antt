-- `explanation::row_of` meets its contract: a removal first, then a repeat.
use mathlib.Core.Path.{◌∙◌}
use Rattle.explanation.proofs.Rows.{removed_row, unrepeated_row, first_row, repeated_row}
use Rattle.explanation.proofs.row_of.Goals as goal

pub returns-in-Some : goal.returns-in-Some
returns-in-Some c = removed_row _ _ _ _ _ _ (c.in-Some.ensures)

pub returns-in_default-first_version : goal.returns-in_default-first_version
returns-in_default-first_version c =
    c.standing.ensures
    ∙ unrepeated_row _ _ _ _ _ (c.in_default.ensures)
    (c.in_default-first_version.ensures)

pub returns-then-place-at : goal.returns-then-place-at
returns-then-place-at c =
    c.standing-then-place-at.ensures
    ∙ first_row _ _ _ _ _ (c.in_default.ensures)
    _ (c.in-Some-first_version.ensures) c.if-place-at.true

pub returns : goal.returns
returns c =
    repeated_row _ _ _ _ _ (c.in_default.ensures)
    _ (c.in-Some-first_version.ensures) c.if-place-at.false
