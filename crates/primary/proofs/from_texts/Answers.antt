-- `primary::from_texts` meets its contract: the test of the rules decides.
use mathlib.Core.Bool.{true, false}
use mathlib.Core.Path.{sym, ap, ◌∙◌}
use Rattle.refusals.specs.Answers.{granted, or_refused}
use Rattle.primary.proofs.Readings.{valid_is, block_inside, no_block}
use Rattle.primary.proofs.from_texts.Goals as goal

pub returns-then-is_valid-clause-result_value : goal.returns-then-is_valid-clause-result_value
returns-then-is_valid-clause-result_value c = ap (λ o. or_refused 18 o granted) (valid_is _ true (sym c.if-is_valid.true ∙ c.is_valid.ensures))

pub returns-then-is_valid-clause-inside : goal.returns-then-is_valid-clause-inside
returns-then-is_valid-clause-inside c = block_inside _ _ c.requires

pub returns-else-is_valid-clause-result_value : goal.returns-else-is_valid-clause-result_value
returns-else-is_valid-clause-result_value c = ap (λ o. or_refused 18 o granted) (valid_is _ false (sym c.if-is_valid.false ∙ c.is_valid.ensures))

pub returns-else-is_valid-clause-inside : goal.returns-else-is_valid-clause-inside
returns-else-is_valid-clause-inside c = no_block _ _
