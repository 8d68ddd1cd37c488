-- `value::natural_at` meets its contract, by the answers of reading an integer.
use mathlib.Core.Path.{◌∙◌}
use Rattle.value.specs.Fields.{read_natural}
use Rattle.value.proofs.natural_at.Goals as goal

pub returns-in_err-n : goal.returns-in_err-n
unfolding read_natural
returns-in_err-n c = c.from_residual.ensures ∙ rw (← c.read_integer.ensures.result_value, c.in_err-n.was)

pub returns-in-NonNegative : goal.returns-in-NonNegative
unfolding read_natural
returns-in-NonNegative c = rw (← c.read_integer.ensures.result_value, c.in_ok-n.was, c.in-NonNegative.is)

pub returns-in-Negative : goal.returns-in-Negative
unfolding read_natural
returns-in-Negative c = rw (← c.read_integer.ensures.result_value, c.in_ok-n.was, c.in-Negative.is)
