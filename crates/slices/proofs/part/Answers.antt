-- `slices::part` meets its contract: the front of what stands from its start on.
use mathlib.Core.Path.{◌∙◌}
use Rattle.slices.proofs.part.Goals as goal

pub returns-clause-result_value : goal.returns-clause-result_value
returns-clause-result_value c = rw (c.front.ensures.result_value, c.from.ensures.result_value)

pub returns-clause-address : goal.returns-clause-address
returns-clause-address c = c.front.ensures.address ∙ c.from.ensures.address
