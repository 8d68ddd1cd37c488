-- `value::part_of` meets its contract.
use Rattle.value.proofs.part_of.Goals as goal

pub returns : goal.returns
returns c = record { inside = c.requires; content = c.part.ensures.result_value; address = c.part.ensures.address }
