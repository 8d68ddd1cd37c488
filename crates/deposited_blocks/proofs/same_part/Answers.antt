-- `deposited_blocks::same_part` meets its contract.
use Rattle.deposited_blocks.proofs.same_part.Goals as goal

pub returns : goal.returns
returns c = rw (c.part-2.ensures.result_value, c.part.ensures.result_value) at c.same_bytes.ensures
