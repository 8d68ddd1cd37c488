-- `deposit_rules::header_keys_are_given` meets its contract.
use Rattle.deposit_rules.proofs.Tables.{header_coded}
use Rattle.deposit_rules.proofs.header_keys_are_given.Goals as goal

-- src/lib.rt:119:1
pub returns : goal.returns
returns c = c.are_among.ensures.are _ header_coded
