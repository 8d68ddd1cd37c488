-- `deposit_rules::header_is_in_order` meets its contract, by the tag.
use Rattle.deposit_rules.proofs.Tables.{block_order_coded, part_order_coded, header_of_block, header_of_other}
use Rattle.deposit_rules.proofs.header_is_in_order.Goals as goal

pub returns-then-tag-eq-BLOCK : goal.returns-then-tag-eq-BLOCK
returns-then-tag-eq-BLOCK c = rw (header_of_block _ c.if-tag-eq-BLOCK.true) (c.are_these.ensures.are _ block_order_coded)

pub returns-else-tag-eq-BLOCK : goal.returns-else-tag-eq-BLOCK
returns-else-tag-eq-BLOCK c = rw (header_of_other _ c.if-tag-eq-BLOCK.false) (c.are_these-else-tag-eq-BLOCK.ensures.are _ part_order_coded)
