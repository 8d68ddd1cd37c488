-- `deposit::is_block_plain` meets its contract, by the tag.
use Rattle.deposit.proofs.Rules.{no_block, a_block}
use Rattle.deposit.proofs.is_block_plain.Goals as goal

pub returns-then-tag-ne-BLOCK : goal.returns-then-tag-ne-BLOCK
returns-then-tag-ne-BLOCK c = no_block _ _ _ c.if-tag-ne-BLOCK.true

pub returns : goal.returns
returns c = rw (c.has_length_alone.ensures, c.has_identifier_alone.ensures) (a_block _ _ _ c.if-tag-ne-BLOCK.false)
