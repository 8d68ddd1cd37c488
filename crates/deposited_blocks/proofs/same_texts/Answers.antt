-- `deposited_blocks::same_texts` meets its contract: the three texts, one after the other.
use mathlib.Core.Bool.{◌&&◌}
use Rattle.identifier.specs.Identity.{same_identity}
use Rattle.deposited_blocks.proofs.same_texts.Goals as goal

pub returns : goal.returns
unfolding same_identity
returns c = λ i. (c.same_part.ensures i && c.same_part-2.ensures i) && c.same_part-3.ensures i
