-- `deposit::is_spare_zero` meets its contract: bytes 28 and 29 are there.
use Rattle.std.proofs.Common.{◌∙◌, arith}
use Rattle.deposit.proofs.Rules.{spare_zero}
use Rattle.deposit.proofs.is_spare_zero.Goals as goal

pub slice_bounds-read_big-count : goal.slice_bounds-read_big-count
slice_bounds-read_big-count c = omega (arith, c.requires)

pub slice_bounds-read_big-start : goal.slice_bounds-read_big-start
slice_bounds-read_big-start c = omega (arith, c.requires)

pub returns : goal.returns
returns c = c.eq.ensures ∙ spare_zero _ _ c.requires _ c.read_big.ensures
