-- `block_of_byte::delta_after` meets its contract.
use borrow.Author.Tests.{le-leb, lt-leb}
use Rattle.block_of_byte.proofs.delta_after.Goals as goal

pub returns-then-deltas-k : goal.returns-then-deltas-k
returns-then-deltas-k c = rw (le-leb _ _ c.if-deltas-k.true)

pub returns : goal.returns
returns c = rw (lt-leb _ _ c.if-deltas-k.false) c.after.ensures
