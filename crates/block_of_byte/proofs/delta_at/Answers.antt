-- `block_of_byte::delta_at` meets its contract.
use mathlib.Core.Path.{ap, ◌∙◌}
use borrow.Author.Tests.{le-leb, lt-leb}
use Rattle.msgpack.specs.Readers.{read_integer}
use Rattle.block_of_byte.proofs.delta_at.Goals as goal

pub returns-then-deltas-k : goal.returns-then-deltas-k
returns-then-deltas-k c = rw (le-leb _ _ c.if-deltas-k.true)

pub returns : goal.returns
returns c = rw (lt-leb _ _ c.if-deltas-k.false) (c.read_integer.ensures.result_value ∙ ap read_integer c.from.ensures.result_value)
