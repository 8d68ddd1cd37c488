-- `block_of_byte::length_at` meets its contract.
use mathlib.Core.Path.{ap, ◌∙◌}
use borrow.Author.Tests.{le-leb, lt-leb}
use Rattle.value.specs.Fields.{read_natural}
use Rattle.block_of_byte.proofs.length_at.Goals as goal

pub returns-then-lengths-k : goal.returns-then-lengths-k
returns-then-lengths-k c = rw (le-leb _ _ c.if-lengths-k.true)

pub returns : goal.returns
returns c = rw (lt-leb _ _ c.if-lengths-k.false) (c.natural_at.ensures ∙ ap read_natural c.from.ensures.result_value)
