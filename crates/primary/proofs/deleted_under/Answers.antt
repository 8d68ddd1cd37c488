-- `primary::deleted_under` meets its contract: at 0 the key is missing, which means false.
use mathlib.Core.Path.{◌∙◌}
use Rattle.slices.specs.Lists.{part_to_end}
use Rattle.msgpack.specs.PairLaws.{told_found}
use Rattle.primary.proofs.deleted_under.Goals as goal

pub returns-then-place-eq0 : goal.returns-then-place-eq0
returns-then-place-eq0 c = rw c.if-place-eq0.true

pub returns : goal.returns
returns c = c.read_boolean.ensures ∙ rw (part_to_end, told_found _ c.if-place-eq0.false)
