-- `value::bytes_under` meets its contract: at 0 the key is missing.
use mathlib.Core.Path.{◌∙◌}
use Rattle.msgpack.specs.PairLaws.{told_found}
use Rattle.value.proofs.bytes_under.Goals as goal

pub returns-then-place-eq0 : goal.returns-then-place-eq0
returns-then-place-eq0 c = rw c.if-place-eq0.true

pub returns : goal.returns
returns c = c.bytes_at.ensures ∙ rw (told_found _ c.if-place-eq0.false)
