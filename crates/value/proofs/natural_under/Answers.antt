-- `value::natural_under` meets its contract: at 0 the key is missing.
use mathlib.Core.Path.{ap, ◌∙◌}
use Rattle.msgpack.specs.PairLaws.{told_found}
use Rattle.value.specs.Fields.{read_natural}
use Rattle.value.proofs.natural_under.Goals as goal

pub returns-then-place-eq0 : goal.returns-then-place-eq0
returns-then-place-eq0 c = rw c.if-place-eq0.true

pub returns : goal.returns
returns c = c.natural_at.ensures ∙ ap read_natural c.from.ensures.result_value ∙ rw (told_found _ c.if-place-eq0.false)
