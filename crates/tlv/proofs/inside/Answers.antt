-- `tlv::inside` meets its contract: the header lies within, and then the value.
use mathlib.Core.Path.{sym, ◌∙◌}
use Rattle.tlv.specs.Passing.{inside}
use Rattle.tlv.proofs.inside.Goals as goal

pub returns-then-lies : goal.returns-then-lies
unfolding inside
returns-then-lies c = rw (sym c.lies.ensures ∙ c.if-lies.true) c.value_fits.ensures

pub returns-else-lies : goal.returns-else-lies
unfolding inside
returns-else-lies c = rw (sym c.lies.ensures ∙ c.if-lies.false) c.if-lies.false
