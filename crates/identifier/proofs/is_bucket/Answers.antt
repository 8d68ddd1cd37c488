-- The size and the search for a slash are those of the definition.
use mathlib.Core.Path.{ap, ◌∙◌}
use mathlib.Core.Bool.{not}
use Rattle.identifier.specs.Identity.{slash, is_bucket}
use Rattle.identifier.proofs.Searches.{member_is}
use Rattle.identifier.proofs.is_bucket.Goals as goal

pub returns-then-is_sized : goal.returns-then-is_sized
unfolding is_bucket
returns-then-is_sized c = rw (← c.is_sized.ensures, c.if-is_sized.true) (ap not (c.contains.ensures.value ∙ member_is slash c.args.s.now))

pub returns-else-is_sized : goal.returns-else-is_sized
unfolding is_bucket
returns-else-is_sized c = rw (← c.is_sized.ensures, c.if-is_sized.false)
