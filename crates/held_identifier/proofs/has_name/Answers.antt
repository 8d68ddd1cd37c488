-- The tests of the definition.
use Rattle.held_identifier.specs.Held.{has_name}
use Rattle.held_identifier.proofs.has_name.Goals as goal

pub returns-in_default : goal.returns-in_default
unfolding has_name
returns-in_default c = rw (← c.in_default.ensures)

pub returns-then-same_bytes : goal.returns-then-same_bytes
unfolding has_name
returns-then-same_bytes c = rw (← c.in-Some.ensures, ← c.same_bytes.ensures, c.if-same_bytes.true) c.same_bytes-then-same_bytes.ensures

pub returns-else-same_bytes : goal.returns-else-same_bytes
unfolding has_name
returns-else-same_bytes c = rw (← c.in-Some.ensures, ← c.same_bytes.ensures, c.if-same_bytes.false)
