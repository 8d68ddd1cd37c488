-- The texts that it holds are tested.
use Rattle.held_identifier.specs.Held.{is_admitted}
use Rattle.held_identifier.proofs.is_admitted.Goals as goal

pub returns-in_default : goal.returns-in_default
unfolding is_admitted
returns-in_default c = rw (← c.in_default.ensures)

pub returns : goal.returns
unfolding is_admitted
returns c = rw (← c.in-Some.ensures) c.is_identifier.ensures
