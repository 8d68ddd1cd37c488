-- The texts that it holds are written.
use Rattle.held_identifier.specs.Writing.{outcome, left}
use Rattle.held_identifier.proofs.write_composite.Goals as goal

pub returns-in_default-clause-answer : goal.returns-in_default-clause-answer
unfolding outcome
returns-in_default-clause-answer c = rw (← c.in_default.ensures)

pub returns-in_default-clause-holds : goal.returns-in_default-clause-holds
unfolding left
returns-in_default-clause-holds c = rw (← c.in_default.ensures)

pub returns-clause-answer : goal.returns-clause-answer
returns-clause-answer c = rw (← c.in-Some.ensures) c.write_parts.ensures.answer

pub returns-clause-holds : goal.returns-clause-holds
returns-clause-holds c = rw (← c.in-Some.ensures) c.write_parts.ensures.holds
