-- `demands::write_part` meets its contract: the writer's, where the name is admissible.
use Rattle.demands.proofs.Calls.{called, not_called}
use Rattle.demands.proofs.write_part.Goals as goal

pub returns-then-not-admissible : goal.returns-then-not-admissible
returns-then-not-admissible c = not_called c.if-not-admissible.true

pub returns : goal.returns
returns c =
    let written = c.write_delete in
    called c.if-not-admissible.false written.ensures.answer written.ensures.buffer
