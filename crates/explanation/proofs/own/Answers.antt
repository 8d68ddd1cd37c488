-- `explanation::own` meets its contract, by the delete flag.
use Rattle.explanation.proofs.own.Goals as goal

pub returns-then-deleted : goal.returns-then-deleted
returns-then-deleted c = rw c.if-deleted.true

pub returns : goal.returns
returns c = rw c.if-deleted.false
