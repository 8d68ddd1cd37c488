-- `capi_deposit::vof_check_deposit` meets its contract: each arm is how the check's outcome answers.
use Rattle.std.proofs.Common.{arith}
use Rattle.capi_deposit.proofs.Bounds.{counted_answer, refused_answer}
use Rattle.capi_deposit.proofs.vof_check_deposit.Goals as goal

pub returns-in-Ok : goal.returns-in-Ok
returns-in-Ok c = rw c.answer.ensures (counted_answer _ _ c.in-Ok.ensures)

pub returns-in-Err : goal.returns-in-Err
returns-in-Err c =
    rw (c.answer-in-Err.ensures, c.from.ensures, c.place.ensures)
    (refused_answer _ _ _ (rw (← c.from.ensures) (omega arith)) c.in-Err.ensures)
