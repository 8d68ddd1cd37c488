-- `capi_pipe::vof_pipe_start` meets its contract.
use mathlib.Core.Path.{refl}
use native.Mathlib.Omega.{arith}
use borrow.Author.Tests.{le-leb, lt-leb}
use lib.ListN.{length}
use Rattle.capi_pipe.proofs.vof_pipe_start.Goals as goal

pub returns-then-state-lt19-clause-answer : goal.returns-then-state-lt19-clause-answer
returns-then-state-lt19-clause-answer c = rw (lt-leb 19 (length c.args.state.now) (omega arith)) c.answer.ensures

pub returns-then-state-lt19-clause-state : goal.returns-then-state-lt19-clause-state
returns-then-state-lt19-clause-state c = rw (lt-leb 19 (length c.args.state.now) (omega arith)) refl

pub returns-clause-answer : goal.returns-clause-answer
returns-clause-answer c = rw (le-leb 19 (length c.args.state.now) (omega arith)) c.answer-2.ensures

pub returns-clause-state : goal.returns-clause-state
returns-clause-state c = rw (le-leb 19 (length c.args.state.now) (omega arith)) rw c.fresh.ensures at c.write_state.ensures
