-- `capi_pipe::vof_pipe_end` meets its contract: each arm is how an event is told.
use mathlib.Core.Path.{refl, ◌∙◌}
use native.Mathlib.Omega.{arith}
use Rattle.slices.specs.Logic.{absurd_numbers}
use Rattle.capi_pipe.proofs.Calls.{Ends, ends, end_long, end_whole, count_whole, end_meets}
use Rattle.capi_pipe.proofs.vof_pipe_end.Goals as goal
use Rattle.capi_pipe.proofs.vof_pipe_end.Goals.{After-end-ended}

did : (c : After-end-ended) → Ends c.args.state.now c.end-ended.result
did c = ends _ c.read_state.ensures c.end-ended.ensures

pub write_state-requires : goal.write_state-requires
write_state-requires c = end_long (did (goal.at.write_state-requires c).After-end-ended) c.in-Refusal.is (λ z. absurd_numbers (cc))

pub write_state-requires-in-Over : goal.write_state-requires-in-Over
write_state-requires-in-Over c = end_long (did (goal.at.write_state-requires-in-Over c).After-end-ended) c.in-Over.is (λ z. absurd_numbers (cc))

pub returns-in-Refusal-clause-answer : goal.returns-in-Refusal-clause-answer
returns-in-Refusal-clause-answer c =
    let did-this = did (goal.at.returns-in-Refusal-clause-answer c).After-end-ended in
    let refused = c.in-Refusal.is in
    (end_meets did-this refused _ _ (c.answer.ensures ∙ end_whole did-this refused _ _ refl (omega arith)) c.write_state.ensures).0

pub returns-in-Refusal-clause-state : goal.returns-in-Refusal-clause-state
returns-in-Refusal-clause-state c =
    let did-this = did (goal.at.returns-in-Refusal-clause-state c).After-end-ended in
    let refused = c.in-Refusal.is in
    (end_meets did-this refused _ _ (c.answer.ensures ∙ end_whole did-this refused _ _ refl (omega arith)) c.write_state.ensures).1

pub returns-in-Over-clause-answer : goal.returns-in-Over-clause-answer
returns-in-Over-clause-answer c =
    let did-this = did (goal.at.returns-in-Over-clause-answer c).After-end-ended in
    let counted = c.in-Over.is in
    (end_meets did-this counted _ _ (c.answer-in-Over.ensures ∙ count_whole did-this counted _ refl) c.write_state-in-Over.ensures).0

pub returns-in-Over-clause-state : goal.returns-in-Over-clause-state
returns-in-Over-clause-state c =
    let did-this = did (goal.at.returns-in-Over-clause-state c).After-end-ended in
    let counted = c.in-Over.is in
    (end_meets did-this counted _ _ (c.answer-in-Over.ensures ∙ count_whole did-this counted _ refl) c.write_state-in-Over.ensures).1

pub returns-in-Malformed-clause-answer : goal.returns-in-Malformed-clause-answer
returns-in-Malformed-clause-answer c = (end_meets (did (goal.at.returns-in-Malformed-clause-answer c).After-end-ended) c.in-Malformed.is _ _ c.answer-in-Malformed.ensures refl).0

pub returns-in-Malformed-clause-state : goal.returns-in-Malformed-clause-state
returns-in-Malformed-clause-state c = (end_meets (did (goal.at.returns-in-Malformed-clause-state c).After-end-ended) c.in-Malformed.is _ _ c.answer-in-Malformed.ensures refl).1

pub returns-in-Wanted-clause-answer : goal.returns-in-Wanted-clause-answer
returns-in-Wanted-clause-answer c = (end_meets (did (goal.at.returns-in-Wanted-clause-answer c).After-end-ended) c.in-Wanted.is _ _ c.answer-in-Wanted.ensures refl).0

pub returns-in-Wanted-clause-state : goal.returns-in-Wanted-clause-state
returns-in-Wanted-clause-state c = (end_meets (did (goal.at.returns-in-Wanted-clause-state c).After-end-ended) c.in-Wanted.is _ _ c.answer-in-Wanted.ensures refl).1

pub returns-in-Complete-clause-answer : goal.returns-in-Complete-clause-answer
returns-in-Complete-clause-answer c = (end_meets (did (goal.at.returns-in-Complete-clause-answer c).After-end-ended) c.in-Complete.is _ _ c.answer-in-Complete.ensures refl).0

pub returns-in-Complete-clause-state : goal.returns-in-Complete-clause-state
returns-in-Complete-clause-state c = (end_meets (did (goal.at.returns-in-Complete-clause-state c).After-end-ended) c.in-Complete.is _ _ c.answer-in-Complete.ensures refl).1
