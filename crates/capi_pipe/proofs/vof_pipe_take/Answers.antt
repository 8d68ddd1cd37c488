-- `capi_pipe::vof_pipe_take` meets its contract: each arm is how an event is told.
use mathlib.Core.Path.{refl, ◌∙◌}
use native.Mathlib.Omega.{arith}
use Rattle.slices.specs.Logic.{absurd_numbers}
use Rattle.capi_pipe.proofs.Calls.{Takes, takes, take_long, take_whole, take_meets}
use Rattle.capi_pipe.proofs.vof_pipe_take.Goals as goal
use Rattle.capi_pipe.proofs.vof_pipe_take.Goals.{After-take-taken}

did : (c : After-take-taken) → Takes c.args.state.now c.args.part.now c.take-taken.result
did c = takes _ _ c.read_state-found.ensures c.take-taken.ensures

pub write_state-requires : goal.write_state-requires
write_state-requires c = take_long (did (goal.at.write_state-requires c).After-take-taken) c.in-Refusal.is (λ z. absurd_numbers (cc))

pub tell-requires : goal.tell-requires
tell-requires c = take_long (did (goal.at.tell-requires c).After-take-taken) c.in-Wanted.is (λ z. absurd_numbers (cc))

pub tell-requires-in-Complete : goal.tell-requires-in-Complete
tell-requires-in-Complete c = take_long (did (goal.at.tell-requires-in-Complete c).After-take-taken) c.in-Complete.is (λ z. absurd_numbers (cc))

pub tell-requires-in-Over : goal.tell-requires-in-Over
tell-requires-in-Over c = take_long (did (goal.at.tell-requires-in-Over c).After-take-taken) c.in-Over.is (λ z. absurd_numbers (cc))

pub returns-in-Malformed-clause-answer : goal.returns-in-Malformed-clause-answer
returns-in-Malformed-clause-answer c = (take_meets (did (goal.at.returns-in-Malformed-clause-answer c).After-take-taken) c.in-Malformed.is c.args.told.now _ _ _ c.answer.ensures refl refl).0

pub returns-in-Malformed-clause-state : goal.returns-in-Malformed-clause-state
returns-in-Malformed-clause-state c = (take_meets (did (goal.at.returns-in-Malformed-clause-state c).After-take-taken) c.in-Malformed.is c.args.told.now _ _ _ c.answer.ensures refl refl).1.0

pub returns-in-Malformed-clause-told : goal.returns-in-Malformed-clause-told
returns-in-Malformed-clause-told c = (take_meets (did (goal.at.returns-in-Malformed-clause-told c).After-take-taken) c.in-Malformed.is c.args.told.now _ _ _ c.answer.ensures refl refl).1.1

pub returns-in-Refusal-clause-answer : goal.returns-in-Refusal-clause-answer
returns-in-Refusal-clause-answer c =
    let did-this = did (goal.at.returns-in-Refusal-clause-answer c).After-take-taken in
    let refused = c.in-Refusal.is in
    (take_meets did-this refused c.args.told.now _ _ _ (c.answer-in-Refusal.ensures ∙ take_whole did-this refused _ _ refl (omega arith)) c.write_state.ensures refl).0

pub returns-in-Refusal-clause-state : goal.returns-in-Refusal-clause-state
returns-in-Refusal-clause-state c =
    let did-this = did (goal.at.returns-in-Refusal-clause-state c).After-take-taken in
    let refused = c.in-Refusal.is in
    (take_meets did-this refused c.args.told.now _ _ _ (c.answer-in-Refusal.ensures ∙ take_whole did-this refused _ _ refl (omega arith)) c.write_state.ensures refl).1.0

pub returns-in-Refusal-clause-told : goal.returns-in-Refusal-clause-told
returns-in-Refusal-clause-told c =
    let did-this = did (goal.at.returns-in-Refusal-clause-told c).After-take-taken in
    let refused = c.in-Refusal.is in
    (take_meets did-this refused c.args.told.now _ _ _ (c.answer-in-Refusal.ensures ∙ take_whole did-this refused _ _ refl (omega arith)) c.write_state.ensures refl).1.1

pub returns-in-Wanted-clause-answer : goal.returns-in-Wanted-clause-answer
returns-in-Wanted-clause-answer c =
    let told = c.tell.ensures in
    (take_meets (did (goal.at.returns-in-Wanted-clause-answer c).After-take-taken) c.in-Wanted.is _ _ _ _ told.answer told.state told.told).0

pub returns-in-Wanted-clause-state : goal.returns-in-Wanted-clause-state
returns-in-Wanted-clause-state c =
    let told = c.tell.ensures in
    (take_meets (did (goal.at.returns-in-Wanted-clause-state c).After-take-taken) c.in-Wanted.is _ _ _ _ told.answer told.state told.told).1.0

pub returns-in-Wanted-clause-told : goal.returns-in-Wanted-clause-told
returns-in-Wanted-clause-told c =
    let told = c.tell.ensures in
    (take_meets (did (goal.at.returns-in-Wanted-clause-told c).After-take-taken) c.in-Wanted.is _ _ _ _ told.answer told.state told.told).1.1

pub returns-in-Complete-clause-answer : goal.returns-in-Complete-clause-answer
returns-in-Complete-clause-answer c =
    let told = c.tell-in-Complete.ensures in
    (take_meets (did (goal.at.returns-in-Complete-clause-answer c).After-take-taken) c.in-Complete.is _ _ _ _ told.answer told.state told.told).0

pub returns-in-Complete-clause-state : goal.returns-in-Complete-clause-state
returns-in-Complete-clause-state c =
    let told = c.tell-in-Complete.ensures in
    (take_meets (did (goal.at.returns-in-Complete-clause-state c).After-take-taken) c.in-Complete.is _ _ _ _ told.answer told.state told.told).1.0

pub returns-in-Complete-clause-told : goal.returns-in-Complete-clause-told
returns-in-Complete-clause-told c =
    let told = c.tell-in-Complete.ensures in
    (take_meets (did (goal.at.returns-in-Complete-clause-told c).After-take-taken) c.in-Complete.is _ _ _ _ told.answer told.state told.told).1.1

pub returns-in-Over-clause-answer : goal.returns-in-Over-clause-answer
returns-in-Over-clause-answer c =
    let told = c.tell-in-Over.ensures in
    (take_meets (did (goal.at.returns-in-Over-clause-answer c).After-take-taken) c.in-Over.is _ _ _ _ told.answer told.state told.told).0

pub returns-in-Over-clause-state : goal.returns-in-Over-clause-state
returns-in-Over-clause-state c =
    let told = c.tell-in-Over.ensures in
    (take_meets (did (goal.at.returns-in-Over-clause-state c).After-take-taken) c.in-Over.is _ _ _ _ told.answer told.state told.told).1.0

pub returns-in-Over-clause-told : goal.returns-in-Over-clause-told
returns-in-Over-clause-told c =
    let told = c.tell-in-Over.ensures in
    (take_meets (did (goal.at.returns-in-Over-clause-told c).After-take-taken) c.in-Over.is _ _ _ _ told.answer told.state told.told).1.1
