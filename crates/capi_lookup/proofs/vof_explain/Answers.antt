-- `capi_lookup::vof_explain` meets its contract: each arm is how an outcome is told.
use Prim.Native.Nat.{◌<◌}
use mathlib.Core.Path.{ap, ◌∙◌}
use native.Mathlib.Omega.{arith}
use Rattle.std.specs.Prelude.{Err}
use Rattle.lookup.specs.Answers.{fault_number, fault_place}
use Rattle.explanation.specs.Answers.{explained_of}
use Rattle.capi_lookup.proofs.Explanations.{number_in, word_in, refusal_number, refusal_word, explain_answers}
use Rattle.capi_lookup.proofs.vof_explain.Goals as goal

pub returns-in-Ok-clause-answer : goal.returns-in-Ok-clause-answer
returns-in-Ok-clause-answer c =
    let told = c.explain in
    let is = ap explained_of c.in-Ok.is in
    rw c.answer.ensures (explain_answers _ _ _ _ told.result told.ensures.answer 0 _ (ap number_in is) (ap word_in is) (omega arith))

pub returns-in-Ok-clause-told : goal.returns-in-Ok-clause-told
returns-in-Ok-clause-told c = c.explain.ensures.told

pub returns-in-Err-Lookup-clause-answer : goal.returns-in-Err-Lookup-clause-answer
returns-in-Err-Lookup-clause-answer c =
    let told = c.explain in
    let f = c.in-Err-Lookup.f in
    let is = ap explained_of (c.in-Err-Lookup.is ∙ ap Err c.in-Err-Lookup.field-0-is) in
    let number = ap number_in is ∙ refusal_number f in
    let word = ap word_in is ∙ refusal_word f in
    let small : fault_number f < 256 = omega (arith, c.from.ensures, c.from.type_inv) in
    rw (c.answer-in-Err-Lookup.ensures, c.from.ensures, c.place.ensures)
    (explain_answers _ _ _ _ told.result told.ensures.answer (fault_number f) (fault_place f) number word small)

pub returns-in-Err-Lookup-clause-told : goal.returns-in-Err-Lookup-clause-told
returns-in-Err-Lookup-clause-told c = c.explain.ensures.told

pub returns-in-Err-NoRoom-clause-answer : goal.returns-in-Err-NoRoom-clause-answer
returns-in-Err-NoRoom-clause-answer c =
    let told = c.explain in
    let is = ap explained_of (c.in-Err-NoRoom.is ∙ ap Err c.in-Err-NoRoom.field-0-is) in
    rw c.answer-in-Err-NoRoom.ensures (explain_answers _ _ _ _ told.result told.ensures.answer 19 0 (ap number_in is) (ap word_in is) (omega arith))

pub returns-in-Err-NoRoom-clause-told : goal.returns-in-Err-NoRoom-clause-told
returns-in-Err-NoRoom-clause-told c = c.explain.ensures.told
