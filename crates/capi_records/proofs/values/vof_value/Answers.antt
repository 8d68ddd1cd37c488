-- `capi_records::values::vof_value` meets its contract: each arm is how the reading answers.
use mathlib.Core.Path.{ap, sym, ◌∙◌}
use native.Mathlib.Omega.{arith}
use Rattle.value.specs.Reading.{answer_of}
use Rattle.capi_records.proofs.Parts.{value_refused, value_short, value_told_lem}
use Rattle.capi_records.proofs.values.vof_value.Goals as goal

pub returns-then-not-store : goal.returns-then-not-store
returns-then-not-store c =
    let read = c.read in
    let store = c.store in
    let e = value_short _ _ read.result read.ensures _ (ap answer_of c.in-Ok.is) _ c.told_words.ensures (sym store.ensures.value ∙ c.if-not-store.true) in
    rw (c.answer.ensures, store.ensures.told_after) (record { answer = e.0; told = e.1 })

pub returns-else-not-store : goal.returns-else-not-store
returns-else-not-store c =
    let read = c.read in
    let store = c.store in
    let e = value_told_lem _ _ read.result read.ensures _ (ap answer_of c.in-Ok.is) _ c.told_words.ensures (sym store.ensures.value ∙ c.if-not-store.false) in
    rw (c.answer-in-Ok.ensures, store.ensures.told_after) (record { answer = e.0; told = e.1 })

pub returns-in-Err : goal.returns-in-Err
returns-in-Err c =
    let read = c.read in
    let e = value_refused _ _ read.result read.ensures _ (ap answer_of c.in-Err.is) (omega (arith, c.from.ensures, c.from.type_inv)) in
    rw (c.answer-in-Err.ensures, c.from.ensures) (record { answer = e.0; told = e.1 })
