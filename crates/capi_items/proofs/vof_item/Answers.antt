-- `capi_items::vof_item` meets its contract: each arm is how what was read is told.
use Rattle.std.proofs.Common.{◌∙◌}
use Rattle.capi_items.proofs.Items.{item_refused, item_words_lem}
use Rattle.capi_items.proofs.vof_item.Goals as goal

pub returns-in-Ok-clause-answer : goal.returns-in-Ok-clause-answer
returns-in-Ok-clause-answer c =
    let read = c.read_item in
    let lemma = item_words_lem _ _ read.result read.ensures _ c.in-Ok.is _ _ _ c.kind_number-kind.ensures c.flag-negative.ensures c.flag-short.ensures in
    c.tell.ensures.answer ∙ lemma.0

pub returns-in-Ok-clause-out : goal.returns-in-Ok-clause-out
returns-in-Ok-clause-out c =
    let read = c.read_item in
    let lemma = item_words_lem _ _ read.result read.ensures _ c.in-Ok.is _ _ _ c.kind_number-kind.ensures c.flag-negative.ensures c.flag-short.ensures in
    c.tell.ensures.told ∙ lemma.1

pub returns-in-Err : goal.returns-in-Err
returns-in-Err c =
    let read = c.read_item in
    let e = item_refused _ _ read.result read.ensures _ c.in-Err.is in
    rw (c.answer.ensures, c.from.ensures) (record { answer = e.0; out = e.1 })
