-- `capi_records::record::tell` meets its contract: what was read is told where there is room for all of it.
use native.Mathlib.Omega.{arith}
use Rattle.capi_records.proofs.Records.{few_words, few_bytes, text_written, text_short, here, rules, told_holds}
use Rattle.capi_records.proofs.record.tell.Goals as goal

pub returns-then-told-lt16 : goal.returns-then-told-lt16
returns-then-told-lt16 c = λ at h. rw c.answer.ensures (few_words _ _ _ _ _ _ (here _ _ _ _ h).is (omega arith))

pub returns-in_default : goal.returns-in_default
returns-in_default c = λ at h.
    let start = c in
    let wrote = c.write_text in
    let short = text_short _ start.args.id.now (rules _ _ _ _ h) wrote.result wrote.ensures.answer wrote.new.id wrote.ensures.holds c.in_default.not-Ok in
    rw (c.answer-in_default.ensures, short.is) (few_bytes _ _ _ _ _ _ (here _ _ _ _ h).is (omega arith) short.room)

pub returns : goal.returns
returns c = λ at h.
    let start = c in
    let wrote = c.write_text in
    let text = text_written _ start.args.id.now (rules _ _ _ _ h) wrote.result wrote.ensures.answer wrote.new.id wrote.ensures.holds _ c.in-Ok.is in
    let words = c.record_words.ensures _ (here _ _ _ _ h).from in
    rw c.answer-2.ensures
    (told_holds _ _ _ _ h start.args.told.now start.args.id.now _ (omega arith) _ words _ _ c.store.ensures.told_after text)
