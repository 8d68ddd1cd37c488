-- `capi_records::record::write_text` meets its contract: the texts stand at their places of the part.
use Rattle.capi_records.proofs.record.write_text.Goals as goal

pub returns-clause-answer : goal.returns-clause-answer
returns-clause-answer c = rw (← c.part-3.ensures.result_value, ← c.part-2.ensures.result_value, ← c.part.ensures.result_value) c.write_parts.ensures.answer

pub returns-clause-holds : goal.returns-clause-holds
returns-clause-holds c = rw (← c.part-3.ensures.result_value, ← c.part-2.ensures.result_value, ← c.part.ensures.result_value) c.write_parts.ensures.holds
