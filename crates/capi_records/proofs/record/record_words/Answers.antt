-- `capi_records::record::record_words` meets its contract: the words stand as they are.
use Rattle.capi_records.specs.Record.{record_words}
use Rattle.capi_records.proofs.record.record_words.Goals as goal

pub returns : goal.returns
unfolding record_words
returns c = λ t e. rw (c.kind_words-k.ensures, c.told_words-parts.ensures, e)
