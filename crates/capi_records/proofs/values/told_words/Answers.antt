-- `capi_records::values::told_words` meets its contract: the words stand as they are, and each flag is its word.
use Rattle.capi_records.proofs.values.told_words.Goals as goal

pub returns : goal.returns
returns c = rw (c.flag.ensures, c.flag-2.ensures, c.flag-3.ensures)
