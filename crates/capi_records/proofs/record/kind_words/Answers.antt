-- `capi_records::record::kind_words` meets its contract, by the kind.
use Rattle.capi_records.proofs.record.kind_words.Goals as goal

pub returns-in-Block : goal.returns-in-Block
returns-in-Block c = rw c.in-Block.is

pub returns-in-Version : goal.returns-in-Version
returns-in-Version c = rw (c.flag.ensures, c.in-Version.is)

pub returns-in-VersionDelete : goal.returns-in-VersionDelete
returns-in-VersionDelete c = rw c.in-VersionDelete.is

pub returns-in-PackList : goal.returns-in-PackList
returns-in-PackList c = rw c.in-PackList.is
