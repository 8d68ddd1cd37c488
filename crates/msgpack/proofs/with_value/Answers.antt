-- `msgpack::with_value` meets its contract.
use Rattle.msgpack.proofs.Updates.{value_not_asked, value_stored}
use Rattle.msgpack.proofs.with_value.Goals as goal

pub returns-then-j-ge8 : goal.returns-then-j-ge8
returns-then-j-ge8 c = value_not_asked _ _ _ c.requires c.if-j-ge8.true

pub returns : goal.returns
returns c = value_stored _ _ _ c.requires c.if-j-ge8.false
