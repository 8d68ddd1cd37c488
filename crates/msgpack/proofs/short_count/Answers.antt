-- `msgpack::short_count` meets its contract.
use Rattle.msgpack.proofs.short_count.Goals as goal

pub returns : goal.returns
returns c = rw c.short_width.ensures
