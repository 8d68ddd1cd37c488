-- `msgpack::pass_over` meets its contract: it is `pass_item` at the front, with the whole allowance.
use Rattle.msgpack.proofs.pass_over.Goals as goal

pub pass_item-requires : goal.pass_item-requires
pass_item-requires c = c.head_at.ensures

pub returns : goal.returns
returns c = c.pass_item.ensures
