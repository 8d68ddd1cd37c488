-- `xxh64::merge_accumulator` meets its contract. Each call computes what the definition has in its place.
use Rattle.xxh64.specs.Xxh64.{merge_accumulator, add, mul}
use Rattle.xxh64.proofs.merge_accumulator.Goals as goal

pub returns : goal.returns
unfolding merge_accumulator add mul
returns c = rw c.round.ensures
