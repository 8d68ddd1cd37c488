-- `xxh64::round` meets its contract. Each call computes what the definition has in its place.
use Rattle.xxh64.specs.Xxh64.{round, add, mul}
use Rattle.xxh64.proofs.round.Goals as goal

pub returns : goal.returns
unfolding round add mul
returns c = rw c.rotl.ensures
