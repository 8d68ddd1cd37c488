-- `xxh64::consume1` meets its contract. Each call computes what the definition has in its place.
use Rattle.xxh64.specs.Xxh64.{consume1, mul}
use Rattle.xxh64.proofs.consume1.Goals as goal

pub returns : goal.returns
unfolding consume1 mul
returns c = rw c.rotl.ensures
