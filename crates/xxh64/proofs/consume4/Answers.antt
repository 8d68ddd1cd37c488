-- `xxh64::consume4` meets its contract. Each call computes what the definition has in its place.
use Rattle.xxh64.specs.Xxh64.{consume4, add, mul}
use Rattle.xxh64.proofs.consume4.Goals as goal

pub returns : goal.returns
unfolding consume4 add mul
returns c = rw c.rotl.ensures
