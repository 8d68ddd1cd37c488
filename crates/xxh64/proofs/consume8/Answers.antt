-- `xxh64::consume8` meets its contract. Each call computes what the definition has in its place.
use Rattle.xxh64.specs.Xxh64.{consume8, add, mul}
use Rattle.xxh64.proofs.consume8.Goals as goal

pub returns : goal.returns
unfolding consume8 add mul
returns c = rw (c.rotl.ensures, c.round.ensures)
