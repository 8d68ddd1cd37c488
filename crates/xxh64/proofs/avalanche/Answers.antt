-- `xxh64::avalanche` meets its contract. Each call computes what the definition has in its place.
use Rattle.std.proofs.Common.{refl}
use Rattle.xxh64.specs.Xxh64.{avalanche, fold_high, mul}
use Rattle.xxh64.proofs.avalanche.Goals as goal

pub returns : goal.returns
unfolding avalanche fold_high mul
returns c = refl
