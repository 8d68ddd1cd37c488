-- `xxh64::fresh` meets its contract. The literals are what the definition's sum and difference come to.
use Rattle.std.proofs.Common.{refl}
use Rattle.xxh64.specs.Xxh64.{add}
use Rattle.xxh64.specs.Parts.{fresh}
use Rattle.xxh64.proofs.fresh.Goals as goal

pub returns : goal.returns
unfolding fresh add
returns c = (refl, refl, refl, refl)
