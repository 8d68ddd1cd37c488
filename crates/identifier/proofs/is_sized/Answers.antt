-- The two tests are those of the definition.
use mathlib.Core.Path.{refl}
use Rattle.identifier.specs.Identity.{sized}
use Rattle.identifier.proofs.is_sized.Goals as goal

pub returns : goal.returns
unfolding sized
returns c = refl
