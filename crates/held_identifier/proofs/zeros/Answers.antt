-- The zeros are written out here and nowhere else.
use Rattle.held_identifier.specs.Held.{zeros}
use mathlib.Core.Path.{refl}
use Rattle.held_identifier.proofs.zeros.Goals as goal

pub returns : goal.returns
unfolding zeros
returns c = refl
