-- `stream_pack::stream` meets its contract: a fresh state is one that calls leave.
use mathlib.Core.Path.{refl}
use Rattle.pipe.specs.Taking.{fits}
use Rattle.stream_pack.proofs.stream.Goals as goal

pub loop-init : goal.loop-init
unfolding fits
loop-init g c = (refl, rw c.fresh-state.ensures)
