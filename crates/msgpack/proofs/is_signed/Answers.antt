-- `msgpack::is_signed` meets its contract.
use mathlib.Core.Path.{refl}
use Rattle.msgpack.specs.Short.{is_signed}
use Rattle.msgpack.proofs.is_signed.Goals as goal

pub returns : goal.returns
unfolding is_signed
returns c = refl
