-- `msgpack::non_negative` meets its contract: the tests are the definition's.
use mathlib.Core.Path.{refl}
use Rattle.msgpack.specs.Short.{signed_well, is_short_integer}
use Rattle.msgpack.proofs.non_negative.Goals as goal

pub returns : goal.returns
unfolding is_short_integer signed_well
returns c = record { value = refl; form = rw (c.short_width.ensures, c.is_signed.ensures) }
