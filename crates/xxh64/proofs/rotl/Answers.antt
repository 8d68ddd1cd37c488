-- `xxh64::rotl` meets its contract. The two shifted parts do not overlap, so that their sum fits.
use Rattle.std.proofs.Common.{refl}
use Rattle.xxh64.specs.Xxh64.{rotl}
use Rattle.xxh64.proofs.Laws.{rotl_lt}
use Rattle.xxh64.proofs.rotl.Goals as goal

pub overflow_add-result : goal.overflow_add-result
overflow_add-result c = record { fits = rotl_lt c.args.x c.args.n c.ranges.x.fits c.requires.1 }

pub returns : goal.returns
unfolding rotl
returns c = refl
