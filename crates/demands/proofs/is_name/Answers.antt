-- `demands::is_name` meets its contract: the bucket and the object by their rules.
use mathlib.Core.Bool.{◌&&◌}
use Rattle.current_version.specs.Current.{is_name}
use Rattle.demands.proofs.is_name.Goals as goal

pub returns : goal.returns
unfolding is_name
returns c = λ i. c.is_bucket.ensures i && c.is_object.ensures i
