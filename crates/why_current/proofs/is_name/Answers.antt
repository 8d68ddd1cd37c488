-- `why_current::is_name` meets its contract. Both parts are tested.
use Rattle.current_version.specs.Current.{is_name}
use Rattle.why_current.proofs.is_name.Goals as goal

pub returns : goal.returns
unfolding is_name
returns c = rw (c.is_bucket.ensures, c.bucket.ensures, c.is_object.ensures, c.object.ensures)
