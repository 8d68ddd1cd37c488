-- An object is any text of such a size.
use Rattle.identifier.specs.Identity.{is_object}
use Rattle.identifier.proofs.is_object.Goals as goal

pub returns : goal.returns
unfolding is_object
returns c = c.is_sized.ensures
