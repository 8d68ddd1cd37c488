-- `endian::holds` meets its contract: the width first, then the place.
use borrow.Author.Tests.{lt-leb, le-leb}
use Rattle.endian.specs.Places.{holds}
use Rattle.endian.proofs.holds.Goals as goal

pub returns-then-width-le8 : goal.returns-then-width-le8
unfolding holds
returns-then-width-le8 c = rw (le-leb _ _ c.if-width-le8.true) c.lies.ensures

pub returns-else-width-le8 : goal.returns-else-width-le8
unfolding holds
returns-else-width-le8 c = rw (lt-leb _ _ c.if-width-le8.false)
