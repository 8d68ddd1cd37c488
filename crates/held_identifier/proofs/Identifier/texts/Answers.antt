-- A length in range is one that its array has.
use borrow.Author.Tests.{le-leb, lt-leb}
use Rattle.held_identifier.specs.Held.{named}
use Rattle.held_identifier.proofs.Identifier.texts.Goals as goal
use Rattle.held_identifier.proofs.Identifier.texts.Goals.{then-n-gt63-via-then-n-gt63, then-n-gt63-via-else-n-gt63+then-m-gt1024}

pub returns-then-n-gt63 : goal.returns-then-n-gt63
unfolding named
returns-then-n-gt63 c = elim c.then-n-gt63.branch [
  | then-n-gt63-via-then-n-gt63 w ↦ rw (lt-leb c.args.self.now.bucketlen 63 w.if-n-gt63.true)
  | then-n-gt63-via-else-n-gt63+then-m-gt1024 w ↦ rw (le-leb c.args.self.now.bucketlen 63 w.if-n-gt63.false, lt-leb c.args.self.now.objectlen 1024 w.if-m-gt1024.true)
]

pub returns : goal.returns
unfolding named
returns c = rw (le-leb c.args.self.now.bucketlen 63 c.if-n-gt63.false, le-leb c.args.self.now.objectlen 1024 c.if-m-gt1024.false)
