-- `pack::listed_at` meets its contract: what is passed over is taken apart as in the definition.
use Rattle.pack.specs.Scan.{listed_at}
use Rattle.pack.proofs.listed_at.Goals as goal

pub returns : goal.returns
unfolding listed_at
returns c = rw (← c.pass_at-passed.ensures, c.entry_at.ensures)
