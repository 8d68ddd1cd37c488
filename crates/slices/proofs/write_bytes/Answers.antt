-- `slices::write_bytes` meets its contract. What the test says is what both parts of the contract turn on.
use mathlib.Core.Path.{sym, ◌∙◌}
use Rattle.slices.specs.Overwriting.{written_bytes}
use Rattle.slices.proofs.write_bytes.Goals as goal

pub returns-then-lies-clause-out_after : goal.returns-then-lies-clause-out_after
unfolding written_bytes
returns-then-lies-clause-out_after g c = rw (sym c.lies.ensures ∙ c.if-lies.true) c.copy.ensures

pub returns-else-lies-clause-out_after : goal.returns-else-lies-clause-out_after
unfolding written_bytes
returns-else-lies-clause-out_after g c = rw (sym c.lies.ensures ∙ c.if-lies.false)
