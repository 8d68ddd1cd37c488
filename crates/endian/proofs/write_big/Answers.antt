-- `endian::write_big` meets its contract. What the test says is what both parts of the contract turn on.
use mathlib.Core.Path.{sym, ◌∙◌}
use Rattle.endian.specs.Places.{written_at, holds_within}
use Rattle.endian.proofs.write_big.Goals as goal

pub place-requires : goal.place-requires
place-requires c = (holds_within _ _ _ (sym c.holds.ensures ∙ c.if-holds.true)).inside

pub returns-then-holds-clause-value : goal.returns-then-holds-clause-value
unfolding written_at
returns-then-holds-clause-value c =
    let e = sym c.holds.ensures ∙ c.if-holds.true in
    sym e

pub returns-then-holds-clause-out_after : goal.returns-then-holds-clause-out_after
unfolding written_at
returns-then-holds-clause-out_after c =
    let e = sym c.holds.ensures ∙ c.if-holds.true in
    rw e c.place.ensures

pub returns-else-holds-clause-value : goal.returns-else-holds-clause-value
unfolding written_at
returns-else-holds-clause-value c =
    let e = sym c.holds.ensures ∙ c.if-holds.false in
    sym e

pub returns-else-holds-clause-out_after : goal.returns-else-holds-clause-out_after
unfolding written_at
returns-else-holds-clause-out_after c =
    let e = sym c.holds.ensures ∙ c.if-holds.false in
    rw e
