-- `xxh64::consume` meets its contract. The tests of the width pick the same step as the definition.
use Rattle.std.proofs.Common.{eq-eqb, ne_eqb}
use Rattle.xxh64.specs.Xxh64.{consume}
use Rattle.xxh64.proofs.consume.Goals as goal

pub returns-then-width-eq8 : goal.returns-then-width-eq8
unfolding consume
returns-then-width-eq8 c = rw (eq-eqb _ _ c.if-width-eq8.true) c.consume8.ensures

pub returns-then-width-eq4 : goal.returns-then-width-eq4
unfolding consume
returns-then-width-eq4 c = rw (ne_eqb _ _ c.if-width-eq8.false, eq-eqb _ _ c.if-width-eq4.true) c.consume4.ensures

pub returns : goal.returns
unfolding consume
returns c = rw (ne_eqb _ _ c.if-width-eq8.false, ne_eqb _ _ c.if-width-eq4.false) c.consume1.ensures
