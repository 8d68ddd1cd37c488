-- `xxh64::stripe` meets its contract. Each call computes what the clause has in its place.
use Rattle.std.proofs.Common.{ap, ◌∙◌}
use Rattle.xxh64.specs.Xxh64.{round}
use Rattle.xxh64.proofs.stripe.Goals as goal

pub returns-clause-acc1_value : goal.returns-clause-acc1_value
returns-clause-acc1_value c = c.round.ensures ∙ ap (round _) c.lane.ensures

pub returns-clause-acc2_value : goal.returns-clause-acc2_value
returns-clause-acc2_value c = c.round-2.ensures ∙ ap (round _) c.lane-2.ensures

pub returns-clause-acc3_value : goal.returns-clause-acc3_value
returns-clause-acc3_value c = c.round-3.ensures ∙ ap (round _) c.lane-3.ensures

pub returns-clause-acc4_value : goal.returns-clause-acc4_value
returns-clause-acc4_value c = c.round-4.ensures ∙ ap (round _) c.lane-4.ensures
