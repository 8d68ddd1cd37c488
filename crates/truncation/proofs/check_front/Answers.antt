-- `truncation::check_front` meets its contract: the check of the front, and so of a cut.
use Rattle.std.proofs.Common.{◌≡◌, take}
use Rattle.refusals.specs.Limit.{pack_limit}
use Rattle.pack.specs.Reading.{reading, outcome, outcome_of}
use Rattle.truncation.proofs.Answers.{checked_cut}
use Rattle.truncation.proofs.check_front.Goals as goal

pub returns : goal.returns
returns c =
    let e : outcome_of c.check.result ≡ outcome (reading pack_limit (take c.args.n c.args.pack.now))
    = rw (← c.front.ensures.result_value) c.check.ensures in
    (e, λ accepted within. checked_cut c.args.pack.now c.args.n (outcome_of c.check.result) accepted within e)
