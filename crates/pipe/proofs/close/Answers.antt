-- `pipe::close` meets its contract: all but the phase stays.
use mathlib.Core.Path.{ap, ◌∙◌}
use Rattle.pipe.specs.Taking.{Progress}
use Rattle.pipe.specs.Step.{standing}
use Rattle.pipe.proofs.Calls.{phase_any}
use Rattle.pipe.proofs.close.Goals as goal

pub returns : goal.returns
returns c =
    let a = c.args in
    c.standing.ensures ∙ ap (λ (p : Progress). standing p) (phase_any a.phase a.phase a.state)
