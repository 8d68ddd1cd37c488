-- `pipe::standing` meets its contract: a case for each phase.
use mathlib.Core.Path.{◌∙◌}
use Rattle.pipe.proofs.Calls.{tells}
use Rattle.pipe.proofs.standing.Goals as goal

pub returns-in-Header : goal.returns-in-Header
returns-in-Header c = c.still.ensures ∙ tells c.args.state _ c.in-Header.is

pub returns-in-Value : goal.returns-in-Value
returns-in-Value c = c.still-in-Value.ensures ∙ tells c.args.state _ c.in-Value.is

pub returns-in-Refused : goal.returns-in-Refused
returns-in-Refused c = c.still-in-Refused.ensures ∙ tells c.args.state _ c.in-Refused.is

pub returns-in-Ended : goal.returns-in-Ended
returns-in-Ended c = c.still-in-Ended.ensures ∙ tells c.args.state _ c.in-Ended.is
