-- `deposit_rules::is_listed` meets its contract.
use Rattle.std.proofs.Common.{sym, ◌∙◌}
use Rattle.deposit_rules.proofs.Loops.{listed_any}
use Rattle.deposit_rules.proofs.is_listed.Goals as goal

pub returns : goal.returns
returns c = c.contains.ensures.value ∙ listed_any c.args.codes.now c.args.code
