-- `deposit_rules::among_from` meets its contract: the keys passed are among those.
use Rattle.std.specs.Prelude.{◌-◌}
use Rattle.deposit_rules.specs.Keys.{keys_from}
use Rattle.deposit_rules.proofs.Loops.{AmongFrom}
use Rattle.deposit_rules.proofs.among_from.Given as goal

abbrev pub invariant-loop : goal.invariant-loop
invariant-loop l = AmongFrom l.codes (keys_from l.count l.s l.from) (keys_from (l.count - l.counter) l.s l.at)
