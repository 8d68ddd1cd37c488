-- `deposit_rules::these_from` meets its contract: the keys passed are the first of these.
use Rattle.std.specs.Prelude.{◌-◌, length}
use Rattle.deposit_rules.specs.Keys.{keys_from}
use Rattle.deposit_rules.proofs.Maps.{ThoseFrom}
use Rattle.deposit_rules.proofs.these_from.Given as goal

abbrev pub invariant-loop-wanted : goal.invariant-loop-wanted
invariant-loop-wanted l = ThoseFrom l.codes (keys_from (length l.codes) l.s l.from) l.wanted-index (keys_from (length l.codes - l.wanted-index) l.s l.at)
