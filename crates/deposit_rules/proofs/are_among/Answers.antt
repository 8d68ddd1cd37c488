-- `deposit_rules::are_among` meets its contract, by what the map's head says.
use mathlib.Core.Path.{sym}
use Rattle.deposit_rules.proofs.Counted.{among_counted, among_no_map}
use Rattle.deposit_rules.proofs.are_among.Goals as goal

-- src/lib.rt:52:1
pub returns-in-Some : goal.returns-in-Some
returns-in-Some c =
    among_counted _ _ _ _ (sym c.in-Some.ensures.result_value) _ c.among_from.ensures

-- src/lib.rt:52:1
pub returns-in-None : goal.returns-in-None
returns-in-None c = among_no_map _ _ (sym c.in-None.ensures.result_value)
