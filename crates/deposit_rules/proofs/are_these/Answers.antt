-- `deposit_rules::are_these` meets its contract, by what the map's head says.
use Rattle.std.proofs.Common.{sym, ne_eqb}
use Rattle.deposit_rules.proofs.Counted.{those_other_number, those_counted, those_no_map}
use Rattle.deposit_rules.proofs.are_these.Goals as goal

-- src/lib.rt:88:17
pub returns-else-count-codes : goal.returns-else-count-codes
returns-else-count-codes c =
    rw (ne_eqb _ _ c.if-count-codes.false) (those_other_number _ _ _ _ (sym c.in-Some.ensures.result_value) c.if-count-codes.false)

-- src/lib.rt:82:1
pub returns-then-count-codes : goal.returns-then-count-codes
returns-then-count-codes c =
    those_counted _ _ _ _ (sym c.in-Some.ensures.result_value) _
    c.if-count-codes.true c.these_from.ensures

-- src/lib.rt:82:1
pub returns-in-None : goal.returns-in-None
returns-in-None c = those_no_map _ _ (sym c.in-None.ensures.result_value)
