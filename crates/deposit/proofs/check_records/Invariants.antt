-- `deposit::check_records` meets its contract: the records passed may be deposited.
use Prim.Native.Nat.{◌-◌}
use lib.ListN.{length}
use Rattle.deposit.proofs.Walks.{Walks}
use Rattle.deposit.proofs.check_records.Given as goal

abbrev pub invariant-loop-at : goal.invariant-loop-at
invariant-loop-at l = Walks l.pack l.at

abbrev pub decreases-loop-at : goal.decreases-loop-at
decreases-loop-at l = length l.pack - l.at
