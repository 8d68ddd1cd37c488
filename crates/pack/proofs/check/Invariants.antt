-- `pack::check` meets its contract. The invariant: what the whole pack gives is what the rest gives from here, with the records counted so far.
use Prim.Native.Nat.{◌-◌}
use lib.ListN.{length}
use Rattle.pack.proofs.Passes.{Going}
use Rattle.pack.proofs.check.Given as goal

abbrev pub invariant-loop-h : goal.invariant-loop-h
invariant-loop-h l = Going l.pack l.at l.count

abbrev pub decreases-loop-h : goal.decreases-loop-h
decreases-loop-h l = length l.pack - l.at
