-- `explanation::count_versions` meets its contract: what was counted so far and what is left make the whole.
use Prim.Native.Nat.{◌-◌}
use lib.ListN.{length}
use Rattle.explanation.proofs.Lines.{Counts}
use Rattle.explanation.proofs.count_versions.Given as goal

abbrev pub invariant-loop-at : goal.invariant-loop-at
invariant-loop-at l = Counts l.pack l.bucket l.object l.at l.count

abbrev pub decreases-loop-at : goal.decreases-loop-at
decreases-loop-at l = length l.pack - l.at
