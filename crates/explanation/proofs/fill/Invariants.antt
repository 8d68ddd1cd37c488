-- `explanation::fill` meets its contract: what the whole leaves is what the rest leaves from here.
use Prim.Native.Nat.{◌-◌}
use lib.ListN.{length}
use Rattle.lookup.specs.Answers.{candidate_in}
use Rattle.explanation.proofs.Lines.{Filled}
use Rattle.explanation.proofs.fill.Given as goal

abbrev pub invariant-loop-at : goal.invariant-loop-at
invariant-loop-at l = Filled l.pack l.bucket l.object (candidate_in l.pack l.found) l.initial.told l.told l.i l.at

abbrev pub decreases-loop-at : goal.decreases-loop-at
decreases-loop-at l = length l.pack - l.at
