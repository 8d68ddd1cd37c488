-- `explanation::first_deletion` meets its contract: so far no record passed the test.
use Prim.Native.Nat.{◌-◌}
use lib.ListN.{length}
use Rattle.identifier.specs.Identity.{identity}
use Rattle.current_version.specs.Current.{deletes}
use Rattle.lookup_records.specs.Passes.{Walks}
use Rattle.explanation.specs.Reasons.{first_where}
use Rattle.explanation.proofs.first_deletion.Given as goal

abbrev pub invariant-loop-at : goal.invariant-loop-at
invariant-loop-at l = Walks (first_where (deletes (identity l.ulid l.bucket l.object))) l.pack l.at

abbrev pub decreases-loop-at : goal.decreases-loop-at
decreases-loop-at l = length l.pack - l.at
