-- i entries are written, and the pass stands after i records.
use Rattle.std.proofs.Common.{◌≡◌, ◌-◌, ◌≤◌}
use Rattle.pack.proofs.Writes.{place_after, written_to}
use Rattle.pack.proofs.fill.Given as goal

abbrev pub invariant-loop-i : goal.invariant-loop-i
invariant-loop-i l = record {
  inside : l.i ≤ l.n;
  place : l.at ≡ place_after l.pack l.i 0;
  so_far : l.list ≡ written_to l.pack l.i l.initial.list;
}

abbrev pub decreases-loop-i : goal.decreases-loop-i
decreases-loop-i l = l.n - l.i
