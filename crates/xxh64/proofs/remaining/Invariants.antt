-- `xxh64::remaining` meets its contract. The invariant: k lanes have been taken.
use Rattle.std.proofs.Common.{◌≡◌, ◌-◌, ◌≤◌}
use Rattle.xxh64.specs.Xxh64.{consume, taken}
use Rattle.xxh64.proofs.remaining.Given as goal

abbrev pub invariant-loop-k : goal.invariant-loop-k
invariant-loop-k l = (l.k ≤ l.n) × (l.acc ≡ taken (consume l.width) l.width l.width l.s l.at l.from l.k)

abbrev pub decreases-loop-k : goal.decreases-loop-k
decreases-loop-k l = l.n - l.k
