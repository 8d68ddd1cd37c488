-- `xxh64::stripes` meets its contract. The invariant: each accumulator has taken one lane of each of k stripes.
use Rattle.std.proofs.Common.{◌≡◌, ◌-◌, ◌≤◌}
use Rattle.xxh64.specs.Xxh64.{round, taken}
use Rattle.xxh64.proofs.stripes.Given as goal

abbrev pub invariant-loop-k : goal.invariant-loop-k
invariant-loop-k l =
    (l.k ≤ l.n)
    × (l.acc.acc1 ≡ taken round 8 32 l.s 0 l.initial.acc.acc1 l.k)
    × (l.acc.acc2 ≡ taken round 8 32 l.s 8 l.initial.acc.acc2 l.k)
    × (l.acc.acc3 ≡ taken round 8 32 l.s 16 l.initial.acc.acc3 l.k)
    × (l.acc.acc4 ≡ taken round 8 32 l.s 24 l.initial.acc.acc4 l.k)

abbrev pub decreases-loop-k : goal.decreases-loop-k
decreases-loop-k l = l.n - l.k
