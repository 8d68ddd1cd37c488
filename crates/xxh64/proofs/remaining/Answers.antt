-- `xxh64::remaining` meets its contract. The invariant: k lanes have been taken.
use Rattle.std.proofs.Common.{◌≡◌, ◌+◌, ◌*◌, ◌≤◌, length, arith, rules}
use Rattle.xxh64.specs.Xxh64.{consume, taken}
use Rattle.xxh64.proofs.Laws.{taken_more, lane_inside}
use Rattle.xxh64.proofs.remaining.Goals as goal
use Rattle.xxh64.proofs.remaining.Goals.{In-loop-k}

pub loop-k-init : goal.loop-k-init
unfolding taken
loop-k-init c = search rules

-- the lane that is read lies inside
inside : (c : In-loop-k) →
    let a = c.args in
    a.at + a.width * c.loop-k.k + a.width ≤ length a.s.now
inside c = lane_inside _ _ _ _ _ c.requires.1 c.loop-k-test.true

pub overflow_mul-width : goal.overflow_mul-width
overflow_mul-width c = omega (arith, inside c)

pub overflow_add-at : goal.overflow_add-at
overflow_add-at c = omega (arith, inside c)

pub lane-requires : goal.lane-requires
lane-requires c = (search rules, inside c)

pub loop-k-preserved : goal.loop-k-preserved
loop-k-preserved c = (search rules, taken_more (consume _) _ _ _ _ _ _ c.loop-k.invariant.1 c.lane.ensures c.consume-acc.ensures)

pub returns : goal.returns
returns c =
    let e : c.loop-k.k ≡ c.args.n = omega arith in
    rw e at c.loop-k.invariant.1
