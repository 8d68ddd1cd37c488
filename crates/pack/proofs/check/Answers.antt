-- `pack::check` meets its contract. The invariant: what the whole pack gives is what the rest gives from here, with the records counted so far.
use mathlib.Core.Path.{◌≡◌, sym, ◌∙◌}
use Prim.Native.Nat.{◌+◌, ◌≤◌}
use native.Mathlib.Omega.{arith}
use lib.ListN.{length, drop}
use Rattle.tlv.specs.Found.{found, step}
use Rattle.pack.proofs.Passes.{starts, ends, stops, room, goes_on, too_long, not_too_long}
use Rattle.pack.proofs.check.Goals as goal
use Rattle.pack.proofs.check.Goals.{In-Ok-Some}

pub returns-then-pack-gt-LIMIT : goal.returns-then-pack-gt-LIMIT
returns-then-pack-gt-LIMIT c = too_long c.args.pack.now c.if-pack-gt-LIMIT.true

pub loop-h-init : goal.loop-h-init
loop-h-init c = starts c.args.pack.now

pub returns-in-Ok-None : goal.returns-in-Ok-None
returns-in-Ok-None c =
    let b = c in
    ends b.args.pack.now _ _ c.loop-h.invariant (rw c.in-Ok-None.field-0-is at (sym c.in-Ok-None.ensures))
    ∙ not_too_long b.args.pack.now c.if-pack-gt-LIMIT.false

pub returns-in-Err : goal.returns-in-Err
returns-in-Err c =
    let b = c in
    stops b.args.pack.now _ _ c.loop-h.invariant _ (sym c.in-Err.ensures)
    ∙ not_too_long b.args.pack.now c.if-pack-gt-LIMIT.false

-- a record stands here, and lies inside
there : (c : In-Ok-Some) → step (drop c.loop-h.at c.args.pack.now) ≡ found c.in-Ok-Some.h
there c = rw c.in-Ok-Some.field-0-is at (sym c.in-Ok-Some.ensures)

inside : (c : In-Ok-Some) → c.loop-h.at + 32 + c.in-Ok-Some.h.length ≤ length c.args.pack.now
inside c = room _ _ _ c.loop-h.invariant _ (there c)

pub overflow_add-at : goal.overflow_add-at
overflow_add-at c = omega (arith, inside c)

pub overflow_add-at-in-Ok-Some : goal.overflow_add-at-in-Ok-Some
overflow_add-at-in-Ok-Some c = omega (arith, inside c)

pub overflow_add-count : goal.overflow_add-count
overflow_add-count c = omega (arith, inside c, c.loop-h.invariant.few)

pub loop-h-smaller : goal.loop-h-smaller
loop-h-smaller c = omega (arith, inside c)

pub loop-h-preserved : goal.loop-h-preserved
loop-h-preserved c = goes_on _ _ _ c.loop-h.invariant _ (there c)
