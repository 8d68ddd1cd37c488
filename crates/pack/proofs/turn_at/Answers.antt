-- `pack::turn_at` meets its contract: a case for the limit and one for each answer of the step. The place after a record lies inside the pack.
use mathlib.Core.Path.{◌≡◌, sym}
use Prim.Native.Nat.{◌+◌, ◌≤◌}
use native.Mathlib.Omega.{arith}
use lib.ListN.{length, drop, length-drop}
use Rattle.refusals.specs.Limit.{pack_limit}
use Rattle.tlv.specs.Found.{end, found, fault, step, number_of}
use Rattle.tlv.specs.Stands.{step_stands}
use Rattle.pack.specs.Walk.{turn_too_long, turn_found}
use Rattle.pack.proofs.turn_at.Goals as goal
use Rattle.pack.proofs.turn_at.Goals.{In-Ok-Some}

pub returns-then-pack-gt-LIMIT : goal.returns-then-pack-gt-LIMIT
returns-then-pack-gt-LIMIT c = sym (turn_too_long pack_limit c.args.pack.now c.args.at c.if-pack-gt-LIMIT.true)

-- a record stands here, and lies inside
there : (c : In-Ok-Some) → step (drop c.args.at c.args.pack.now) ≡ found c.in-Ok-Some.h
there c = rw c.in-Ok-Some.field-0-is at (sym c.in-Ok-Some.ensures)

inside : (c : In-Ok-Some) → c.args.at + 32 + c.in-Ok-Some.h.length ≤ length c.args.pack.now
inside c =
    let b = c in
    omega (arith, (step_stands (drop b.args.at b.args.pack.now) c.in-Ok-Some.h (there c)).long, length-drop b.args.at b.args.pack.now)

pub overflow_add-result : goal.overflow_add-result
overflow_add-result c = omega (arith, inside (goal.at.overflow_add-result c).In-Ok-Some)

pub overflow_add-result-in-Ok-Some : goal.overflow_add-result-in-Ok-Some
overflow_add-result-in-Ok-Some c = omega (arith, inside (goal.at.overflow_add-result-in-Ok-Some c).In-Ok-Some)

pub returns-in-Ok-None : goal.returns-in-Ok-None
returns-in-Ok-None c =
    let b = c in
    sym (turn_found pack_limit b.args.pack.now b.args.at c.if-pack-gt-LIMIT.false end (rw c.in-Ok-None.field-0-is at (sym c.in-Ok-None.ensures)))

pub returns-in-Err : goal.returns-in-Err
returns-in-Err c =
    let b = c in
    sym (turn_found pack_limit b.args.pack.now b.args.at c.if-pack-gt-LIMIT.false (fault (number_of c.in-Err.f)) (sym c.in-Err.ensures))

pub returns-in-Ok-Some : goal.returns-in-Ok-Some
returns-in-Ok-Some c =
    let b = c in
    rw c.entry_at.ensures (sym (turn_found pack_limit b.args.pack.now b.args.at c.if-pack-gt-LIMIT.false (found c.in-Ok-Some.h) (there (goal.at.returns-in-Ok-Some c).In-Ok-Some)))
