-- `stream_pack::put_part` meets its contract. The invariant: the lines of the records that are complete so far have been put.
use borrow.Author.Rules.{rules}
use Prim.Native.Nat.{◌+◌, ◌≤◌}
use mathlib.Core.Path.{◌≡◌, ap, ◌∙◌}
use native.Mathlib.Omega.{arith}
use lib.ListN.{length, drop}
use Rattle.slices.specs.Lists.{part_to_end}
use Rattle.pipe.specs.Limit.{pipe_limit}
use Rattle.pipe.specs.Taking.{take}
use Rattle.pipe.specs.States.{progress_of, call_of}
use Rattle.stream_pack.proofs.Lines.{no_lines, at_inside, line_more, lines_end}
use Rattle.stream_pack.proofs.put_part.Goals as goal
use Rattle.stream_pack.proofs.put_part.Goals.{After-take-call, In-Complete}

pub loop-e-init : goal.loop-e-init
loop-e-init c = no_lines _ _ _ c.requires.0

-- the call is on what is left of the part
called : (c : After-take-call) → call_of c.take-call.result ≡ take pipe_limit (progress_of c.loop-e.next) (drop c.loop-e.at c.args.part.now)
called c = c.take-call.ensures ∙ ap (take pipe_limit (progress_of c.loop-e.next)) (part_to_end c.loop-e.at c.args.part.now)

pub returns-in_default : goal.returns-in_default
returns-in_default c =
    let e = lines_end c.loop-e.invariant c.take-call.result (called (goal.at.returns-in_default c).After-take-call) c.requires.0 c.requires.1.0 c.in_default.not-Complete in
    record { put = e.0; state_value = e.1.0; state_value_2 = e.1.1 }

-- bytes taken lie in it
inside : (c : In-Complete) → (1 ≤ c.take-call.result.taken) × (c.loop-e.at + c.take-call.result.taken ≤ length c.args.part.now)
inside c =
    let called = c.take-call.ensures ∙ ap (take pipe_limit (progress_of c.loop-e.next)) (part_to_end c.loop-e.at c.args.part.now) in
    at_inside c.loop-e.invariant c.take-call.result called _ c.in-Complete.is

pub overflow_add-at : goal.overflow_add-at
overflow_add-at c = let w = (inside (goal.at.overflow_add-at c).In-Complete).1 in search rules

pub loop-e-smaller : goal.loop-e-smaller
loop-e-smaller c = omega (arith, (inside (goal.at.loop-e-smaller c).In-Complete).0, (inside (goal.at.loop-e-smaller c).In-Complete).1)

pub loop-e-preserved : goal.loop-e-preserved
loop-e-preserved c =
    line_more c.loop-e.invariant c.take-call.result (called (goal.at.loop-e-preserved c).After-take-call) _ c.in-Complete.is c.requires.0 c.requires.1.0 c.requires.1.1 c.put_line-end.ensures
