-- A text that splits is held by its parts.
use Rattle.slices.specs.Lists.{part_to_end}
use Rattle.held_identifier.specs.Held.{answered}
use Rattle.identifier.specs.Identity.{sizes}
use Rattle.identifier.specs.Composite.{SplitAt, split_at, split_none}
use native.Mathlib.Omega.{arith}
use lib.Seq.{length-take-le}
use mathlib.Core.Path.{refl, sym}
use Rattle.held_identifier.proofs.read_composite.Goals as goal
use Rattle.held_identifier.proofs.read_composite.Goals.{In-Some}

-- where the split found the slash
known : (c : In-Some) → SplitAt c.args.text.now c.in-Some.slash
known c = split_at _ _ (sym c.in-Some.ensures)

pub returns-in-None : goal.returns-in-None
unfolding answered
returns-in-None c = rw (split_none _ (sym c.in-None.ensures)) refl

pub overflow_add-from : goal.overflow_add-from
overflow_add-from c = omega (arith, known c)

pub slice_bounds-parts-end : goal.slice_bounds-parts-end
slice_bounds-parts-end c = sym (length-take-le 26 c.args.text.now (omega (arith, known c)))

pub slice_bounds-parts-count : goal.slice_bounds-parts-count
slice_bounds-parts-count c = omega (arith, known (goal.at.slice_bounds-parts-count c).In-Some)

pub slice_bounds-parts-start : goal.slice_bounds-parts-start
slice_bounds-parts-start c = omega (arith, known (goal.at.slice_bounds-parts-start c).In-Some)

pub slice_bounds-parts-count-in-Some : goal.slice_bounds-parts-count-in-Some
slice_bounds-parts-count-in-Some c = omega (arith, known (goal.at.slice_bounds-parts-count-in-Some c).In-Some)

pub slice_bounds-parts-start-in-Some : goal.slice_bounds-parts-start-in-Some
slice_bounds-parts-start-in-Some c = omega (arith, known (goal.at.slice_bounds-parts-start-in-Some c).In-Some)

pub slice_bounds-parts-end-in-Some : goal.slice_bounds-parts-end-in-Some
slice_bounds-parts-end-in-Some c = omega (arith, known (goal.at.slice_bounds-parts-end-in-Some c).In-Some)

pub hold-requires : goal.hold-requires
hold-requires c = let s = sizes _ (known (goal.at.hold-requires c).In-Some).valid in
    (s.ulid, s.bucketmost, rw part_to_end s.objectmost)

pub returns-in-Some : goal.returns-in-Some
unfolding answered
returns-in-Some c = rw ((known (goal.at.returns-in-Some c).In-Some).read, c.hold.ensures, part_to_end)
