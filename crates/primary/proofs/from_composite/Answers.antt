-- `primary::from_composite` meets its contract: the parts of the text, as places of the part.
use Rattle.std.specs.Prelude.{Some}
use mathlib.Core.Path.{◌≡◌, ap, ◌∙◌}
use native.Mathlib.Omega.{arith}
use Rattle.slices.specs.Places.{part_at}
use Rattle.identifier.specs.Composite.{slash_in}
use Rattle.primary.proofs.Composites.{Bounds, bounds, composite_read, composite_inside, composite_refused}
use Rattle.primary.proofs.Readings.{block_inside}
use Rattle.primary.proofs.from_composite.Goals as goal
use Rattle.primary.proofs.from_composite.Goals.{In-Some}

slash_found : (c : In-Some) → Some c.in-Some.slash ≡ slash_in (part_at c.args.part.now c.args.text)
slash_found c =
    c.in-Some.ensures
    ∙ ap slash_in c.part.ensures.result_value

slash_bounds : (c : In-Some) → Bounds c.args.part.now c.args.text.start c.args.text.len c.requires.end c.in-Some.slash (slash_found c)
slash_bounds c = bounds _ _ _ c.requires.end _ (slash_found c)

pub overflow_add-from : goal.overflow_add-from
overflow_add-from c = omega (arith, (slash_bounds c).before_end)

pub overflow_sub-result : goal.overflow_sub-result
overflow_sub-result c = omega (arith, (slash_bounds c).after)

pub overflow_add-result-2 : goal.overflow_add-result-2
overflow_add-result-2 c = omega (arith, (slash_bounds c).before_end, c.requires.end)

pub overflow_sub-result-2 : goal.overflow_sub-result-2
overflow_sub-result-2 c = omega (arith, (slash_bounds (goal.at.overflow_sub-result-2 c).In-Some).before_end)

pub returns-clause-result_value : goal.returns-clause-result_value
returns-clause-result_value c =
    let inside = c.requires.end in
    let found = slash_found (goal.at.returns-clause-result_value c).In-Some in
    composite_read _ _ _ inside _ found

pub returns-clause-inside : goal.returns-clause-inside
returns-clause-inside c =
    let inside = c.requires.end in
    let found = slash_found (goal.at.returns-clause-inside c).In-Some in
    block_inside _ _ (composite_inside _ _ _ inside _ found)

pub returns-in_default-clause-result_value : goal.returns-in_default-clause-result_value
returns-in_default-clause-result_value c =
    let None-found = c.in_default.ensures ∙ ap slash_in c.part.ensures.result_value in
    composite_refused _ _ _ c.requires.end None-found
