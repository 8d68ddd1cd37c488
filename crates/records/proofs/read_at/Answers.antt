-- `records::read_at` meets its contract: a case for each test and for each answer of the step and of the reading.
use mathlib.Core.Path.{◌≡◌, refl, sym, ap, ◌∙◌}
use Rattle.std.specs.Prelude.{Ok, Some, None, ok_or}
use Rattle.std.specs.Result.{result_ok}
use Rattle.std.proofs.lemmas.Result.{err_from_is_err_and}
use borrow.Author.Rules.{rules}
use lib.ListN.{drop}
use Rattle.refusals.specs.Limit.{pack_limit}
use Rattle.pack.specs.declared.Fault.TheVariants.{Record}
use Rattle.tlv.specs.Found.{end, found, fault, step, found_step, number_of}
use Rattle.records.specs.declared.PlaceFault.TheVariants.{Outside}
use Rattle.records.proofs.Places.{place_inside}
use Rattle.records.proofs.Readings.{outside, too_long, stepped, is_value, found_there}
use Rattle.records.proofs.Mapped.{was_ok, was_err}
use Rattle.records.proofs.read_at.Goals as goal
use Rattle.records.proofs.read_at.Goals.{In_ok-step, In_ok-h}

pub returns-then-pack-at-clause-result_value : goal.returns-then-pack-at-clause-result_value
returns-then-pack-at-clause-result_value c = outside pack_limit _ _ _ c.if-pack-at.true

pub returns-then-pack-gt-LIMIT-clause-result_value : goal.returns-then-pack-gt-LIMIT-clause-result_value
returns-then-pack-gt-LIMIT-clause-result_value c = too_long pack_limit _ _ _ c.if-pack-at.false c.if-pack-gt-LIMIT.true

pub returns-in_err-step-clause-result_value : goal.returns-in_err-step-clause-result_value
returns-in_err-step-clause-result_value c =
    let e = err_from_is_err_and c.from_residual.result c.from_residual.ensures.1 in
    let w = was_err _ c.step_at.result c.map_err.result _ c.map_err.ensures.cases c.in_err-step.was in
    let is : step (drop c.args.at c.args.pack.now) ≡ fault (number_of w.0) = sym c.step_at.ensures ∙ ap found_step w.1 in
    let post = w.2 in
    let same : c.in_err-step.field-0.0 ≡ Record w.0 c.args.at = search rules in
    rw (e.1, e.2, same) (stepped pack_limit _ _ _ c.if-pack-at.false c.if-pack-gt-LIMIT.false (fault (number_of w.0)) is)

-- what stands at the place, as the step told it
stands : (c : In_ok-step) → step (drop c.args.at c.args.pack.now) ≡ found_step (Ok c.in_ok-step.step)
stands c = sym c.step_at.ensures ∙ ap found_step (was_ok _ c.step_at.result c.map_err.result _ c.map_err.ensures.cases c.in_ok-step.was)

pub returns-in_err-h-clause-result_value : goal.returns-in_err-h-clause-result_value
returns-in_err-h-clause-result_value c =
    let e = err_from_is_err_and c.from_residual-in_err-h.result c.from_residual-in_err-h.ensures.1 in
    let none : c.in_ok-step.step ≡ None = c.ok_or.ensures.ok_part ∙ ap result_ok c.in_err-h.was in
    let given = sym c.in_err-h.was ∙ c.ok_or.ensures.value ∙ ap (λ o. ok_or o Outside) none in
    let is : c.in_err-h.field-0.0 ≡ Outside = cc in
    rw (e.1, e.2, is)
    (stepped pack_limit _ _ _ c.if-pack-at.false c.if-pack-gt-LIMIT.false end (stands (goal.at.returns-in_err-h-clause-result_value c).In_ok-step ∙ ap (λ o. found_step (Ok o)) none))

-- a record stands here
there : (c : In_ok-h) → step (drop c.args.at c.args.pack.now) ≡ found c.in_ok-h.h
there c =
    let some : c.in_ok-step.step ≡ Some c.in_ok-h.h = c.ok_or.ensures.ok_part ∙ ap result_ok c.in_ok-h.was in
    sym c.step_at.ensures ∙ ap found_step (was_ok _ c.step_at.result c.map_err.result _ c.map_err.ensures.cases c.in_ok-step.was) ∙ ap (λ o. found_step (Ok o)) some

pub returns-in_err-record-clause-result_value : goal.returns-in_err-record-clause-result_value
returns-in_err-record-clause-result_value c =
    let e = err_from_is_err_and c.from_residual-in_err-record.result c.from_residual-in_err-record.ensures.1 in
    rw (e.1, e.2)
    (found_there c.args.pack.now c.args.at _ (there (goal.at.returns-in_err-record-clause-result_value c).In_ok-h) pack_limit c.if-pack-at.false c.if-pack-gt-LIMIT.false _ c.in_err-record.ensures.result_value)

pub returns-clause-result_value : goal.returns-clause-result_value
returns-clause-result_value c =
    found_there c.args.pack.now c.args.at _ (there (goal.at.returns-clause-result_value c).In_ok-h) pack_limit c.if-pack-at.false c.if-pack-gt-LIMIT.false _ c.in_ok-record.ensures.result_value

pub returns-clause-inside : goal.returns-clause-inside
returns-clause-inside c =
    place_inside _ _ _ (is_value _ _ _ (there (goal.at.returns-clause-inside c).In_ok-h)) (c.in_ok-record.ensures.inside.places _ refl)
