-- `explanation::explain` meets its contract: the lookup's refusal, or the lines beside what it found.
use mathlib.Core.Path.{◌≡◌, sym, ap, ◌∙◌}
use Rattle.std.proofs.lemmas.Result.{err_from_is_err_and}
use Rattle.explanation.proofs.Endings.{ulid_place, fault_explains, lines_checked, found_explains}
use Rattle.explanation.proofs.explain.Goals.{in-None, in-Some}
use Rattle.explanation.proofs.explain.Goals as goal

pub returns-in_err-found : goal.returns-in_err-found
returns-in_err-found c =
    let p = err_from_is_err_and c.from_residual.result c.from_residual.ensures.1 in
    let e = fault_explains c.args.pack.now c.args.bucket.now c.args.object.now c.args.told.now c.in_err-found.field-0.0 c.in_err-found.ensures.result_value in
    rw (p.1, p.2) (record { answer = e.0; told = e.1.0; ulid = e.1.1 })

pub tell-requires : goal.tell-requires
tell-requires c = lines_checked _ _ _ c.args.told.now _ c.in_ok-found.ensures.result_value

pub returns : goal.returns
returns c =
    let same : c.match-found.found ≡ c.in_ok-found.found =
    elim c.match-found.branch [ in-Some d ↦ d.found-is ∙ sym d.in-Some.is | in-None d ↦ d.found-is ] in
    let at : c.match-found.ulid ≡ ulid_place c.in_ok-found.found =
    elim c.match-found.branch [ in-Some d ↦ d.ulid-is ∙ ap ulid_place (sym d.in-Some.is) | in-None d ↦ d.ulid-is ∙ ap ulid_place (sym d.in-None.is) ] in
    let told = rw same at c.tell.ensures in
    let e = found_explains c.args.pack.now c.args.bucket.now c.args.object.now c.args.told.now _ c.in_ok-found.ensures.result_value _ at c.in_ok-found.ensures.inside _ _
    told.answer told.told in
    record { answer = e.0; told = e.1.0; ulid = e.1.1 }
