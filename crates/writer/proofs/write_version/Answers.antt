-- A part that reads is stored.
use mathlib.Core.Path.{◌≡◌, sym, ap, ◌∙◌}
use Rattle.std.specs.Prelude.{Some}
use borrow.Author.Rules.{rules}
use Rattle.std.proofs.lemmas.Result.{err_from_is_err_and}
use Rattle.refusals.specs.Answers.{is_result}
use Rattle.refusals.specs.declared.Unwritten.TheVariants.{Inadmissible}
use Rattle.primary.specs.Answers.{version_of}
use Rattle.records.proofs.Mapped.{was_ok, was_err}
use Rattle.writer.specs.Writing.{version}
use Rattle.writer.proofs.Calls.{Call, call_stores, call_refused}
use Rattle.writer.proofs.write_version.Goals as goal
use Rattle.writer.proofs.write_version.Goals.{After-store_part, After-from_residual}

stored : (c : After-store_part) → Call c.args.used (Some (version c.args.part.now)) c.args.buf.now c.store_part.result c.store_part.new.buf
stored c =
    let is = was_ok _ c.read_version.result c.map_err.result _ c.map_err.ensures.cases c.in_ok-map_err.was in
    call_stores _ _ (version c.args.part.now) _ _ (ap is_result (sym c.read_version.ensures.result_value ∙ ap (version_of _) is)) c.store_part.ensures

nothing : (c : After-from_residual) → Call c.args.used (Some (version c.args.part.now)) c.args.buf.now c.from_residual.result c.args.buf.now
nothing c =
    let e = err_from_is_err_and c.from_residual.result c.from_residual.ensures.1 in
    let w = was_err _ c.read_version.result c.map_err.result _ c.map_err.ensures.cases c.in_err-map_err.was in
    let post = w.2 in
    let same : c.in_err-map_err.field-0.0 ≡ Inadmissible = search rules in
    rw (e.1, e.2, same) (call_refused _ _ (version c.args.part.now) (ap is_result (sym c.read_version.ensures.result_value ∙ ap (version_of _) w.1)))

pub returns-clause-answer : goal.returns-clause-answer
returns-clause-answer c = (stored (goal.at.returns-clause-answer c).After-store_part).answer

pub returns-clause-buffer : goal.returns-clause-buffer
returns-clause-buffer c = (stored (goal.at.returns-clause-buffer c).After-store_part).buffer

pub returns-in_err-map_err-clause-answer : goal.returns-in_err-map_err-clause-answer
returns-in_err-map_err-clause-answer c = (nothing c).answer

pub returns-in_err-map_err-clause-buffer : goal.returns-in_err-map_err-clause-buffer
returns-in_err-map_err-clause-buffer c = (nothing c).buffer
