-- `records::version_delete` meets its contract: what is read of the part, as the contents of a version delete.
use mathlib.Core.Path.{ap, refl}
use Rattle.std.proofs.lemmas.Result.{err_from_is_err_and}
use Rattle.records.specs.Record.{of_version_delete}
use Rattle.records.proofs.Places.{delete_inside}
use Rattle.records.proofs.version_delete.Goals as goal

pub returns-clause-result_value : goal.returns-clause-result_value
returns-clause-result_value c = ap of_version_delete c.in_ok-t.ensures.result_value

pub returns-clause-inside : goal.returns-clause-inside
returns-clause-inside c = delete_inside _ _ _ (c.in_ok-t.ensures.inside.identifier _ _ refl) (c.in_ok-t.ensures.inside.delete_id _ _ refl)

pub returns-in_err-t-clause-result_value : goal.returns-in_err-t-clause-result_value
returns-in_err-t-clause-result_value c =
    let p = err_from_is_err_and c.from_residual.result c.from_residual.ensures.1 in
    rw (p.1, p.2) (ap of_version_delete c.in_err-t.ensures.result_value)
