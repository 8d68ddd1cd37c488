-- `deposit::check` meets its contract, by how the check of the pack ends.
use Rattle.std.proofs.Common.{◌∙◌}
use Rattle.std.proofs.lemmas.Result.{err_from_is_err_and}
use Rattle.refusals.specs.Limit.{pack_limit}
use Rattle.deposit.proofs.Ends.{ends_whole, by_records, by_refusal}
use Rattle.deposit.proofs.check.Goals as goal

pub check_records-requires : goal.check_records-requires
check_records-requires c = ends_whole pack_limit _ _ c.in_ok-count.ensures

pub returns : goal.returns
returns c = c.check_records.ensures ∙ by_records pack_limit _ _ c.in_ok-count.ensures

pub returns-in_err-count : goal.returns-in_err-count
returns-in_err-count c =
    let p = err_from_is_err_and c.from_residual.result c.from_residual.ensures.1 in
    rw (p.1, p.2) (by_refusal pack_limit _ _ _ c.in_err-count.ensures)
