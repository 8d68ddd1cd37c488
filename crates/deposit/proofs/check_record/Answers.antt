-- `deposit::check_record` meets its contract, by what is read.
use Rattle.std.proofs.Common.{sym, ◌∙◌}
use Rattle.std.proofs.lemmas.Result.{err_from_is_err_and}
use Rattle.refusals.specs.Limit.{pack_limit}
use Rattle.deposit.specs.Packs.{spare_at}
use Rattle.deposit.proofs.Read.{fault_refused, fault_read}
use Rattle.deposit.proofs.check_record.Goals as goal

pub keep_rules-requires : goal.keep_rules-requires
keep_rules-requires c = c.requires

pub returns : goal.returns
returns c =
    let a = c.args in
    rw (c.part-3.ensures.result_value, c.part-2.ensures.result_value, c.part.ensures.result_value) at c.keep_rules.ensures
    ∙ sym (fault_read pack_limit a.tag (spare_at a.pack.now a.at) a.pack.now a.value c.in_ok-r.r c.in_ok-r.ensures.result_value)

pub returns-in_err-r : goal.returns-in_err-r
returns-in_err-r c =
    let a = c.args in
    let p = err_from_is_err_and c.from_residual.result c.from_residual.ensures.1 in
    rw (p.1, p.2) (fault_refused pack_limit a.tag (spare_at a.pack.now a.at) a.pack.now a.value _ c.in_err-r.ensures.result_value)
