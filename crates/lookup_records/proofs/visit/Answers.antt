-- `lookup_records::visit` meets its contract: the value ends where the next record starts.
use Rattle.lookup_records.proofs.Visits.{length_below_next, visits}
use Rattle.lookup_records.proofs.visit.Goals as goal

pub overflow_sub-value : goal.overflow_sub-value
overflow_sub-value c = let b = c in length_below_next b.args.pack.now b.args.at _ c.pass_at-passed.ensures

pub returns : goal.returns
returns c =
    let b = c in
    let role = c.role_between-role.ensures in
    visits b.args.pack.now b.args.at _ c.pass_at-passed.ensures b.args.skipped _ role.result_value role.inside
