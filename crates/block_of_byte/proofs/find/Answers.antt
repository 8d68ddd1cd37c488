-- `block_of_byte::find` meets its contract: the list is read for the byte, and the first entry that holds it tells the block.
use Rattle.std.proofs.Common.{◌∙◌}
use Rattle.std.proofs.lemmas.Result.{err_from_is_err_and}
use Rattle.block_of_byte.proofs.Walking.{nowhere_found, refused_found, find_list, find_refused}
use Rattle.block_of_byte.proofs.find.Goals as goal

pub find_in-requires : goal.find_in-requires
find_in-requires c = c.read_for.ensures.holding _ _ _ (rw c.in-Some.is at c.in_ok-stride.was)

pub returns-in_err-stride-clause-result_value : goal.returns-in_err-stride-clause-result_value
returns-in_err-stride-clause-result_value c =
    let p = err_from_is_err_and c.from_residual.result c.from_residual.ensures.1 in
    rw (p.1, p.2) (find_refused _ _ _ c.read_for.ensures _ c.in_err-stride.was)

pub returns-in_err-stride-clause-inside : goal.returns-in_err-stride-clause-inside
returns-in_err-stride-clause-inside c =
    let p = err_from_is_err_and c.from_residual.result c.from_residual.ensures.1 in
    rw (p.1, p.2) (refused_found _ _)

pub returns-in-None-clause-result_value : goal.returns-in-None-clause-result_value
returns-in-None-clause-result_value c = find_list _ _ _ c.read_for.ensures _ _ _ (rw c.in-None.is at c.in_ok-stride.was)

pub returns-in-None-clause-inside : goal.returns-in-None-clause-inside
returns-in-None-clause-inside c = nowhere_found _

pub returns-in-Some-clause-result_value : goal.returns-in-Some-clause-result_value
returns-in-Some-clause-result_value c =
    c.find_in.ensures.result_value ∙ find_list _ _ _ c.read_for.ensures _ _ _ (rw c.in-Some.is at c.in_ok-stride.was)

pub returns-in-Some-clause-inside : goal.returns-in-Some-clause-inside
returns-in-Some-clause-inside c = c.find_in.ensures.inside
