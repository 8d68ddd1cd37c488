-- `pack_list::read` meets its contract: the list for any byte.
use Rattle.std.proofs.lemmas.Result.{err_from_is_err_and}
use Rattle.pack_list.proofs.Listing.{reading_list, reading_refused}
use Rattle.pack_list.proofs.read.Goals as goal

pub returns : goal.returns
returns c =
    let e = reading_list _ _ _ c.read_for.ensures _ _ _ c.in_ok-list.was in
    record { result_value = e.0; inside = e.1 }

pub returns-in_err-list : goal.returns-in_err-list
returns-in_err-list c =
    let p = err_from_is_err_and c.from_residual.result c.from_residual.ensures.1 in
    let e = reading_refused _ _ _ c.read_for.ensures _ c.in_err-list.was in
    rw (p.1, p.2) (record { result_value = e.0; inside = e.1 })
