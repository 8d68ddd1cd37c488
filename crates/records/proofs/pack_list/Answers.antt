-- `records::pack_list` meets its contract: what is read of the part, as the contents of a pack list.
use mathlib.Core.Path.{◌≡◌, sym, ap, refl, ◌∙◌}
use Rattle.std.proofs.lemmas.Result.{err_from_is_err_and}
use Rattle.records.specs.Record.{of_pack_list}
use Rattle.records.proofs.Places.{list_inside}
use Rattle.records.proofs.Readings.{list_read, list_fault_number}
use Rattle.records.proofs.pack_list.Goals as goal

pub returns-clause-result_value : goal.returns-clause-result_value
returns-clause-result_value c = list_read _ c.in_ok-l.l c.in_ok-l.ensures.result_value

pub returns-clause-inside : goal.returns-clause-inside
returns-clause-inside c = list_inside _ _ (c.in_ok-l.ensures.inside.list _ refl).identifier

pub returns-in_err-l-clause-result_value : goal.returns-in_err-l-clause-result_value
returns-in_err-l-clause-result_value c =
    let p = err_from_is_err_and c.from_residual.result c.from_residual.ensures.1 in
    rw (p.1, p.2, list_fault_number) (ap of_pack_list c.in_err-l.ensures.result_value)
