-- `msgpack_forms::all_short` meets its contract: it is `short_item` at the front, with the whole allowance.
use Rattle.std.proofs.Common.{sym, ◌∙◌}
use Rattle.msgpack_forms.proofs.Places.{all_told}
use Rattle.msgpack_forms.proofs.all_short.Goals as goal

pub returns : goal.returns
returns c = c.is_ok.ensures.value ∙ all_told _ c.short_item.result (sym c.short_item.ensures)
