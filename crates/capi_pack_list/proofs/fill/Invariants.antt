-- `capi_pack_list::fill` meets its contract: what the whole leaves is what the rest leaves from here.
use Prim.Native.Nat.{◌-◌}
use Rattle.capi_pack_list.proofs.ListWords.{FilledTo}
use Rattle.capi_pack_list.proofs.fill.Given as goal

abbrev pub invariant-loop-i : goal.invariant-loop-i
invariant-loop-i l = FilledTo l.primary l.fn.list.entries l.initial.told l.told l.i l.at

abbrev pub decreases-loop-i : goal.decreases-loop-i
decreases-loop-i l = l.fn.list.entries.count - l.i
