-- `capi_pack::scan::fill` meets its contract: what the whole leaves is what the rest leaves from here.
use Prim.Native.Nat.{◌-◌}
use Rattle.capi_pack.proofs.Entries.{Filled}
use Rattle.capi_pack.proofs.scan.fill.Given as goal

abbrev pub invariant-loop-i : goal.invariant-loop-i
invariant-loop-i l = Filled l.pack l.initial.told l.n l.told l.i l.at

abbrev pub decreases-loop-i : goal.decreases-loop-i
decreases-loop-i l = l.n - l.i
