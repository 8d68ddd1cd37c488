-- `capi_pack::scan::find` meets its contract. The invariant: what the search from the place i on finds is what the whole finds.
use mathlib.Core.Path.{◌≡◌}
use Prim.Native.Nat.{◌-◌, ◌/◌, ◌≤◌}
use lib.ListN.{length}
use Rattle.pack.specs.Search.{first}
use Rattle.capi_pack.specs.Search.{hash_told}
use Rattle.capi_pack.proofs.scan.find.Given as goal

abbrev pub invariant-loop-i : goal.invariant-loop-i
invariant-loop-i l = (l.i ≤ length l.told / 4) × (first (hash_told l.told) l.hash l.i (length l.told / 4 - l.i) ≡ first (hash_told l.told) l.hash 0 (length l.told / 4))

abbrev pub decreases-loop-i : goal.decreases-loop-i
decreases-loop-i l = length l.told / 4 - l.i
