-- `endian::place` meets its contract. The invariant: what is left to write, written into the buffer as it is now, gives the whole result.
use mathlib.Core.Path.{◌≡◌}
use Prim.Native.Nat.{◌≤◌}
use lib.ListN.{length}
use Rattle.slices.specs.Overwriting.{overwritten}
use Rattle.endian.specs.Numbers.{big_bytes}
use Rattle.endian.proofs.place.Given as goal

abbrev pub invariant-loop-left : goal.invariant-loop-left
invariant-loop-left l = (l.left ≤ l.width) × (length l.out ≡ length l.initial.out) × (overwritten l.out l.at (big_bytes l.left l.rest) ≡ overwritten l.initial.out l.at (big_bytes l.width l.n))

abbrev pub decreases-loop-left : goal.decreases-loop-left
decreases-loop-left l = l.left
