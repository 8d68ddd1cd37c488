-- `endian::little` meets its contract. The invariant: n is the number of the first i bytes. It stays below 256 ^ i, so that one byte more fits.
use mathlib.Core.Path.{◌≡◌}
use Prim.Native.Nat.{◌-◌, ◌≤◌}
use lib.ListN.{take, drop}
use Rattle.endian.specs.Numbers.{little}
use Rattle.endian.proofs.little.Given as goal

abbrev pub invariant-loop-i : goal.invariant-loop-i
invariant-loop-i l = (l.i ≤ l.width) × (l.n ≡ little (take l.i (drop l.at l.s)))

abbrev pub decreases-loop-i : goal.decreases-loop-i
decreases-loop-i l = l.width - l.i
