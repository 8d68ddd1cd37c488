-- `endian::big` meets its contract. The invariant: n is the number of the first i bytes. It stays below 256 ^ i, so that one byte more fits.
use mathlib.Core.Path.{◌≡◌}
use Prim.Native.Nat.{◌-◌, ◌≤◌}
use lib.ListN.{take, drop}
use Rattle.endian.specs.Numbers.{big}
use Rattle.endian.proofs.big.Given as goal

abbrev pub invariant-loop-i : goal.invariant-loop-i
invariant-loop-i l = (l.i ≤ l.width) × (l.n ≡ big (take l.i (drop l.at l.s)))

abbrev pub decreases-loop-i : goal.decreases-loop-i
decreases-loop-i l = l.width - l.i
