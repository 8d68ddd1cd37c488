-- The first i elements have been pasted.
use Rattle.std.proofs.Common.{◌≡◌, ◌≤◌}
use lib.ListN.{length}
use lib.Seq.{paste}
use Rattle.slices.proofs.copy.Given as goal

abbrev pub invariant-loop-i : goal.invariant-loop-i
invariant-loop-i g l = (l.i ≤ length l.text) × (l.out ≡ paste l.initial.out l.at l.text l.i)
