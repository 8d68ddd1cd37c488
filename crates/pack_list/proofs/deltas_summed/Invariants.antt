-- `pack_list::deltas_summed` meets its contract: so far the sums are those of the deltas that have been read and belong to blocks.
use Prim.Native.Nat.{◌-◌}
use Rattle.pack_list.proofs.Summing.{SummedTo}
use Rattle.pack_list.proofs.deltas_summed.Given as goal

abbrev pub invariant-loop-k : goal.invariant-loop-k
invariant-loop-k l = SummedTo l.part l.fn.deltas l.blocks l.source l.at l.k l.sums

abbrev pub decreases-loop-k : goal.decreases-loop-k
decreases-loop-k l = l.fn.deltas.count - l.k
