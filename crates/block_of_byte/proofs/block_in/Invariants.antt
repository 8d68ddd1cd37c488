-- `block_of_byte::block_in` meets its contract: what all blocks tell is what those from the k-th on tell, after the block found before them.
use Prim.Native.Nat.{◌-◌}
use Rattle.block_of_byte.proofs.Walking.{WalkedTo}
use Rattle.block_of_byte.proofs.block_in.Given as goal

abbrev pub invariant-loop-k : goal.invariant-loop-k
invariant-loop-k l =
    WalkedTo l.part l.stride l.offset l.lengths l.deltas l.last l.initial.start l.initial.stored l.initial.source l.start l.stored l.source l.behind l.at l.delta l.k l.found

abbrev pub decreases-loop-k : goal.decreases-loop-k
decreases-loop-k l =
    l.last - l.k
