-- `pipe::feed` meets its contract. The invariant: the run over the whole pack goes on from here, with the records told so far and their words written.
use Prim.Native.Nat.{◌+◌, ◌-◌}
use lib.ListN.{length}
use Rattle.pipe.specs.States.{progress_of}
use Rattle.pipe.proofs.Handing.{Turn}
use Rattle.pipe.proofs.feed.Given as goal

abbrev pub invariant-loop-k : goal.invariant-loop-k
invariant-loop-k l =
    Turn l.pack l.lengths l.initial.told l.told l.room (progress_of l.state) l.at l.k l.stop l.count

abbrev pub decreases-loop-k : goal.decreases-loop-k
decreases-loop-k l = (length l.pack - l.at) + (length l.lengths - l.k)
