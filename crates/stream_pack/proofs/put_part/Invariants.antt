-- `stream_pack::put_part` meets its contract. The invariant: the lines of the records that are complete so far have been put.
use Prim.Native.Nat.{◌-◌}
use lib.ListN.{length}
use Rattle.pipe.specs.States.{progress_of}
use Rattle.stream_pack.proofs.Lines.{Lines}
use Rattle.stream_pack.proofs.put_part.Given as goal

abbrev pub invariant-loop-e : goal.invariant-loop-e
invariant-loop-e l = Lines l.initial.out (progress_of l.initial.next) l.part l.out (progress_of l.next) l.at l.end

abbrev pub decreases-loop-e : goal.decreases-loop-e
decreases-loop-e l = length l.part - l.at
