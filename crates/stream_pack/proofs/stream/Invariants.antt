-- `stream_pack::stream` meets its contract. The invariant: the state is one that calls leave.
use mathlib.Core.Bool.{true}
use mathlib.Core.Path.{◌≡◌}
use lib.ListN.{length}
use Rattle.pipe.specs.Limit.{pipe_limit}
use Rattle.pipe.specs.Taking.{fits}
use Rattle.pipe.specs.States.{progress_of}
use Rattle.stream_pack.proofs.stream.Given as goal

abbrev pub invariant-loop : goal.invariant-loop
invariant-loop g l = (length l.buffer ≡ length l.initial.buffer) × (fits pipe_limit (progress_of l.state) ≡ true)
