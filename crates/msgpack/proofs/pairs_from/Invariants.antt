-- `msgpack::pairs_from` meets its contract, pair by pair.
use Prim.Native.Nat.{◌-◌}
use Rattle.msgpack.proofs.Maps.{Kept}
use Rattle.msgpack.proofs.pairs_from.Given as goal

abbrev pub invariant-loop : goal.invariant-loop
invariant-loop l = Kept l.s l.keys l.from l.pairs l.at (l.pairs - l.counter) l.values

abbrev pub decreases-loop : goal.decreases-loop
decreases-loop l = l.pairs - l.counter
