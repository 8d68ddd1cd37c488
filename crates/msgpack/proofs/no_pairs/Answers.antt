-- `msgpack::no_pairs` meets its contract.
use Prim.Native.Nat.{ℕ}
use mathlib.Core.Bool.{false}
use mathlib.Core.Path.{refl}
use lib.ListN.{get_or-replicate}
use Rattle.msgpack.proofs.no_pairs.Goals as goal

pub returns : goal.returns
returns c = record {
  passed = refl;
  map = refl;
  untold = λ j h. get_or-replicate {A = ℕ} 8 j 0 0 h;
  repeated = λ j h. get_or-replicate 8 j false false h;
}
