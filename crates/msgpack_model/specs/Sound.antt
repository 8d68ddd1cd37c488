-- What is passed over encodes a value no deeper than allowed.
use Prim.Native.Nat.{ℕ, ◌≤◌}
use Rattle.std.specs.Prelude.{List}
use Rattle.msgpack_model.specs.Values.{Value, depth}
use Rattle.msgpack_model.specs.Encoding.{Encodes}

-- the bytes e encode a value no deeper than a
pub record EncodesWithin (a : ℕ) (e : List ℕ) : Type 0 where
  pub value : Value
  pub encoded : Encodes value e
  pub shallow : depth value ≤ a
