-- What a head says of the bytes at the front, row by row of the table: a scalar, the head of an array or map, or no item.
use Rattle.std.specs.Prelude.{ℕ, ◌+◌, ◌≤◌, ◌<◌, List, ◌≡◌, length, take}
use Rattle.msgpack.specs.Formats.{unused_kind, array_kind, map_kind}
use Rattle.msgpack.specs.Items.{Head, head}
use Rattle.msgpack_model.specs.Values.{Value}
use Rattle.msgpack_model.specs.Encoding.{ArrayHead, MapHead, Scalar}

-- ---- what a head says of the bytes at the front

pub data Front (s : List ℕ) : Head → Type 0 where
  no_item : (h : Head) → h.kind ≡ unused_kind → Front s h
  scalar_item : (kind size count : ℕ) → kind < array_kind
      → (size + count ≤ length s → (v : Value) × Scalar v (take (size + count) s)) → Front s (head kind size count)
  array_item : (size count : ℕ) → size ≤ length s → ArrayHead count (take size s) → Front s (head array_kind size count)
  map_item_lem : (size count : ℕ) → size ≤ length s → MapHead count (take size s) → Front s (head map_kind size count)
