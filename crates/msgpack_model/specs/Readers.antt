-- What each reader says of an encoding is what the value is, whatever follows; and it says so only where such a value is encoded.
use Rattle.std.specs.Prelude.{ℕ, ◌≤◌, List, ◌++◌, ◌≡◌, length, drop}
use Rattle.std.specs.Prelude.{Option, Some, None as nothing}
use Rattle.msgpack.specs.Readers.{Counted, counted}
use Rattle.msgpack_model.specs.Values.{Values, Pairs, count_values, count_pairs}
use Rattle.msgpack_model.specs.Encoding.{EncodesValues, EncodesPairs}

-- ---- each reader, of every encoding

-- the head of an array: its count is the value's, and behind it stand the items
pub data ArrayRead (s rest : List ℕ) : Option Counted → Option Values → Type 0 where
  is_array : {vs : Values} {size : ℕ} {items : List ℕ} → size ≤ length s → drop size s ≡ items ++ rest → EncodesValues vs items
      → ArrayRead s rest (Some (counted (count_values vs) size)) (Some vs)
  no_array : ArrayRead s rest nothing nothing

pub data MapRead (s rest : List ℕ) : Option Counted → Option Pairs → Type 0 where
  is_map : {ps : Pairs} {size : ℕ} {items : List ℕ} → size ≤ length s → drop size s ≡ items ++ rest → EncodesPairs ps items
      → MapRead s rest (Some (counted (count_pairs ps) size)) (Some ps)
  no_map : MapRead s rest nothing nothing
