-- THE MEANING OF PASSING OVER AN ITEM, for lists of bytes: whole, too deep, cut.
use Rattle.std.specs.Prelude.{ℕ, ◌≤◌, List, length, take}
use Rattle.msgpack_model.specs.Sound.{EncodesWithin}

-- the first n bytes, and no fewer, encode a value no deeper than a
pub record WholeItem (a : ℕ) (s : List ℕ) (n : ℕ) : Type 0 where
  pub within : n ≤ length s
  pub encodes : EncodesWithin a (take n s)
