-- Bytes encode at most one value, and no encoding is the front of another.
use Rattle.std.specs.Prelude.{ℕ, List, ◌≡◌}

-- ---- two encodings at the front of one list are the same bytes

pub record SameBytes (e f r q : List ℕ) : Type 0 where
  pub same : e ≡ f
  pub rest : r ≡ q
