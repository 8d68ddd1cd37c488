-- What it is for two headers to tell the same. That what is read of values alike is the same is shown in the module of this name in proofs.
use Rattle.std.specs.Prelude.{ℕ, List, ◌≡◌}
use Rattle.value.specs.Header.{Header}
use Rattle.records_model.specs.Alike.{AlikeBytes}

-- ---- the header

-- two headers tell the same: bytes alike under `e`, and all else equal
pub record SameHeader (h g : Header (List ℕ)) : Type 0 where
  pub primary : AlikeBytes h.primary g.primary
  pub told : h.told ≡ g.told
