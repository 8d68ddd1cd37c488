-- The relations that deposited blocks are compared with tell things apart: what differs in one respect alone is not related.
use Rattle.std.specs.Prelude.{ℕ, List, ◌≡◌}
use Rattle.std.specs.Prelude.{None}
use Rattle.std.proofs.Common.{sym, ◌∙◌}
use Rattle.slices.specs.Logic.{absurd_numbers}
use Rattle.deposited_blocks.specs.Same.{bytes_of, EqualBytes}

module _ (limit : ℕ) (s : List ℕ) (n : ℕ) (t : List ℕ) (m : ℕ) (x : EqualBytes limit s n t m) where
  pub bytes_differ : (bytes_of limit s n ≡ bytes_of limit t m → ⊥) → ⊥
  bytes_differ f = f (x.first ∙ sym x.second)

  pub no_record_there : bytes_of limit s n ≡ None → ⊥
  no_record_there e = let f = sym e ∙ x.first in absurd_numbers (cc)
