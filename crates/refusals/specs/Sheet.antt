-- Document 01's refusal sheet: of the numbers that apply, the lowest is given.
use Rattle.std.specs.Prelude.{ℕ, Bool, true, false, cond, List, [], ◌∷◌, ◌≡◌, refl}
use Rattle.std.specs.Prelude.{Option, None, Some}
use Rattle.std.proofs.Common.{arith}

-- a number, and whether it applies
pub record Row : Type 0 where
  pub number : ℕ
  pub applies : Bool

-- the lowest number that applies: the rows stand in rising order
unfoldable pub lowest : List Row → Option ℕ
lowest [] = None
lowest (row ∷ rows) = cond row.applies (Some row.number) (lowest rows)

-- none does, exactly when no row applies
pub lowest_none : (row : Row) (rows : List Row) → lowest (row ∷ rows) ≡ None → (row.applies ≡ false) × (lowest rows ≡ None)
unfolding lowest
lowest_none row rows e = go row.applies refl e
  where
    go : (t : Bool) → row.applies ≡ t → cond t (Some row.number) (lowest rows) ≡ None → (row.applies ≡ false) × (lowest rows ≡ None)
    go true p q = absurd (let z : ◌≡◌ {A = ℕ} 0 1 = cc in omega arith)
    go false p q = (p, q)
