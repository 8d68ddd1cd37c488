-- What stands under a text key of a map: the last value of the key counts, and earlier ones are only passed over, whatever their type.
use Rattle.std.specs.Prelude.{ℕ, ◌+◌, Bool, List, drop}
use Rattle.std.specs.Prelude.{Option, None, Some}
use Rattle.msgpack.specs.Readers.{Int, plus, minus, read_integer, Part, part, read_binary}
use Rattle.msgpack.specs.Lookup.{last_value, at_place, is_found}
use Rattle.msgpack.specs.Views.{View}

-- ---- an integer of at least 0

abbrev pub at_least_zero : Option Int → Option ℕ
at_least_zero (Some (plus n)) = Some n
at_least_zero (Some (minus n)) = None
at_least_zero None = None

-- at the front of a list
unfoldable pub read_natural : List ℕ → Option ℕ
read_natural s = at_least_zero (read_integer s)

module _ {I : Type 0} (view : View I) where
  unfoldable pub natural_under : List ℕ → I → Option ℕ → Option ℕ
  natural_under key m absent = at_place absent (λ i. at_least_zero (view.integer i)) (view.under key m)

  -- ---- any item

  unfoldable pub is_there : List ℕ → I → Bool
  is_there key m = is_found (view.under key m)

-- ---- bytes

-- a part that is counted from p on
abbrev pub shifted : ℕ → Option Part → Option Part
shifted p (Some b) = Some (part (p + b.start) b.size)
shifted p None = None

-- where the bytes under a key that must be there have their content
unfoldable pub bytes_under : List ℕ → List ℕ → Option Part
bytes_under key m = at_place None (λ p. shifted p (read_binary (drop p m))) (last_value key m)
