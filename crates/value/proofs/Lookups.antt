-- What stands under a key of a map, by the place told of it.
use Prim.Native.Nat.{ℕ, zero, suc}
use mathlib.Core.Bool.{Bool, false}
use mathlib.Core.List.{List}
use Rattle.std.specs.Prelude.{Option, None, Some}
use mathlib.Core.Path.{◌≡◌, refl}
use native.Mathlib.Omega.{arith}
use borrow.Author.Tests.{lt-ltb}
use lib.Dec.{ltb}
use lib.ListN.{drop}
use Rattle.msgpack.specs.Lookup.{broken, last_value, at_place, is_found}
use Rattle.msgpack.specs.Pairs.{place_told}
use Rattle.msgpack.specs.Readers.{read_binary, counted, read_array}
use Rattle.msgpack.specs.Views.{repeats, items_from, front_of, byte_view, read_front}
use Rattle.value.specs.Fields.{read_natural, natural_under, shifted, bytes_under, is_there}
use Rattle.value.specs.Header.{secondary_keys, Telling, with_map, with_items, with_list, items_repeat}

is_found_lem : (m : List ℕ) (p : ℕ) → is_found (front_of m (place_told p)) ≡ ltb 0 p
is_found_lem m zero = refl
is_found_lem m (suc p) = rw (lt-ltb 0 (suc p) (omega arith))

module _ (key m : List ℕ) (p : ℕ) (e : last_value key m ≡ place_told p) where
  pub natural_told : (absent : Option ℕ) → natural_under byte_view key m absent ≡ at_place absent (λ k. read_natural (drop k m)) (place_told p)
  unfolding natural_under read_natural
  natural_told absent = rw e (read_front absent read_natural m (place_told p))

  pub bytes_told : bytes_under key m ≡ at_place None (λ k. shifted k (read_binary (drop k m))) (place_told p)
  unfolding bytes_under
  bytes_told = rw e

  pub there_told : is_there byte_view key m ≡ ltb 0 p
  unfolding is_there
  there_told = rw e (is_found_lem m p)

-- where there is no map
module _ (key m : List ℕ) (e : last_value key m ≡ broken) where
  pub no_natural : (absent : Option ℕ) → natural_under byte_view key m absent ≡ None
  unfolding natural_under
  no_natural absent = rw e

  pub no_bytes : bytes_under key m ≡ None
  unfolding bytes_under
  no_bytes = rw e

-- ---- the list under `s`, by how many items it has

module _ (limit : ℕ) (t : Telling) (s : List ℕ) where
  -- what it tells, and whether a key repeats in its map
  pub record ListIs (told : Option Telling) (repeated : Bool) : Type 0 where
    pub tells : with_list byte_view limit t s ≡ told
    pub repeating : items_repeat byte_view (byte_view.items s) ≡ repeated

  module _ (n size : ℕ) (e : read_array s ≡ Some (counted n size)) where
    pub list_empty : n ≡ 0 → ListIs (Some t) false
    unfolding with_list items_from
    list_empty z = record { tells = rw (e, z); repeating = rw (e, z) }

    pub list_single : n ≡ 1 → ListIs (with_map byte_view limit t (drop size s)) (repeats byte_view secondary_keys (drop size s))
    unfolding with_list items_from
    list_single o = record { tells = rw (e, o); repeating = rw (e, o) }

    pub list_longer : (n ≡ 0 → ⊥) → (n ≡ 1 → ⊥) → with_list byte_view limit t s ≡ None
    unfolding with_list items_from
    list_longer z o = rw e (by n z o)
      where
        by : (k : ℕ) → (k ≡ 0 → ⊥) → (k ≡ 1 → ⊥) → with_items byte_view limit t (items_from k (drop size s)) ≡ None
        by zero x y = absurd (x refl)
        by (suc zero) x y = absurd (y refl)
        by (suc (suc k)) x y = refl

  pub no_list : read_array s ≡ None → with_list byte_view limit t s ≡ None
  unfolding with_list
  no_list e = rw e
