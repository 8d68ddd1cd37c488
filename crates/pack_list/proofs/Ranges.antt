-- What stands under a key of a map, by the place told of it; and a range, by its two numbers.
use Prim.Native.Nat.{ℕ}
use mathlib.Core.Bool.{Bool}
use mathlib.Core.List.{List}
use Rattle.std.specs.Prelude.{Option, None, Some}
use mathlib.Core.Path.{◌≡◌, sym, ap, ◌∙◌}
use lib.ListN.{drop}
use Rattle.msgpack.specs.Lookup.{broken, last_value, at_place, if_there, over}
use Rattle.msgpack.specs.Pairs.{place_told}
use Rattle.msgpack.specs.Views.{repeats, byte_view, read_front}
use Rattle.value.specs.Fields.{read_natural, natural_under}
use Rattle.pack_list.specs.Lists.{start_key, length_key, range_keys, range, range_at}
use Rattle.pack_list.specs.Answers.{range_told}
use Rattle.pack_list.specs.declared.Range.{Range}

module _ {A : Type 0} (absent : Option A) (read : List ℕ → Option A) (key m : List ℕ) where
  pub read_told : (p : ℕ) → last_value key m ≡ place_told p → at_place absent read (byte_view.under key m) ≡ at_place absent (λ k. read (drop k m)) (place_told p)
  read_told p e = rw e (read_front absent read m (place_told p))

  pub read_broken : last_value key m ≡ broken → at_place absent read (byte_view.under key m) ≡ None
  read_broken e = rw e

-- ---- a range

-- a number of it, by what was read in t, which is m
pub natural_read : (key m t : List ℕ) (p : ℕ) (r : Option ℕ) → last_value key m ≡ place_told p → t ≡ m
    → r ≡ at_place (Some 0) (λ k. read_natural (drop k t)) (place_told p) → natural_under byte_view key m (Some 0) ≡ r
unfolding natural_under read_natural
natural_read key m t p r e same h =
    read_told (Some 0) read_natural key m p e
    ∙ ap (λ (x : List ℕ). at_place (Some 0) (λ (k : ℕ). read_natural (drop k x)) (place_told p)) (sym same)
    ∙ sym h

pub range_is : (s : List ℕ) (start len : Option ℕ) (repeated : Bool)
    → natural_under byte_view start_key s (Some 0) ≡ start → natural_under byte_view length_key s (Some 0) ≡ len → repeats byte_view range_keys s ≡ repeated
    → over (λ (r : Range). (r, repeated)) (if_there start λ x. if_there len λ y. Some (range x y)) ≡ range_told s
unfolding range_told range_at
range_is s start len repeated a b e = rw (a, b, e)

pub no_range : (s : List ℕ) → last_value start_key s ≡ broken → None ≡ range_told s
unfolding range_told range_at natural_under read_natural
no_range s e = rw (read_broken (Some 0) read_natural start_key s e)
