-- Headers that are seen alike tell the same: the rules look at a header through its view alone.
use Rattle.std.specs.Prelude.{ℕ, Bool, ◌||◌, List, [], ◌∷◌, ◌≡◌}
use Rattle.std.proofs.Math.Bool.{true, false}
use Rattle.std.specs.Prelude.{Option, None, Some}
use Rattle.std.proofs.Math.Path.{refl, sym, ap}
use Rattle.std.proofs.Common.{◌∙◌}
use Rattle.slices.specs.Logic.{neither_so}
use Rattle.msgpack.specs.Lookup.{Under, found, at_place, is_found, if_there}
use Rattle.msgpack.specs.Views.{View, repeats, Both, both, neither, Each, no_more, and_each, SameUnder, both_found, both_missing, both_broken, SeenAlike, SameKeys, repeats_alike, once_alike}
use Rattle.value.specs.Fields.{at_least_zero, natural_under, is_there}
use Rattle.value.specs.Header.{secondary_key, length_key, compression_key, encryption_key, version_key, header_keys, secondary_keys, Telling, alone, with_map, with_items, with_list, telling, items_repeat, list_repeats, header_repeats}

module _ {I J : Type 0} (v : View I) (w : View J) (R : I → J → Type 0) (alike : SeenAlike v w R) where
  -- ---- under one key

  module _ (key : List ℕ) (i : I) (j : J) (same : SameUnder R (v.under key i) (w.under key j)) where
    natural_alike : (absent : Option ℕ) → natural_under v key i absent ≡ natural_under w key j absent
    unfolding natural_under
    natural_alike absent = by same
      where
        by : {o : Under I} {p : Under J} → SameUnder R o p
            → at_place absent (λ a. at_least_zero (v.integer a)) o ≡ at_place absent (λ b. at_least_zero (w.integer b)) p
        by (both_found r) = ap at_least_zero (alike.integer r)
        by both_missing = refl
        by both_broken = refl

    there_alike : is_there v key i ≡ is_there w key j
    unfolding is_there
    there_alike = by same
      where
        by : {o : Under I} {p : Under J} → SameUnder R o p → is_found o ≡ is_found p
        by (both_found r) = refl
        by both_missing = refl
        by both_broken = refl

  -- ---- the maps

  alone_alike : (i : I) (j : J) → SameKeys v w R header_keys i j → alone v i ≡ alone w j
  unfolding alone
  alone_alike i j k =
      rw (
        natural_alike compression_key i j k.1.1.0 (Some 0),
        natural_alike version_key i j k.1.1.1.1.0 (Some 0),
        there_alike encryption_key i j k.1.1.1.0,
      )

  module _ (limit : ℕ) (t : Telling) where
    map_alike : (i : I) (j : J) → SameKeys v w R secondary_keys i j → with_map v limit t i ≡ with_map w limit t j
    unfolding with_map
    map_alike i j k =
        rw (
          natural_alike length_key i j k.0 None,
          natural_alike compression_key i j k.1.0 (Some t.primary.compression),
          there_alike encryption_key i j k.1.1.0,
        )

    list_alike : (l : I) (m : J) → R l m → ((a : I) (b : J) → v.items l ≡ Some (a ∷ []) → R a b → SameKeys v w R secondary_keys a b)
        → with_list v limit t l ≡ with_list w limit t m
    unfolding with_list
    list_alike l m r inner = by (alike.items r) inner
      where
        by : {o : Option (List I)} {p : Option (List J)} → Both (Each R) o p
            → ((a : I) (b : J) → o ≡ Some (a ∷ []) → R a b → SameKeys v w R secondary_keys a b)
            → if_there o (with_items v limit t) ≡ if_there p (with_items w limit t)
        by (both no_more) h = refl
        by (both (and_each {a = a} {b = b} x no_more)) h = map_alike a b (h a b refl x)
        by (both (and_each x (and_each y ys))) h = refl
        by neither h = refl

  -- ---- the header: items alike under the keys that are read in it, and in the map in `s`

  pub telling_alike : (limit : ℕ) (i : I) (j : J) → SameKeys v w R header_keys i j
      → ((l a : I) (b : J) → v.under secondary_key i ≡ found l → v.items l ≡ Some (a ∷ []) → R a b → SameKeys v w R secondary_keys a b)
      → telling v limit i ≡ telling w limit j
  unfolding telling
  telling_alike limit i j k inner = rw (alone_alike i j k) (each (alone w j))
    where
      by : (t : Telling) {o : Under I} {p : Under J} → SameUnder R o p
          → ((l a : I) (b : J) → o ≡ found l → v.items l ≡ Some (a ∷ []) → R a b → SameKeys v w R secondary_keys a b)
          → at_place (Some t) (with_list v limit t) o ≡ at_place (Some t) (with_list w limit t) p
      by t (both_found {i = l} {j = m} r) h = list_alike limit t l m r (λ a b. h l a b refl)
      by t both_missing h = refl
      by t both_broken h = refl

      each : (o : Option Telling) → (if_there o λ t. at_place (Some t) (with_list v limit t) (v.under secondary_key i))
          ≡ (if_there o λ t. at_place (Some t) (with_list w limit t) (w.under secondary_key j))
      each (Some t) = by t k.1.0 inner
      each None = refl

  -- ---- in both the same keys repeat

  list_repeats_lem : {o : Under I} {p : Under J} → SameUnder R o p → list_repeats v o ≡ list_repeats w p
  list_repeats_lem (both_found r) = by (alike.items r)
    where
      by : {o : Option (List I)} {p : Option (List J)} → Both (Each R) o p → items_repeat v o ≡ items_repeat w p
      by (both no_more) = refl
      by (both (and_each x no_more)) = repeats_alike v w R alike secondary_keys x
      by (both (and_each x (and_each y ys))) = refl
      by neither = refl
  list_repeats_lem both_missing = refl
  list_repeats_lem both_broken = refl

  pub header_repeats_alike : (i : I) (j : J) → R i j → header_repeats v i ≡ header_repeats w j
  unfolding header_repeats
  header_repeats_alike i j r = rw (← repeats_alike v w R alike header_keys r) (by (repeats v header_keys i) refl)
    where
      by : (b : Bool) → repeats v header_keys i ≡ b → (b || list_repeats v (v.under secondary_key i)) ≡ (b || list_repeats w (w.under secondary_key j))
      by true e = refl
      by false e = list_repeats_lem (once_alike v w R alike header_keys r e).1.0

  -- where none does, the headers tell the same
  pub once_telling_alike : (limit : ℕ) (i : I) (j : J) → R i j → header_repeats v i ≡ false → telling v limit i ≡ telling w limit j
  unfolding header_repeats
  once_telling_alike limit i j r e =
      let n = neither_so (repeats v header_keys i) (list_repeats v (v.under secondary_key i)) e in
      telling_alike limit i j (once_alike v w R alike header_keys r n.0)
      λ l a b q m y. once_alike v w R alike secondary_keys y (sym (ap (items_repeat v) m) ∙ sym (ap (list_repeats v) q) ∙ n.1)
