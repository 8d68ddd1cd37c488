-- Values alike: equal up to the order of pairs in maps, at every depth, and in bytes that themselves hold an encoding.
use Rattle.std.specs.Prelude.{ℕ, ◌+◌, ◌≤◌, Bool, true, false, cond, List, ◌≡◌, refl}
use Rattle.std.specs.Prelude.{Option, Some}
use Rattle.std.proofs.Common.{ap, ◌∙◌, arith, ltb-false}
use Rattle.msgpack.specs.Lookup.{over}
use Rattle.msgpack.specs.Views.{Both, both, neither, Each, no_more, and_each, SameUnder, both_found, both_missing, both_broken, SeenAlike}
use Rattle.msgpack_model.specs.Values.{Value, Binary, Array, Map, Values, no_values_lem, value, Pairs, no_pairs, pair, as_boolean, as_integer, as_text, as_array, as_map}
use Rattle.msgpack_model.specs.Lookup.{is_text, key_is, last_from, last_in, times_key, times_in}
use Rattle.msgpack_model.specs.Views.{list_of, found_by, under_in, value_view}
use Rattle.records_model.specs.Alike.{Alike, same, and_then, arrays, maps, embedded, AlikeValues, no_values_alike, next, AlikePairs, no_pairs_alike, next_pair, swapped, and_further, both_same, both_and}

-- ---- what is equal in values alike

-- what is one and the same for all bytes, for all arrays, and for all maps
same_of : {A : Type 0} (f : Value → A) → ((e d : List ℕ) → f (Binary e) ≡ f (Binary d))
    → ((vs ws : Values) → f (Array vs) ≡ f (Array ws)) → ((ps qs : Pairs) → f (Map ps) ≡ f (Map qs))
    → {v w : Value} → Alike v w → f v ≡ f w
same_of f b a m (same v) = refl
same_of f b a m (and_then x y) = same_of f b a m x ∙ same_of f b a m y
same_of f b a m (arrays {vs = vs} {ws = ws} x) = a vs ws
same_of f b a m (maps {ps = ps} {qs = qs} x) = m ps qs
same_of f b a m (embedded {e = e} {f = d} x y z) = b e d

same_text : {v w : Value} → Alike v w → as_text v ≡ as_text w
same_text = same_of as_text (λ e d. refl) (λ vs ws. refl) (λ ps qs. refl)

same_integer : {v w : Value} → Alike v w → as_integer v ≡ as_integer w
same_integer = same_of as_integer (λ e d. refl) (λ vs ws. refl) (λ ps qs. refl)

same_boolean : {v w : Value} → Alike v w → as_boolean v ≡ as_boolean w
same_boolean = same_of as_boolean (λ e d. refl) (λ vs ws. refl) (λ ps qs. refl)

-- ---- what is alike

values_same : (vs : Values) → AlikeValues vs vs
values_same no_values_lem = no_values_alike
values_same (value v vs) = next (same v) (values_same vs)

values_and : {us vs ws : Values} → AlikeValues us vs → AlikeValues vs ws → AlikeValues us ws
values_and no_values_alike no_values_alike = no_values_alike
values_and (next x xs) (next y ys) = next (and_then x y) (values_and xs ys)

pairs_same : (ps : Pairs) → AlikePairs ps ps
pairs_same no_pairs = no_pairs_alike
pairs_same (pair k v ps) = next_pair (same k) (same v) (pairs_same ps)

alike_array : {v w : Value} → Alike v w → Both AlikeValues (as_array v) (as_array w)
alike_array (same v) = both_same values_same (as_array v)
alike_array (and_then x y) = both_and (λ us vs ws. values_and) (alike_array x) (alike_array y)
alike_array (arrays x) = both x
alike_array (maps x) = neither
alike_array (embedded x y z) = neither

alike_map : {v w : Value} → Alike v w → Both AlikePairs (as_map v) (as_map w)
alike_map (same v) = both_same pairs_same (as_map v)
alike_map (and_then x y) = both_and (λ ps qs rs. and_further) (alike_map x) (alike_map y)
alike_map (arrays x) = neither
alike_map (maps x) = both x
alike_map (embedded x y z) = neither

-- ---- the value of a key

newer : {v w : Value} {o p : Option Value} (t : Bool) → Alike v w → Both Alike o p → Both Alike (cond t (Some v) o) (cond t (Some w) p)
newer true x y = both x
newer false x y = y

apart : (s t : Bool) (v w : Value) {o p : Option Value} → cond {A = ℕ} s 1 0 + (cond t 1 0 + 0) ≤ 1 → Both Alike o p
    → Both Alike (cond t (Some w) (cond s (Some v) o)) (cond s (Some v) (cond t (Some w) p))
apart true true v w h x = absurd (omega arith)
apart true false v w h x = both (same v)
apart false true v w h x = both (same w)
apart false false v w h x = x

module _ (key : List ℕ) where
  same_key : {k l : Value} → Alike k l → key_is key k ≡ key_is key l
  same_key x = ap (is_text key) (same_text x)

  same_times : {ps qs : Pairs} → AlikePairs ps qs → times_key key ps ≡ times_key key qs
  same_times no_pairs_alike = refl
  same_times (next_pair x y xs) = rw (same_key x, same_times xs)
  same_times (swapped k v l w ps) = omega arith
  same_times (and_further x y) = same_times x ∙ same_times y

  same_pairs : (ps : Pairs) {o p : Option Value} → Both Alike o p → Both Alike (last_from key ps o) (last_from key ps p)
  same_pairs no_pairs x = x
  same_pairs (pair k v ps) x = same_pairs ps (newer (key_is key k) (same v) x)

  -- the last value, where one is known already
  alike_from : {ps qs : Pairs} → AlikePairs ps qs → times_key key ps ≤ 1 → {o p : Option Value} → Both Alike o p
      → Both Alike (last_from key ps o) (last_from key qs p)
  alike_from no_pairs_alike h x = x
  alike_from (next_pair {k = k} y z ys) h x = alike_from ys (omega arith) (rw (← same_key y) (newer (key_is key k) z x))
  alike_from (swapped k v l w ps) h x = same_pairs ps (apart (key_is key k) (key_is key l) v w (omega arith) x)
  alike_from (and_further y z) h x = both_and (λ u v w. and_then) (alike_from y h x) (alike_from z (omega (arith, same_times y)) (both_same same _))

  -- where the key does not repeat
  alike_lookup : {ps qs : Pairs} → AlikePairs ps qs → times_key key ps ≤ 1 → Both Alike (last_in key ps) (last_in key qs)
  alike_lookup x h = alike_from x h neither

-- ---- what is seen of values alike

items_alike : {v w : Value} → Alike v w → Both (Each Alike) (value_view.items v) (value_view.items w)
items_alike x = by (alike_array x)
  where
    each : {vs ws : Values} → AlikeValues vs ws → Each Alike (list_of vs) (list_of ws)
    each no_values_alike = no_more
    each (next y ys) = and_each y (each ys)

    by : {o p : Option Values} → Both AlikeValues o p → Both (Each Alike) (over list_of o) (over list_of p)
    by (both y) = both (each y)
    by neither = neither

times_alike : (key : List ℕ) {v w : Value} → Alike v w → value_view.times key v ≡ value_view.times key w
times_alike key x = by (alike_map x)
  where
    by : {o p : Option Pairs} → Both AlikePairs o p → times_in key o ≡ times_in key p
    by (both y) = same_times key y
    by neither = refl

-- under a key that does not repeat
under_alike : (key : List ℕ) {v w : Value} → Alike v w → value_view.times key v ≤ 1 → SameUnder Alike (value_view.under key v) (value_view.under key w)
under_alike key {v} {w} x once = by (alike_map x) once
  where
    at : {o p : Option Value} → Both Alike o p → SameUnder Alike (found_by o) (found_by p)
    at (both y) = both_found y
    at neither = both_missing

    by : {o p : Option Pairs} → Both AlikePairs o p → times_in key o ≤ 1 → SameUnder Alike (under_in key o) (under_in key p)
    by (both y) h = at (alike_lookup key y h)
    by neither h = both_broken

pub seen_alike : SeenAlike value_view value_view Alike
seen_alike =
    record {
      integer = same_integer;
      boolean = same_boolean;
      text = same_text;
      items = items_alike;
      times = times_alike;
      under = λ key x once. under_alike key x (ltb-false 1 _ once);
    }
