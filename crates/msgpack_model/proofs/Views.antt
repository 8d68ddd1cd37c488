-- The view of values, and that bytes are seen as the value which they encode.
use Rattle.std.specs.Prelude.{ℕ, suc, ◌≤◌, Bool, true, false, cond, List, [], ◌∷◌, ◌++◌, ◌≡◌, refl, drop}
use Rattle.std.proofs.Common.{append_assoc, ap, ◌∙◌, arith}
use Rattle.std.specs.Prelude.{Option, Some, None as nothing}
use Rattle.std.proofs.Math.Seq.{drop-append_seam}
use Rattle.slices.specs.Logic.{absurd_numbers}
use Rattle.msgpack.specs.Items.{pass_item, depth_allowed}
use Rattle.msgpack.specs.Readers.{read_integer, read_boolean, content_of_part, read_text, Counted}
use Rattle.msgpack.specs.Lookup.{Under, last_value, over}
use Rattle.msgpack.specs.Pairs.{times_of}
use Rattle.msgpack.specs.Views.{text_at, size_of, items_from, items_by, front_of, byte_view, Both, both, neither, Each, no_more, and_each, SameUnder, both_found, both_missing, both_broken, SeenAlike, SameKeys}
use Rattle.msgpack_model.specs.Values.{Value, Values, count_values, Pairs, no_pairs, pair, depth, values_depth, pairs_depth, as_array, as_map}
use Rattle.msgpack_model.specs.Encoding.{Encodes, scalar, array, map, EncodesValues, none, next}
use Rattle.msgpack_model.proofs.Complete.{complete}
use Rattle.msgpack_model.specs.Readers.{ArrayRead, is_array, no_array}
use Rattle.msgpack_model.proofs.Readers.{integer_reads, boolean_reads, text_reads, array_reads, scalar_no_array, scalar_no_map}
use Rattle.msgpack_model.specs.Lookup.{key_is, last_from, last_in, FoundAt, value_there, none_there, MapLookup, in_map, not_map}
use Rattle.msgpack_model.proofs.Lookup.{times_read, last_value_lem}
use Rattle.msgpack_model.specs.Views.{list_of, found_by, under_in, value_view, Shows}

-- ---- what a container holds stands less deep

array_depth : {v : Value} {e : List ℕ} → Encodes v e → (vs : Values) → as_array v ≡ Some vs → depth v ≡ suc (values_depth vs)
array_depth (scalar x) vs q = absurd_numbers (cc (scalar_no_array x))
array_depth (array {vs = ws} x xs) vs q = let is : ws ≡ vs = cc in rw is
array_depth (map x xs) vs q = absurd_numbers (cc)

map_depth : {v : Value} {e : List ℕ} → Encodes v e → (ps : Pairs) → as_map v ≡ Some ps → depth v ≡ suc (pairs_depth ps)
map_depth (scalar x) ps q = absurd_numbers (cc (scalar_no_map x))
map_depth (array x xs) ps q = absurd_numbers (cc)
map_depth (map {ps = qs} x xs) ps q = let is : qs ≡ ps = cc in rw is

from_depth : (key : List ℕ) (ps : Pairs) (a : ℕ) (best : Option Value) → pairs_depth ps ≤ a
    → ((v : Value) → best ≡ Some v → depth v ≤ a) → (v : Value) → last_from key ps best ≡ Some v → depth v ≤ a
from_depth key no_pairs a best d known v e = known v e
from_depth key (pair k w ps) a best d known v e = from_depth key ps a (cond (key_is key k) (Some w) best) (omega arith) (newer (key_is key k)) v e
  where
    newer : (t : Bool) (u : Value) → cond t (Some w) best ≡ Some u → depth u ≤ a
    newer true u q = let is : w ≡ u = cc in rw (← is) (omega arith)
    newer false u q = known u q

lookup_depth : (key : List ℕ) (ps : Pairs) (v : Value) → last_in key ps ≡ Some v → depth v ≤ pairs_depth ps
lookup_depth key ps v e = from_depth key ps (pairs_depth ps) nothing (omega arith) (λ u q. absurd_numbers (cc)) v e

-- ---- every encoding is seen so

each_item : {vs : Values} {e : List ℕ} → EncodesValues vs e → values_depth vs ≤ depth_allowed → (s rest : List ℕ) → s ≡ e ++ rest
    → Each Shows (items_from (count_values vs) s) (list_of vs)
unfolding items_from
each_item none d s rest h = no_more
each_item (next {v = v} {e = e} {f = f} x xs) d s rest h =
    let joined : s ≡ e ++ (f ++ rest) = h ∙ append_assoc e f rest in
    let flat : depth v ≤ depth_allowed = omega arith in
    let behind : drop (size_of (pass_item depth_allowed s)) s ≡ f ++ rest
    = rw joined (rw (complete x depth_allowed flat (f ++ rest)) (drop-append_seam e (f ++ rest))) in
    and_each (record { front = e; rest = f ++ rest; is = joined; encodes = x; shallow = flat }) (each_item xs (omega arith) _ rest behind)

items_alike : {s : List ℕ} {v : Value} → Shows s v → Both (Each Shows) (byte_view.items s) (value_view.items v)
items_alike {s} {v} x = rw x.is (by (as_array v) (array_depth x.encodes) (array_reads x.encodes x.rest))
  where
    by : {c : Option Counted} (o : Option Values) → ((vs : Values) → o ≡ Some vs → depth v ≡ suc (values_depth vs))
        → ArrayRead (x.front ++ x.rest) x.rest c o
        → Both (Each Shows) (items_by (x.front ++ x.rest) c) (over list_of o)
    by o inner (is_array {vs = vs} l k ys) = both (each_item ys (omega (arith, inner vs refl, x.shallow)) _ x.rest k)
    by o inner no_array = neither

under_alike : (key : List ℕ) {s : List ℕ} {v : Value} → Shows s v → SameUnder Shows (byte_view.under key s) (value_view.under key v)
under_alike key {s} {v} x = rw x.is (by (as_map v) (map_depth x.encodes) (last_value_lem key x.encodes x.shallow x.rest))
  where
    at : (place : Under ℕ) (o : Option Value) → ((w : Value) → o ≡ Some w → depth w ≤ depth_allowed) → FoundAt (x.front ++ x.rest) place o
        → SameUnder Shows (front_of (x.front ++ x.rest) place) (found_by o)
    at place o less (value_there {v = w} {f = f} q h y) = both_found (record { front = f; rest = q; is = h; encodes = y; shallow = less w refl })
    at place o less none_there = both_missing

    by : (o : Option Pairs) → ((ps : Pairs) → o ≡ Some ps → depth v ≡ suc (pairs_depth ps)) → MapLookup key (x.front ++ x.rest) o
        → SameUnder Shows (front_of (x.front ++ x.rest) (last_value key (x.front ++ x.rest))) (under_in key o)
    by (Some ps) inner (in_map y) = at _ (last_in key ps) (λ w q. omega (arith, lookup_depth key ps w q, inner ps refl, x.shallow)) y
    by nothing inner (not_map y) = rw y both_broken

pub bytes_alike : SeenAlike byte_view value_view Shows
unfolding text_at
bytes_alike =
    record {
      integer = λ x. ap read_integer x.is ∙ integer_reads x.encodes x.rest;
      boolean = λ x. ap read_boolean x.is ∙ boolean_reads x.encodes x.rest;
      text = λ x. ap (λ s. content_of_part s (read_text s)) x.is ∙ text_reads x.encodes x.rest;
      items = items_alike;
      times = λ key x. ap (times_of key) x.is ∙ times_read key x.encodes x.shallow x.rest;
      under = λ key x once. under_alike key x;
    }

pub keys_alike : (keys : List (List ℕ)) {s : List ℕ} {v : Value} → Shows s v → SameKeys byte_view value_view Shows keys s v
keys_alike [] x = tt
keys_alike (key ∷ keys) x = (under_alike key x, keys_alike keys x)
