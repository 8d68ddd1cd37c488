-- What is passed over encodes a value no deeper than allowed.
use Prim.Native.Nat.{ℕ, zero, suc, ◌+◌, ◌≤◌}
use Rattle.std.specs.Prelude.{List, ◌++◌, ◌≡◌, refl, take, drop}
use Rattle.std.proofs.Math.Path.{ap}
use Rattle.std.proofs.Common.{◌∙◌, take-add}
use native.Mathlib.Omega.{arith}
use Rattle.slices.specs.Bytes.{AllBytes, drop_bytes}
use Rattle.slices.specs.Logic.{absurd_numbers}
use Rattle.slices.specs.Tables.{agree}
use Rattle.msgpack.specs.Items.{Head, Passage, whole, too_deep, head_of, pass_items, pass_item}
use Rattle.msgpack.specs.PassingLaws.{joined, Whole, container, flat, head_whole}
use Rattle.msgpack_model.specs.Values.{Value, Array, Map, Values, no_values_lem, value, Pairs, no_pairs, pair, count_values, count_pairs, depth, values_depth, pairs_depth}
use Rattle.msgpack_model.specs.Encoding.{ArrayHead, MapHead, Scalar, scalar, array, map, EncodesValues, none, next, EncodesPairs, no_pair, next_pair}
use Rattle.msgpack_model.specs.Heads.{scalar_of}
use Rattle.msgpack_model.proofs.Heads.{of_scalar}
use Rattle.msgpack_model.specs.Rows.{Front, no_item, scalar_item, array_item, map_item_lem}
use Rattle.msgpack_model.proofs.Rows.{front_read}
use Rattle.msgpack_model.specs.Sound.{EncodesWithin}

-- ---- items one after another

record ValuesWithin (a count : ℕ) (e : List ℕ) : Type 0 where
  values : Values
  as_many : count_values values ≡ count
  encoded_values_lem : EncodesValues values e
  shallow_values : values_depth values ≤ a

record PairsWithin (a count : ℕ) (e : List ℕ) : Type 0 where
  pairs : Pairs
  as_many_pairs : count_pairs pairs ≡ count
  encoded_pairs_lem : EncodesPairs pairs e
  shallow_pairs : pairs_depth pairs ≤ a

one_more : {a count : ℕ} {e f : List ℕ} → EncodesWithin a e → ValuesWithin a count f → ValuesWithin a (suc count) (e ++ f)
one_more x y = record {
  values = value x.value y.values;
  as_many = ap suc y.as_many;
  encoded_values_lem = next x.encoded y.encoded_values_lem;
  shallow_values = omega (arith, x.shallow, y.shallow_values);
}

pair_more : {a count : ℕ} {e f g : List ℕ} → EncodesWithin a e → EncodesWithin a f → PairsWithin a count g → PairsWithin a (suc count) (e ++ (f ++ g))
pair_more x y z = record {
  pairs = pair x.value y.value z.pairs;
  as_many_pairs = ap suc z.as_many_pairs;
  encoded_pairs_lem = next_pair x.encoded y.encoded z.encoded_pairs_lem;
  shallow_pairs = omega (arith, x.shallow, y.shallow, z.shallow_pairs);
}

abbrev ItemsSound : ℕ → (List ℕ → Passage) → Type 0
ItemsSound a item = (s : List ℕ) (n : ℕ) → AllBytes s → item s ≡ whole n → EncodesWithin a (take n s)

module _ (a : ℕ) (item : List ℕ → Passage) (one : ItemsSound a item) where
  values_sound : (count : ℕ) (s : List ℕ) (n : ℕ) → AllBytes s → pass_items item count s ≡ whole n → ValuesWithin a count (take n s)
  unfolding pass_items
  values_sound zero s n bytes p = let e : n ≡ 0 = cc in rw e
      (record { values = no_values_lem; as_many = refl; encoded_values_lem = none; shallow_values = omega arith })
  values_sound (suc count) s n bytes p =
      let j = joined (item s) (λ k. pass_items item count (drop k s)) n p in
      rw (← j.total, take-add) (one_more (one s j.first bytes j.is)
      (values_sound count (drop j.first s) j.after (drop_bytes j.first bytes) j.rest))

  abbrev PairsSound : ℕ → Type 0
  PairsSound count = (s : List ℕ) (n : ℕ) → AllBytes s → pass_items item (count + count) s ≡ whole n → PairsWithin a count (take n s)

  pair_by : (count : ℕ) → PairsSound count → (s : List ℕ) (k l m : ℕ) → AllBytes s → item s ≡ whole k → item (drop k s) ≡ whole l
      → pass_items item (count + count) (drop l (drop k s)) ≡ whole m
      → PairsWithin a (suc count) (take (k + (l + m)) s)
  pair_by count more s k l m bytes p q r =
      rw (take-add, take-add) (pair_more (one s k bytes p) (one (drop k s) l (drop_bytes k bytes) q)
      (more (drop l (drop k s)) m (drop_bytes l (drop_bytes k bytes)) r))

  pair_step : (count : ℕ) → PairsSound count → (s : List ℕ) (n : ℕ) → AllBytes s
      → pass_items item (suc (suc (count + count))) s ≡ whole n → PairsWithin a (suc count) (take n s)
  unfolding pass_items
  pair_step count more s n bytes p =
      let j = joined (item s) (λ k. pass_items item (suc (count + count)) (drop k s)) n p in
      let i = joined (item (drop j.first s)) (λ k. pass_items item (count + count) (drop k (drop j.first s))) j.after j.rest in
      let e : j.first + (i.first + i.after) ≡ n = ap (λ x. j.first + x) i.total ∙ j.total in
      rw e at (pair_by count more s j.first i.first i.after bytes j.is i.is i.rest)

  no_pair_left : (s : List ℕ) (n : ℕ) → pass_items item 0 s ≡ whole n → PairsWithin a 0 (take n s)
  unfolding pass_items
  no_pair_left s n p = let e : n ≡ 0 = cc in rw e (record { pairs = no_pairs; as_many_pairs = refl; encoded_pairs_lem = no_pair; shallow_pairs = omega arith })

  pairs_sound : (count : ℕ) → PairsSound count
  pairs_sound zero s n bytes p = no_pair_left s n p
  pairs_sound (suc count) s n bytes p = let two : suc count + suc count ≡ suc (suc (count + count)) =
      omega arith in pair_step count (pairs_sound count) s n bytes (rw two at p)

-- ---- one item, by its head

pub scalar_depth : {v : Value} {e : List ℕ} → Scalar v e → depth v ≡ 0
unfolding scalar_of
scalar_depth = of_scalar depth 0 λ b body. agree (λ k. depth (scalar_of k b body)) (λ k. 0) 8 refl

scalar_sound : (a : ℕ) {e : List ℕ} → ((v : Value) × Scalar v e) → EncodesWithin a e
scalar_sound a x = record { value = x.0; encoded = scalar x.1; shallow = omega (arith, scalar_depth x.1) }

array_sound : (a size count m : ℕ) (s : List ℕ) → ArrayHead count (take size s) → ValuesWithin a count (take m (drop size s))
    → EncodesWithin (suc a) (take (size + m) s)
array_sound a size count m s x y =
    let h : ArrayHead (count_values y.values) (take size s) = rw y.as_many x in
    rw take-add (record { value = Array y.values; encoded = array h y.encoded_values_lem; shallow = omega (arith, y.shallow_values) })

map_sound : (a size count m : ℕ) (s : List ℕ) → MapHead count (take size s) → PairsWithin a count (take m (drop size s))
    → EncodesWithin (suc a) (take (size + m) s)
map_sound a size count m s x y =
    let h : MapHead (count_pairs y.pairs) (take size s) = rw y.as_many_pairs x in
    rw take-add (record { value = Map y.pairs; encoded = map h y.encoded_pairs_lem; shallow = omega (arith, y.shallow_pairs) })

-- where no container is allowed
flat_sound : (s : List ℕ) (n : ℕ) (h : Head) → Front s h → Whole (λ count t. too_deep) h s n → EncodesWithin 0 (take n s)
flat_sound s n h f w = by h n f w
  where
    by : (h : Head) (n : ℕ) → Front s h → Whole (λ count t. too_deep) h s n → EncodesWithin 0 (take n s)
    by h n f (container l p) = absurd_numbers (cc)
    by h n (no_item g z) (flat l u i) = absurd (u z)
    by h n (scalar_item kind size count l x) (flat m u i) = scalar_sound 0 (x i)
    by h n (array_item size count l x) (flat m u i) = absurd (omega arith)
    by h n (map_item_lem size count l x) (flat m u i) = absurd (omega arith)

module _ (a : ℕ) (one : ItemsSound a (pass_item a)) where
  deep_sound : (s : List ℕ) (n : ℕ) (h : Head) → AllBytes s → Front s h → Whole (pass_items (pass_item a)) h s n → EncodesWithin (suc a) (take n s)
  deep_sound s n h bytes f w = by h n f w
    where
      by : (h : Head) (n : ℕ) → Front s h → Whole (pass_items (pass_item a)) h s n → EncodesWithin (suc a) (take n s)
      by h n (no_item g z) (container l p) = absurd (omega arith)
      by h n (no_item g z) (flat l u i) = absurd (u z)
      by h n (scalar_item kind size count l x) (container m p) = absurd (omega arith)
      by h n (scalar_item kind size count l x) (flat m u i) = scalar_sound (suc a) (x i)
      by h n (array_item size count l x) (container {m = m} k p) =
          array_sound a size count m s x (values_sound a (pass_item a) one count (drop size s) m (drop_bytes size bytes) p)
      by h n (array_item size count l x) (flat m u i) = absurd (omega arith)
      by h n (map_item_lem size count l x) (container {m = m} k p) =
          map_sound a size count m s x (pairs_sound a (pass_item a) one count (drop size s) m (drop_bytes size bytes) p)
      by h n (map_item_lem size count l x) (flat m u i) = absurd (omega arith)

pub sound : (a : ℕ) (s : List ℕ) (n : ℕ) → AllBytes s → pass_item a s ≡ whole n → EncodesWithin a (take n s)
unfolding pass_item
sound zero s n bytes p = flat_sound s n (head_of s) (front_read s bytes) (head_whole _ _ s n p)
sound (suc a) s n bytes p = deep_sound a (sound a) s n (head_of s) bytes (front_read s bytes) (head_whole _ _ s n p)
