-- Too deep, both ways: the definition says so exactly where the relation does.
use Prim.Native.Nat.{ℕ, zero, suc, ◌+◌, ◌-◌, ◌≤◌, ◌<◌}
use Rattle.std.specs.Prelude.{Bool, true, false, List, [], ◌++◌, ◌≡◌, leb, length, take, drop}
use Rattle.std.proofs.Common.{append_assoc, sym, ap, ◌∙◌, arith, leb-true, leb-false, take-append-drop}
use Rattle.std.proofs.Math.Path.{refl}
use Rattle.std.proofs.Math.Seq.{drop-append_seam}
use Rattle.slices.specs.Bytes.{AllBytes, drop_bytes}
use Rattle.slices.specs.Logic.{absurd_numbers}
use Rattle.msgpack.specs.Formats.{array_kind, map_kind}
use Rattle.msgpack.specs.Items.{Head, Passage, whole, cut, too_deep, head, head_of, items_of, and_then, pass_items, pass_item}
use Rattle.msgpack.specs.PassingLaws.{beyond_deep, head_deep, too_deep_lem, within_container}
use Rattle.msgpack_model.specs.Values.{Value, Values, no_values_lem, value, Pairs, pair, count_values, count_pairs, depth, values_depth, pairs_depth}
use Rattle.msgpack_model.specs.Encoding.{Encodes, scalar, array, map, EncodesValues, none, next, no_pair, next_pair, Opens, opens_array, opens_map, TooDeep, here, inside}
use Rattle.msgpack_model.specs.Heads.{array_begins, map_begins}
use Rattle.msgpack_model.proofs.Complete.{complete}
use Rattle.msgpack_model.specs.Rows.{Front, no_item, scalar_item, array_item, map_item_lem}
use Rattle.msgpack_model.proofs.Rows.{front_read}
use Rattle.msgpack_model.specs.Sound.{EncodesWithin}
use Rattle.msgpack_model.proofs.Sound.{scalar_depth, sound}

-- ---- where the relation holds

-- the kind and count of a container's head, whatever follows
record Opened (count : ℕ) (h : List ℕ) : Type 0 where
  kind : ℕ
  number : ℕ
  is_container : array_kind ≤ kind
  items : items_of kind number ≡ count
  begun : (rest : List ℕ) → head_of (h ++ rest) ≡ head kind (length h) number

opened : {count : ℕ} {h : List ℕ} → Opens count h → Opened count h
opened (opens_array {n = n} x) = record { kind = array_kind; number = n; is_container = omega arith; items = refl; begun = array_begins x }
opened (opens_map {n = n} x) = record { kind = map_kind; number = n; is_container = omega arith; items = refl; begun = map_begins x }

-- items that are whole, and those after them
after_whole : {vs : Values} {e : List ℕ} → EncodesValues vs e → (a : ℕ) → values_depth vs ≤ a → (more : ℕ) (t : List ℕ)
    → pass_items (pass_item a) more t ≡ too_deep → pass_items (pass_item a) (count_values vs + more) (e ++ t) ≡ too_deep
unfolding pass_items
after_whole none a d more t p = let z : 0 + more ≡ more = omega arith in rw z p
after_whole (next {vs = vs} {e = e} {f = f} x xs) a d more t p =
    let z : suc (count_values vs) + more ≡ suc (count_values vs + more) = omega arith in
    rw (z, append_assoc e f t, complete x a (omega arith) (f ++ t), drop-append_seam e (f ++ t), after_whole xs a (omega arith) more t p)

first_deep : (item : List ℕ → Passage) (more : ℕ) (t : List ℕ) → item t ≡ too_deep → pass_items item (suc more) t ≡ too_deep
unfolding pass_items
first_deep item more t p = rw p

pub deep : {a : ℕ} {s : List ℕ} → TooDeep a s → pass_item a s ≡ too_deep
deep (here {h = h} x rest) = let o =
    opened x in sym (too_deep_lem 0 (h ++ rest) (head o.kind (length h) o.number) (sym (o.begun rest)) o.is_container refl)
deep (inside {a = a} {count = count} {h = h} {e = e} {t = t} {vs = vs} x xs d l y) =
    let o = opened x in
    let more : ℕ = count - suc (count_values vs) in
    let z : count ≡ count_values vs + suc more = omega arith in
    let p : pass_items (pass_item a) count (e ++ t) ≡ too_deep = rw z (after_whole xs a d (suc more) t (first_deep (pass_item a) more t (deep y))) in
    sym (within_container a (h ++ (e ++ t)) (head o.kind (length h) o.number) (sym (o.begun (e ++ t))) o.is_container)
    ∙ rw (drop-append_seam h (e ++ t), o.items, p)

-- ---- where the definition says so

-- the first item that is too deep, and those before it
record First (a count : ℕ) (s : List ℕ) : Type 0 where
  before : List ℕ
  after : List ℕ
  values : Values
  split : s ≡ before ++ after
  encoded : EncodesValues values before
  shallow : values_depth values ≤ a
  fewer : count_values values < count
  too_deep_there : pass_item a after ≡ too_deep
  bytes_after : AllBytes after

module _ (a : ℕ) where
  one_earlier : (count n : ℕ) (s : List ℕ) → EncodesWithin a (take n s) → First a count (drop n s) → First a (suc count) s
  one_earlier count n s x y = record {
    before = take n s ++ y.before;
    after = y.after;
    values = value x.value y.values;
    split = sym (take-append-drop n s) ∙ ap (λ t. take n s ++ t) y.split ∙ sym (append_assoc (take n s) y.before y.after);
    encoded = next x.encoded y.encoded;
    shallow = omega (arith, x.shallow, y.shallow);
    fewer = omega (arith, y.fewer);
    too_deep_there = y.too_deep_there;
    bytes_after = y.bytes_after;
  }

  first_by : (count : ℕ) (s : List ℕ) → ((t : List ℕ) → AllBytes t → pass_items (pass_item a) count t ≡ too_deep → First a count t) → AllBytes s
      → (r : Passage) → pass_item a s ≡ r → and_then r (λ n. pass_items (pass_item a) count (drop n s)) ≡ too_deep → First a (suc count) s
  first_by count s more bytes (whole n) e q = one_earlier count n s (sound a s n bytes e)
      (more (drop n s) (drop_bytes n bytes) (beyond_deep n (pass_items (pass_item a) count (drop n s)) q))
  first_by count s more bytes cut e q = absurd_numbers (cc)
  first_by count s more bytes too_deep e q =
      record {
        before = [];
        after = s;
        values = no_values_lem;
        split = refl;
        encoded = none;
        shallow = omega arith;
        fewer = omega arith;
        too_deep_there = e;
        bytes_after = bytes;
      }

  first_item : (count : ℕ) (s : List ℕ) → AllBytes s → pass_items (pass_item a) count s ≡ too_deep → First a count s
  unfolding pass_items
  first_item zero s bytes p = absurd_numbers (cc)
  first_item (suc count) s bytes p = first_by count s (first_item count) bytes (pass_item a s) refl p

-- a container's head at the front
opens_front : (s : List ℕ) (h : Head) → Front s h → array_kind ≤ h.kind → Opens (items_of h.kind h.count) (take h.size s)
opens_front s h (no_item g z) l = absurd (omega arith)
opens_front s h (scalar_item kind size count k x) l = absurd (omega arith)
opens_front s h (array_item size count k x) l = opens_array x
opens_front s h (map_item_lem size count k x) l = opens_map x

deep_inside : (a : ℕ) → ((s : List ℕ) → AllBytes s → pass_item a s ≡ too_deep → TooDeep a s) → (s : List ℕ) (size count : ℕ)
    → AllBytes s → Opens count (take size s) → pass_items (pass_item a) count (drop size s) ≡ too_deep → TooDeep (suc a) s
deep_inside a more s size count bytes x p =
    let f = first_item a count (drop size s) (drop_bytes size bytes) p in
    rw (← f.split, take-append-drop) at (inside x f.encoded f.shallow f.fewer (more f.after f.bytes_after f.too_deep_there))

pub deep_means : (a : ℕ) (s : List ℕ) → AllBytes s → pass_item a s ≡ too_deep → TooDeep a s
unfolding pass_item
deep_means zero s bytes p =
    let d = head_deep _ (head_of s) s p in
    rw take-append-drop at (here (opens_front s (head_of s) (front_read s bytes) d.0) (drop (head_of s).size s))
deep_means (suc a) s bytes p =
    let d = head_deep _ (head_of s) s p in
    deep_inside a (deep_means a) s (head_of s).size (items_of (head_of s).kind (head_of s).count) bytes
    (opens_front s (head_of s) (front_read s bytes) d.0) d.1

-- ---- every encoding of a value that is deeper than the allowance

abbrev Deep : Value → List ℕ → Type 0
Deep v e = (a : ℕ) → a < depth v → (rest : List ℕ) → pass_item a (e ++ rest) ≡ too_deep

abbrev ValuesDeep : Values → List ℕ → Type 0
ValuesDeep vs e = (a : ℕ) → a < values_depth vs → (rest : List ℕ) → pass_items (pass_item a) (count_values vs) (e ++ rest) ≡ too_deep

abbrev PairsDeep : Pairs → List ℕ → Type 0
PairsDeep ps e = (a : ℕ) → a < pairs_depth ps → (rest : List ℕ) → pass_items (pass_item a) (count_pairs ps + count_pairs ps) (e ++ rest) ≡ too_deep

container_deep : {count inner : ℕ} {h : List ℕ} → Opens count h → (e : List ℕ)
    → ((a : ℕ) → a < inner → (rest : List ℕ) → pass_items (pass_item a) count (e ++ rest) ≡ too_deep)
    → (a : ℕ) → a < suc inner → (rest : List ℕ) → pass_item a ((h ++ e) ++ rest) ≡ too_deep
container_deep {h = h} x e p zero l rest = rw append_assoc (deep (here x (e ++ rest)))
container_deep {h = h} x e p (suc a) l rest =
    let o = opened x in
    rw append_assoc
    (sym (within_container a (h ++ (e ++ rest)) (head o.kind (length h) o.number) (sym (o.begun (e ++ rest))) o.is_container)
    ∙ rw (drop-append_seam h (e ++ rest), o.items, p a (omega arith) rest))

-- an item, and those after it: one of them is too deep
item_deep : {v : Value} {e : List ℕ} → Encodes v e → Deep v e → (a count : ℕ) (t : List ℕ)
    → (depth v ≤ a → pass_items (pass_item a) count t ≡ too_deep) → pass_items (pass_item a) (suc count) (e ++ t) ≡ too_deep
unfolding pass_items
item_deep {v = v} {e = e} x p a count t q = by (leb (depth v) a) refl
  where
    by : (b : Bool) → leb (depth v) a ≡ b → pass_items (pass_item a) (suc count) (e ++ t) ≡ too_deep
    by true l = rw (complete x a (leb-true _ _ l) t, drop-append_seam e t, q (leb-true _ _ l))
    by false l = rw (p a (leb-false _ _ l) t)

next_deep : {v : Value} {e : List ℕ} (vs : Values) (f : List ℕ) → Encodes v e → Deep v e → ValuesDeep vs f → ValuesDeep (value v vs) (e ++ f)
next_deep vs f x p q a l rest = rw append_assoc (item_deep x p a (count_values vs) (f ++ rest) λ d. q a (omega arith) rest)

pair_deep : {k v : Value} {e f : List ℕ} (ps : Pairs) (g : List ℕ) → Encodes k e → Deep k e → Encodes v f → Deep v f
    → PairsDeep ps g → PairsDeep (pair k v ps) (e ++ (f ++ g))
pair_deep {e = e} {f = f} ps g x p y q r a l rest =
    let twice : suc (count_pairs ps) + suc (count_pairs ps) ≡ suc (suc (count_pairs ps + count_pairs ps)) = omega arith in
    let joined : (e ++ (f ++ g)) ++ rest ≡ e ++ (f ++ (g ++ rest)) = simp append_assoc in
    rw (twice, joined)
    (item_deep x p a (suc (count_pairs ps + count_pairs ps)) (f ++ (g ++ rest)) λ d. item_deep y q a (count_pairs ps + count_pairs ps)
    (g ++ rest) λ c. r a (omega arith) rest)

-- the counterpart of `complete`
pub deeper : {v : Value} {e : List ℕ} → Encodes v e → (a : ℕ) → a < depth v → (rest : List ℕ) → pass_item a (e ++ rest) ≡ too_deep
deeper x = elim x as (λ v e y. Deep v e) (λ vs e y. ValuesDeep vs e) (λ ps e y. PairsDeep ps e) [
  | scalar s ↦ λ a l rest. absurd (omega (arith, scalar_depth s))
  | array {e = e} x (es → p) ↦ container_deep (opens_array x) e p
  | map {e = e} x (es → p) ↦ container_deep (opens_map x) e p
  | none ↦ λ a l rest. absurd (omega arith)
  | next {vs = vs} {f = f} (y → p) (ys → q) ↦ next_deep vs f y p q
  | no_pair ↦ λ a l rest. absurd (omega arith)
  | next_pair {ps = ps} {g = g} (y → p) (z → q) (ys → r) ↦ pair_deep ps g y p z q r
]
