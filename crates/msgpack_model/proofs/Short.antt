-- THE MEANING OF THE SHORT FORM (request 8), over MessagePack's values: of a head, and of an item with everything in it.
use Rattle.std.specs.Prelude.{ℕ, zero, suc, ◌+◌, ◌^◌, ◌≤◌, ◌<◌, Bool, true, false, List, ◌++◌, ◌↔◌, ◌≡◌, refl, leb, length, drop}
use Rattle.std.proofs.Common.{append_assoc, sym, ◌∙◌, not-suc-le-zero, arith, leb-true, leb-false, length-append}
use Rattle.std.proofs.Math.Seq.{drop-append_seam}
use Rattle.slices.specs.Logic.{absurd_numbers}
use Rattle.msgpack.specs.Formats.{array_kind, map_kind}
use Rattle.msgpack.specs.Items.{Passage, whole, head, head_of, items_of, beyond, pass_items, pass_item, depth_allowed}
use Rattle.msgpack.specs.PassingLaws.{too_deep_lem, beyond_whole, joined}
use Rattle.msgpack_heads.specs.Heads.{array_head, map_head}
use Rattle.msgpack_forms.specs.Items.{form_at, short_item, all_short}
use Rattle.msgpack_forms.specs.ShortLaws.{short_flat, short_within, short_whole, all_short_lem, is_all_short}
use Rattle.msgpack_model.specs.Values.{Value, Array, Map, Values, value, Pairs, pair, count_values, count_pairs, depth, values_depth, pairs_depth}
use Rattle.msgpack_model.specs.Encoding.{ArrayHead, MapHead, Scalar, Encodes, scalar, array, map, none, next, no_pair, next_pair}
use Rattle.msgpack_model.specs.Heads.{Begins, array_begins, map_begins}
use Rattle.msgpack_model.proofs.Complete.{complete}
use Rattle.msgpack_model.proofs.Deep.{deeper}
use Rattle.msgpack_model.proofs.Sound.{scalar_depth}
use Rattle.msgpack_model.specs.Writers.{array_head_lem, map_head_lem, array_head_shortest, map_head_shortest}
use Rattle.msgpack_model.specs.Shorts.{Verdict, same, longer, array_verdict, map_verdict}
use Rattle.msgpack_model.specs.Encoded.{encoded, encoded_values, encoded_pairs, SignedPlus, WellSigned, well_scalar, well_array, well_map, well_encodes, map_form, ScalarVerdict, is_encoded, is_longer, is_signed_lem, array_small, map_small, signed_plus}
use Rattle.msgpack_model.proofs.Encoded.{scalar_flat_kind, array_form, scalar_verdict, encoded_well, encoded_least, well_least}
use Rattle.msgpack_model.specs.Short.{Shortest, by_verdict, verdict_least, map_head_short}

-- ---- a head

pub array_head_short : {n : ℕ} {h : List ℕ} → ArrayHead n h → (rest : List ℕ) → (form_at (h ++ rest)).short ≡ true ↔ Shortest (ArrayHead n) h
array_head_short {n} {h} x rest = rw (array_form x rest)
    (by_verdict (ArrayHead n) h (array_head n) _ (array_head_lem n (array_small x)) (λ g y. verdict_least (array_verdict y)) (array_verdict x))

-- the bytes themselves are no such form
pub well_not : {v : Value} {e : List ℕ} → WellSigned v e → SignedPlus v e → ⊥
well_not (well_scalar y n) z = n z
well_not (well_array y ys) z = let p = (signed_plus z).0 in absurd_numbers (cc)
well_not (well_map y ys) z = let p = (signed_plus z).0 in absurd_numbers (cc)

-- a scalar is its head and its content; of an integer also that it stands in no signed form where it is at least 0
pub scalar_short : {v : Value} {e : List ℕ} → Scalar v e → (rest : List ℕ)
    → (form_at (e ++ rest)).short ≡ true ↔ (Shortest (Encodes v) e × (SignedPlus v e → ⊥))
scalar_short {v} {e} x rest = by (form_at (e ++ rest)).short (scalar_verdict x rest)
  where
    by : (s : Bool) → ScalarVerdict s v e → s ≡ true ↔ (Shortest (Encodes v) e × (SignedPlus v e → ⊥))
    by s (is_encoded t q) = (λ e. (λ g y. rw q (encoded_least y), not_signed), λ y. t)
      where
        not_signed : SignedPlus v e → ⊥
        not_signed = rw q (well_not (encoded_well (scalar x)))
    by s (is_longer t l) = (λ (e : s ≡ true). absurd_numbers (cc), λ y. absurd (let k = y.0 (encoded v) (well_encodes (encoded_well (scalar x))) in omega arith))
    by s (is_signed_lem t z l) = (λ (e : s ≡ true). absurd_numbers (cc), λ y. absurd (y.1 z))

-- ---- an item with everything in it

-- a whole item at the front is the encoding there
whole_length : {v : Value} {e : List ℕ} → Encodes v e → (a : ℕ) (rest : List ℕ) (n : ℕ) → pass_item a (e ++ rest) ≡ whole n → n ≡ length e
whole_length {v} {e} x a rest n p = by (leb (depth v) a) refl
  where
    by : (t : Bool) → leb (depth v) a ≡ t → n ≡ length e
    by true l = let q = complete x a (leb-true _ _ l) rest in cc
    by false l = let q = deeper x a (leb-false _ _ l) rest in absurd_numbers (cc)

-- what all forms being short says
abbrev Means : Value → List ℕ → Type 0
Means v e = (a : ℕ) (rest : List ℕ) (n : ℕ) → short_item a (e ++ rest) ≡ whole n → e ≡ encoded v

abbrev ValuesMean : Values → List ℕ → Type 0
ValuesMean vs e = (a : ℕ) (rest : List ℕ) (n : ℕ) → pass_items (short_item a) (count_values vs) (e ++ rest) ≡ whole n → e ≡ encoded_values vs

abbrev PairsMean : Pairs → List ℕ → Type 0
PairsMean ps e = (a : ℕ) (rest : List ℕ) (n : ℕ) → pass_items (short_item a) (count_pairs ps + count_pairs ps) (e ++ rest) ≡ whole n → e ≡ encoded_pairs ps

scalar_means : {v : Value} {e : List ℕ} → Scalar v e → Means v e
scalar_means {v} {e} x a rest n p = by (form_at (e ++ rest)).short (short_whole a (e ++ rest) n p).short (scalar_verdict x rest)
  where
    by : (s : Bool) → s ≡ true → ScalarVerdict s v e → e ≡ encoded v
    by s t (is_encoded u q) = q
    by s t (is_longer u l) = absurd_numbers (cc)
    by s t (is_signed_lem u y l) = absurd_numbers (cc)

-- what follows a container's head
record ItemsLeft (count : ℕ) (s : List ℕ) : Type 0 where
  inner : ℕ
  size : ℕ
  is : pass_items (short_item inner) count s ≡ whole size

items_left : (kind count : ℕ) (h e rest : List ℕ) → array_kind ≤ kind → Begins kind h count → (a n : ℕ) → short_item a ((h ++ e) ++ rest) ≡ whole n
    → ItemsLeft (items_of kind count) (e ++ rest)
items_left kind count h e rest l begun zero n p =
    let w = (short_whole 0 ((h ++ e) ++ rest) n p).passed in
    let q : pass_item 0 (h ++ (e ++ rest)) ≡ whole n = rw append_assoc at w in
    let d = too_deep_lem 0 (h ++ (e ++ rest)) (head kind (length h) count) (sym (begun (e ++ rest))) l refl in
    absurd_numbers (cc)
items_left kind count h e rest l begun (suc a) n p =
    let q : short_item (suc a) (h ++ (e ++ rest)) ≡ whole n = rw append_assoc at p in
    let short = (short_whole (suc a) (h ++ (e ++ rest)) n q).short in
    let here : array_kind ≤ (head_of (h ++ (e ++ rest))).kind = rw (begun (e ++ rest)) l in
    let known : beyond (length h) (pass_items (short_item a) (items_of kind count) (e ++ rest)) ≡ whole n
    = rw (begun (e ++ rest), drop-append_seam h (e ++ rest)) at (sym (short_within (h ++ (e ++ rest)) short a here) ∙ q) in
    let b = beyond_whole (length h) (pass_items (short_item a) (items_of kind count) (e ++ rest)) n known in
    record { inner = a; size = b.after; is = b.rest }

-- a container's head is the writer's
array_front : {n : ℕ} {h : List ℕ} → ArrayHead n h → (e rest : List ℕ) (a m : ℕ) → short_item a ((h ++ e) ++ rest) ≡ whole m → h ≡ array_head n
array_front {n} {h} x e rest a m p =
    let q : short_item a (h ++ (e ++ rest)) ≡ whole m = rw append_assoc at p in
    by (array_form x (e ++ rest)) (short_whole a (h ++ (e ++ rest)) m q).short (array_verdict x)
  where
    by : {s t : Bool} → t ≡ s → t ≡ true → Verdict s h (array_head n) → h ≡ array_head n
    by e f (same u q) = q
    by e f (longer u l) = absurd_numbers (cc)

map_front : {n : ℕ} {h : List ℕ} → MapHead n h → (e rest : List ℕ) (a m : ℕ) → short_item a ((h ++ e) ++ rest) ≡ whole m → h ≡ map_head n
map_front {n} {h} x e rest a m p =
    let q : short_item a (h ++ (e ++ rest)) ≡ whole m = rw append_assoc at p in
    by (map_form x (e ++ rest)) (short_whole a (h ++ (e ++ rest)) m q).short (map_verdict x)
  where
    by : {s t : Bool} → t ≡ s → t ≡ true → Verdict s h (map_head n) → h ≡ map_head n
    by e f (same u q) = q
    by e f (longer u l) = absurd_numbers (cc)

array_means : (vs : Values) (h e : List ℕ) → ArrayHead (count_values vs) h → ValuesMean vs e → Means (Array vs) (h ++ e)
array_means vs h e x more a rest n p =
    let i = items_left array_kind (count_values vs) h e rest (omega arith) (array_begins x) a n p in
    let first = array_front x e rest a n p in
    let second = more i.inner rest i.size i.is in
    rw (first, second)

map_means : (ps : Pairs) (h e : List ℕ) → MapHead (count_pairs ps) h → PairsMean ps e → Means (Map ps) (h ++ e)
map_means ps h e x more a rest n p =
    let i = items_left map_kind (count_pairs ps) h e rest (omega arith) (map_begins x) a n p in
    let first = map_front x e rest a n p in
    let second = more i.inner rest i.size i.is in
    rw (first, second)

-- the first of several items, and the others
record FirstItem (a count : ℕ) (e s : List ℕ) : Type 0 where
  first_size : ℕ
  first : short_item a (e ++ s) ≡ whole first_size
  others_size : ℕ
  others : pass_items (short_item a) count s ≡ whole others_size

first_item : {v : Value} {e : List ℕ} → Encodes v e → (a count : ℕ) (s : List ℕ) (n : ℕ) → pass_items (short_item a) (suc count) (e ++ s) ≡ whole n
    → FirstItem a count e s
unfolding pass_items
first_item {v} {e} x a count s n p =
    let j = joined (short_item a (e ++ s)) (λ k. pass_items (short_item a) count (drop k (e ++ s))) n p in
    let k : j.first ≡ length e = whole_length x a s j.first (short_whole a (e ++ s) j.first j.is).passed in
    record { first_size = j.first; first = j.is; others_size = j.after; others = rw (k, drop-append_seam e s) at j.rest }

next_means : {v : Value} {e : List ℕ} (vs : Values) (f : List ℕ) → Encodes v e → Means v e → ValuesMean vs f → ValuesMean (value v vs) (e ++ f)
next_means {v} {e} vs f x p q a rest n r =
    let i = first_item x a (count_values vs) (f ++ rest) n (rw append_assoc at r) in
    let first = p a (f ++ rest) i.first_size i.first in
    let second = q a rest i.others_size i.others in
    rw (first, second)

pair_means : {k v : Value} {e f : List ℕ} (ps : Pairs) (g : List ℕ) → Encodes k e → Means k e → Encodes v f → Means v f → PairsMean ps g
    → PairsMean (pair k v ps) (e ++ (f ++ g))
pair_means {k} {v} {e} {f} ps g x p y q r a rest n s =
    let twice : suc (count_pairs ps) + suc (count_pairs ps) ≡ suc (suc (count_pairs ps + count_pairs ps)) = omega arith in
    let joined_lists : (e ++ (f ++ g)) ++ rest ≡ e ++ (f ++ (g ++ rest)) = simp append_assoc in
    let i = first_item x a (suc (count_pairs ps + count_pairs ps)) (f ++ (g ++ rest)) n (rw (twice, joined_lists) at s) in
    let j = first_item y a (count_pairs ps + count_pairs ps) (g ++ rest) i.others_size i.others in
    let key = p a (f ++ (g ++ rest)) i.first_size i.first in
    let its = q a (g ++ rest) j.first_size j.first in
    let others-so = r a rest j.others_size j.others in
    rw (key, its, others-so)

means : {v : Value} {e : List ℕ} → Encodes v e → Means v e
means x = elim x as (λ v e y. Means v e) (λ vs e y. ValuesMean vs e) (λ ps e y. PairsMean ps e) [
  | scalar s ↦ scalar_means s
  | array {vs = vs} {h = h} {e = e} y (es → p) ↦ array_means vs h e y p
  | map {ps = ps} {h = h} {e = e} y (es → p) ↦ map_means ps h e y p
  | none ↦ λ a rest n p. refl
  | next {vs = vs} {f = f} (y → p) (ys → q) ↦ next_means vs f y p q
  | no_pair ↦ λ a rest n p. refl
  | next_pair {ps = ps} {g = g} (y → p) (z → q) (ys → r) ↦ pair_means ps g y p z q r
]

-- ---- and what is encoded so is short

abbrev Short : Value → Type 0
Short v = (a : ℕ) → depth v ≤ a → (rest : List ℕ) → short_item a (encoded v ++ rest) ≡ whole (length (encoded v))

abbrev ValuesShort : Values → Type 0
ValuesShort vs = (a : ℕ) → values_depth vs ≤ a → (rest : List ℕ)
    → pass_items (short_item a) (count_values vs) (encoded_values vs ++ rest) ≡ whole (length (encoded_values vs))

abbrev PairsShort : Pairs → Type 0
PairsShort ps = (a : ℕ) → pairs_depth ps ≤ a → (rest : List ℕ)
    → pass_items (short_item a) (count_pairs ps + count_pairs ps) (encoded_pairs ps ++ rest) ≡ whole (length (encoded_pairs ps))

-- a scalar that is the writer's
well_short : {v : Value} {e : List ℕ} → WellSigned v e → e ≡ encoded v → depth v ≡ 0 → (a : ℕ) (rest : List ℕ) → short_item a (e ++ rest) ≡ whole (length e)
well_short {v} {e} (well_scalar x n) q d a rest =
    let t = (scalar_short x rest).1 (λ g y. rw q (encoded_least y), n) in
    short_flat (e ++ rest) t a (scalar_flat_kind x rest) ∙ complete (scalar x) a (omega (arith, d)) rest
well_short (well_array x xs) q d a rest = absurd (omega (arith, d))
well_short (well_map x xs) q d a rest = absurd (omega (arith, d))

scalar_is_short : {v : Value} {e : List ℕ} → Scalar v e → Short v
scalar_is_short x a d rest = well_short (encoded_well (scalar x)) refl (scalar_depth x) a rest

-- a container whose head is the writer's
container_short : (kind count : ℕ) (h e : List ℕ) → array_kind ≤ kind → Begins kind h count → (a : ℕ) (rest : List ℕ)
    → (form_at (h ++ (e ++ rest))).short ≡ true → pass_items (short_item a) (items_of kind count) (e ++ rest) ≡ whole (length e)
    → short_item (suc a) ((h ++ e) ++ rest) ≡ whole (length (h ++ e))
container_short kind count h e l begun a rest short p =
    let here : array_kind ≤ (head_of (h ++ (e ++ rest))).kind = rw (begun (e ++ rest)) l in
    rw (append_assoc h e rest, length-append h e) (short_within (h ++ (e ++ rest)) short a here ∙ rw (begun (e ++ rest), drop-append_seam h (e ++ rest), p))

array_short : (vs : Values) → count_values vs < 2 ^ 32 → ValuesShort vs → Short (Array vs)
array_short vs small more zero d rest = absurd (not-suc-le-zero d)
array_short vs small more (suc a) d rest =
    let x = array_head_lem (count_values vs) small in
    container_short array_kind (count_values vs) (array_head (count_values vs)) (encoded_values vs) (omega arith) (array_begins x) a rest
    ((array_head_short x (encoded_values vs ++ rest)).1 (λ g y. array_head_shortest y)) (more a (omega arith) rest)

map_short : (ps : Pairs) → count_pairs ps < 2 ^ 32 → PairsShort ps → Short (Map ps)
map_short ps small more zero d rest = absurd (not-suc-le-zero d)
map_short ps small more (suc a) d rest =
    let x = map_head_lem (count_pairs ps) small in
    container_short map_kind (count_pairs ps) (map_head (count_pairs ps)) (encoded_pairs ps) (omega arith) (map_begins x) a rest
    ((map_head_short x (encoded_pairs ps ++ rest)).1 (λ g y. map_head_shortest y)) (more a (omega arith) rest)

next_short : (item : List ℕ → Passage) (count : ℕ) (e f rest : List ℕ) → item (e ++ (f ++ rest)) ≡ whole (length e)
    → pass_items item count (f ++ rest) ≡ whole (length f) → pass_items item (suc count) ((e ++ f) ++ rest) ≡ whole (length (e ++ f))
unfolding pass_items
next_short item count e f rest p q = rw (append_assoc e f rest, p, drop-append_seam e (f ++ rest), q, length-append e f)

pair_short : (k v : Value) (ps : Pairs) → Short k → Short v → PairsShort ps → PairsShort (pair k v ps)
pair_short k v ps p q r a d rest =
    let twice : suc (count_pairs ps) + suc (count_pairs ps) ≡ suc (suc (count_pairs ps + count_pairs ps)) = omega arith in
    rw twice (next_short (short_item a) (suc (count_pairs ps + count_pairs ps)) (encoded k) (encoded v ++ encoded_pairs ps) rest
    (p a (omega arith) ((encoded v ++ encoded_pairs ps) ++ rest))
    (next_short (short_item a) (count_pairs ps + count_pairs ps) (encoded v) (encoded_pairs ps) rest (q a (omega arith) (encoded_pairs ps ++ rest)) (r a (omega arith) rest)))

none_short : (item : List ℕ → Passage) (s : List ℕ) → pass_items item 0 s ≡ whole 0
unfolding pass_items
none_short item s = refl

shorts : {v : Value} {e : List ℕ} → Encodes v e → Short v
shorts x = elim x as (λ v e y. Short v) (λ vs e y. ValuesShort vs) (λ ps e y. PairsShort ps) [
  | scalar s ↦ scalar_is_short s
  | array {vs = vs} y (es → p) ↦ array_short vs (array_small y) p
  | map {ps = ps} y (es → p) ↦ map_short ps (map_small y) p
  | none ↦ λ a d rest. none_short (short_item a) rest
  | next {v = v} {vs = vs} (y → p) (ys → q) ↦ λ a d rest. next_short (short_item a) (count_values vs) (encoded v) (encoded_values vs) rest
      (p a (omega arith) (encoded_values vs ++ rest)) (q a (omega arith) rest)
  | no_pair ↦ λ a d rest. none_short (short_item a) rest
  | next_pair {k = k} {v = v} {ps = ps} (y → p) (z → q) (ys → r) ↦ pair_short k v ps p q r
]

-- ---- all forms

-- an encoding all of whose forms are short is the one that the writer's heads make: two of one value are the same bytes
pub all_short_encoded : {v : Value} {e : List ℕ} → Encodes v e → (rest : List ℕ) → all_short (e ++ rest) ≡ true → e ≡ encoded v
all_short_encoded {v} {e} x rest p = let s = all_short_lem (e ++ rest) p in means x depth_allowed rest s.size s.is

pub encoded_all_short : {v : Value} {e : List ℕ} → Encodes v e → depth v ≤ depth_allowed → (rest : List ℕ) → all_short (encoded v ++ rest) ≡ true
encoded_all_short {v} x d rest = is_all_short (encoded v ++ rest) (length (encoded v)) (shorts x depth_allowed d rest)

pub short_once : {v : Value} {e f : List ℕ} → Encodes v e → Encodes v f → (r q : List ℕ) → all_short (e ++ r) ≡ true → all_short (f ++ q) ≡ true → e ≡ f
short_once x y r q s t = all_short_encoded x r s ∙ sym (all_short_encoded y q t)

-- all forms of an item are short exactly when no encoding of its value has fewer bytes, and no integer of at least 0 in it stands in a signed form
pub all_short_exactly : {v : Value} {e : List ℕ} → Encodes v e → depth v ≤ depth_allowed → (rest : List ℕ)
    → all_short (e ++ rest) ≡ true ↔ (((f : List ℕ) → Encodes v f → length e ≤ length f) × WellSigned v e)
all_short_exactly {v} {e} x d rest = (there, λ y. back y.0 y.1)
  where
    there : all_short (e ++ rest) ≡ true → ((f : List ℕ) → Encodes v f → length e ≤ length f) × WellSigned v e
    there s = let q = all_short_encoded x rest s in (λ f y. rw q (encoded_least y), rw q (encoded_well x))

    back : ((f : List ℕ) → Encodes v f → length e ≤ length f) → WellSigned v e → all_short (e ++ rest) ≡ true
    back least well =
        let q : e ≡ encoded v = (well_least well).only (least (encoded v) (well_encodes (encoded_well x))) in
        rw q (encoded_all_short x d rest)
