-- Every encoding is passed over, whatever follows it.
use Rattle.std.specs.Prelude.{ℕ, zero, suc, ◌+◌, ◌≤◌, List, ◌++◌, ◌≡◌, refl, length}
use Rattle.std.proofs.Common.{append_assoc, sym, ap, ◌∙◌, not-suc-le-zero, arith, length-append}
use Rattle.std.proofs.Math.Seq.{drop-append_seam}
use Rattle.msgpack.specs.Formats.{unused_kind, array_kind, map_kind}
use Rattle.msgpack.specs.Items.{Passage, whole, head, items_of, pass_items, pass_item}
use Rattle.msgpack.specs.PassingLaws.{flat_whole, within_container}
use Rattle.msgpack_model.specs.Values.{Value, Array, Map, Values, value, Pairs, pair, count_values, count_pairs, depth, values_depth, pairs_depth}
use Rattle.msgpack_model.specs.Encoding.{ArrayHead, MapHead, Encodes, scalar, array, map, none, next, no_pair, next_pair}
use Rattle.msgpack_model.specs.Heads.{Begins, Flat, scalar_flat, array_begins, map_begins}

flat_passes : {v : Value} {e : List ℕ} → Flat v e → (a : ℕ) (rest : List ℕ) → pass_item a (e ++ rest) ≡ whole (length e)
flat_passes {e = e} f a rest =
    let s : List ℕ = f.top ++ (f.body ++ rest) in
    let joined : e ++ rest ≡ s = ap (λ l. l ++ rest) f.split ∙ append_assoc f.top f.body rest in
    let total : length e ≡ length f.top + length f.body = ap length f.split ∙ length-append f.top f.body in
    let fits : length f.top + length f.body ≤ length s = rw (length-append f.top (f.body ++ rest), length-append f.body rest) (omega arith) in
    rw (joined, total)
    (sym (flat_whole a s (head f.kind (length f.top) (length f.body)) (sym (f.begun (f.body ++ rest))) f.holds_none
    (λ (u : f.kind ≡ unused_kind). omega (arith, f.some_kind)) fits))

-- a container whose items are passed over
container_passes : (kind count : ℕ) (h e : List ℕ) → array_kind ≤ kind → Begins kind h count → (a : ℕ) (rest : List ℕ)
    → pass_items (pass_item a) (items_of kind count) (e ++ rest) ≡ whole (length e)
    → pass_item (suc a) ((h ++ e) ++ rest) ≡ whole (length (h ++ e))
container_passes kind count h e l begun a rest p =
    rw (append_assoc h e rest, length-append h e)
    (sym (within_container a (h ++ (e ++ rest)) (head kind (length h) count) (sym (begun (e ++ rest))) l) ∙ rw (drop-append_seam h (e ++ rest), p))

one_more : (item : List ℕ → Passage) (count : ℕ) (e f rest : List ℕ) → item (e ++ (f ++ rest)) ≡ whole (length e)
    → pass_items item count (f ++ rest) ≡ whole (length f)
    → pass_items item (suc count) ((e ++ f) ++ rest) ≡ whole (length (e ++ f))
unfolding pass_items
one_more item count e f rest p q = rw (append_assoc e f rest, p, drop-append_seam e (f ++ rest), q, length-append e f)

two_more : (item : List ℕ → Passage) (n : ℕ) (e f g rest : List ℕ) → item (e ++ ((f ++ g) ++ rest)) ≡ whole (length e)
    → item (f ++ (g ++ rest)) ≡ whole (length f)
    → pass_items item (n + n) (g ++ rest) ≡ whole (length g) → pass_items item (suc n + suc n) ((e ++ (f ++ g)) ++ rest) ≡ whole (length (e ++ (f ++ g)))
two_more item n e f g rest p q r =
    let twice : suc n + suc n ≡ suc (suc (n + n)) = omega arith in
    rw twice (one_more item (suc (n + n)) e (f ++ g) rest p (one_more item (n + n) f g rest q r))

no_more : (item : List ℕ → Passage) (s : List ℕ) → pass_items item 0 s ≡ whole 0
unfolding pass_items
no_more item s = refl

-- ---- by the encoding

abbrev Passes : Value → List ℕ → Type 0
Passes v e = (a : ℕ) → depth v ≤ a → (rest : List ℕ) → pass_item a (e ++ rest) ≡ whole (length e)

abbrev ValuesPass : Values → List ℕ → Type 0
ValuesPass vs e = (a : ℕ) → values_depth vs ≤ a → (rest : List ℕ) → pass_items (pass_item a) (count_values vs) (e ++ rest) ≡ whole (length e)

abbrev PairsPass : Pairs → List ℕ → Type 0
PairsPass ps e = (a : ℕ) → pairs_depth ps ≤ a → (rest : List ℕ) → pass_items (pass_item a) (count_pairs ps + count_pairs ps) (e ++ rest) ≡ whole (length e)

array_passes : (vs : Values) (h e : List ℕ) → ArrayHead (count_values vs) h → ValuesPass vs e → Passes (Array vs) (h ++ e)
array_passes vs h e x p zero d rest = absurd (not-suc-le-zero d)
array_passes vs h e x p (suc a) d rest = container_passes array_kind (count_values vs) h e (omega arith) (array_begins x) a rest (p a (omega arith) rest)

map_passes : (ps : Pairs) (h e : List ℕ) → MapHead (count_pairs ps) h → PairsPass ps e → Passes (Map ps) (h ++ e)
map_passes ps h e x p zero d rest = absurd (not-suc-le-zero d)
map_passes ps h e x p (suc a) d rest = container_passes map_kind (count_pairs ps) h e (omega arith) (map_begins x) a rest (p a (omega arith) rest)

next_passes : (v : Value) (vs : Values) (e f : List ℕ) → Passes v e → ValuesPass vs f → ValuesPass (value v vs) (e ++ f)
next_passes v vs e f p q a d rest = one_more (pass_item a) (count_values vs) e f rest (p a (omega arith) (f ++ rest)) (q a (omega arith) rest)

pair_passes : (k v : Value) (ps : Pairs) (e f g : List ℕ) → Passes k e → Passes v f → PairsPass ps g → PairsPass (pair k v ps) (e ++ (f ++ g))
pair_passes k v ps e f g p q r a d rest =
    two_more (pass_item a) (count_pairs ps) e f g rest (p a (omega arith) ((f ++ g) ++ rest)) (q a (omega arith) (g ++ rest)) (r a (omega arith) rest)

pub complete : {v : Value} {e : List ℕ} → Encodes v e → (a : ℕ) → depth v ≤ a → (rest : List ℕ) → pass_item a (e ++ rest) ≡ whole (length e)
complete x = elim x as (λ v e y. Passes v e) (λ vs e y. ValuesPass vs e) (λ ps e y. PairsPass ps e) [
  | scalar s ↦ λ a d rest. flat_passes (scalar_flat s) a rest
  | array {vs = vs} {h = h} {e = e} x (es → p) ↦ array_passes vs h e x p
  | map {ps = ps} {h = h} {e = e} x (es → p) ↦ map_passes ps h e x p
  | none ↦ λ a d rest. no_more (pass_item a) rest
  | next {v = v} {vs = vs} {e = e} {f = f} (y → p) (ys → q) ↦ next_passes v vs e f p q
  | no_pair ↦ λ a d rest. no_more (pass_item a) rest
  | next_pair {k = k} {v = v} {ps = ps} {e = e} {f = f} {g = g} (y → p) (z → q) (ys → r) ↦ pair_passes k v ps e f g p q r
]
