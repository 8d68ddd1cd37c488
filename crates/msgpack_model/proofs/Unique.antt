-- Bytes encode at most one value, and no encoding is the front of another.
use Rattle.std.specs.Prelude.{ℕ, max, List, [], ◌++◌, ◌≡◌, refl, length, take, drop}
use Rattle.std.proofs.Common.{append_assoc, append-nil, sym, ap, ◌∙◌, arith, take_at, drop_at}
use Rattle.std.proofs.Math.Nat.{le-max_left, le-max_right}
use Rattle.std.proofs.Math.Seq.{drop-append_seam, take-append_seam}
use Rattle.msgpack.specs.Items.{Head, whole, head, head_of, pass_item}
use Rattle.msgpack_model.specs.Values.{Value, Array, Map, Values, no_values_lem, value, Pairs, no_pairs, pair, count_values, count_pairs, depth}
use Rattle.msgpack_model.specs.Encoding.{ArrayHead, MapHead, Scalar, Encodes, scalar, array, map, EncodesValues, none, next, EncodesPairs, no_pair, next_pair}
use Rattle.msgpack_model.specs.Heads.{scalar_flat, array_begins, map_begins}
use Rattle.msgpack_model.proofs.Complete.{complete}
use Rattle.msgpack_model.specs.Scalars.{flat_head, flat_value}
use Rattle.msgpack_model.specs.Unique.{SameBytes}

-- ---- two encodings at the front of one list are the same bytes

seam : (e f r q : List ℕ) → length e ≡ length f → e ++ r ≡ f ++ q → SameBytes e f r q
seam e f r q l h = record {
  same = sym (take-append_seam e r) ∙ ap (take (length e)) h ∙ take_at f q (length e) (sym l);
  rest = sym (drop-append_seam e r) ∙ ap (drop (length e)) h ∙ drop_at f q (length e) (sym l);
}

pub same_bytes_lem : {v w : Value} {e f : List ℕ} → Encodes v e → Encodes w f → (r q : List ℕ) → e ++ r ≡ f ++ q → SameBytes e f r q
same_bytes_lem {v} {w} {e} {f} x y r q h =
    let a : ℕ = max (depth v) (depth w) in
    let k : pass_item a (f ++ q) ≡ whole (length e) = rw h at (complete x a (le-max_left _ _) r) in
    let l : pass_item a (f ++ q) ≡ whole (length f) = complete y a (le-max_right _ _) q in
    let len : length e ≡ length f = cc in
    seam e f r q len h

-- ---- and the same value

abbrev Unique : Value → List ℕ → Type 0
Unique v e = (w : Value) (f r q : List ℕ) → Encodes w f → e ++ r ≡ f ++ q → v ≡ w

abbrev ValuesUnique : Values → List ℕ → Type 0
ValuesUnique vs e = (ws : Values) (f r q : List ℕ) → EncodesValues ws f → count_values vs ≡ count_values ws → e ++ r ≡ f ++ q → vs ≡ ws

abbrev PairsUnique : Pairs → List ℕ → Type 0
PairsUnique ps e = (qs : Pairs) (f r q : List ℕ) → EncodesPairs qs f → count_pairs ps ≡ count_pairs qs → e ++ r ≡ f ++ q → ps ≡ qs

-- two heads at the front of one list
record SameHead (k l m n : ℕ) (h g : List ℕ) : Type 0 where
  kinds : k ≡ l
  sizes : length h ≡ length g
  counts : m ≡ n

same_head : (k l m n : ℕ) (h g s t : List ℕ) → head_of s ≡ head k (length h) m → head_of t ≡ head l (length g) n → s ≡ t → SameHead k l m n h g
same_head k l m n h g s t x y e =
    let z : head k (length h) m ≡ head l (length g) n = sym x ∙ ap head_of e ∙ y in
    record { kinds = ap (λ (u : Head). u.kind) z; sizes = ap (λ (u : Head). u.size) z; counts = ap (λ (u : Head). u.count) z }

scalar_unique : (v : Value) (e : List ℕ) → Scalar v e → Unique v e
scalar_unique v e x w f r q (scalar y) h =
    sym (flat_value (scalar_flat x) r) ∙ rw h (flat_value (scalar_flat y) q)
scalar_unique v e x w f r q (array {vs = vs} {h = g} {e = i} y ys) h =
    let s = scalar_flat x in
    let z = same_head _ _ _ _ s.top g (e ++ r) (g ++ (i ++ q)) (flat_head s r) (array_begins y (i ++ q)) (h ∙ append_assoc g i q) in
    absurd (omega (arith, s.holds_none, z.kinds))
scalar_unique v e x w f r q (map {ps = ps} {h = g} {e = i} y ys) h =
    let s = scalar_flat x in
    let z = same_head _ _ _ _ s.top g (e ++ r) (g ++ (i ++ q)) (flat_head s r) (map_begins y (i ++ q)) (h ∙ append_assoc g i q) in
    absurd (omega (arith, s.holds_none, z.kinds))

array_unique : (vs : Values) (g i : List ℕ) → ArrayHead (count_values vs) g → ValuesUnique vs i → Unique (Array vs) (g ++ i)
array_unique vs g i x more w f r q (scalar y) h =
    let s = scalar_flat y in
    let z = same_head _ _ _ _ g s.top (g ++ (i ++ r)) (f ++ q) (array_begins x (i ++ r)) (flat_head s q) (sym (append_assoc g i r) ∙ h) in
    absurd (omega (arith, s.holds_none, z.kinds))
array_unique vs g i x more w f r q (array {vs = ws} {h = k} {e = j} y ys) h =
    let t : g ++ (i ++ r) ≡ k ++ (j ++ q) = sym (append_assoc g i r) ∙ h ∙ append_assoc k j q in
    let z = same_head _ _ _ _ g k (g ++ (i ++ r)) (k ++ (j ++ q)) (array_begins x (i ++ r)) (array_begins y (j ++ q)) t in
    ap Array (more ws j r q ys z.counts (seam g k (i ++ r) (j ++ q) z.sizes t).rest)
array_unique vs g i x more w f r q (map {h = k} {e = j} y ys) h =
    let t : g ++ (i ++ r) ≡ k ++ (j ++ q) = sym (append_assoc g i r) ∙ h ∙ append_assoc k j q in
    let z = same_head _ _ _ _ g k (g ++ (i ++ r)) (k ++ (j ++ q)) (array_begins x (i ++ r)) (map_begins y (j ++ q)) t in
    absurd (omega (arith, z.kinds))

map_unique : (ps : Pairs) (g i : List ℕ) → MapHead (count_pairs ps) g → PairsUnique ps i → Unique (Map ps) (g ++ i)
map_unique ps g i x more w f r q (scalar y) h =
    let s = scalar_flat y in
    let z = same_head _ _ _ _ g s.top (g ++ (i ++ r)) (f ++ q) (map_begins x (i ++ r)) (flat_head s q) (sym (append_assoc g i r) ∙ h) in
    absurd (omega (arith, s.holds_none, z.kinds))
map_unique ps g i x more w f r q (array {h = k} {e = j} y ys) h =
    let t : g ++ (i ++ r) ≡ k ++ (j ++ q) = sym (append_assoc g i r) ∙ h ∙ append_assoc k j q in
    let z = same_head _ _ _ _ g k (g ++ (i ++ r)) (k ++ (j ++ q)) (map_begins x (i ++ r)) (array_begins y (j ++ q)) t in
    absurd (omega (arith, z.kinds))
map_unique ps g i x more w f r q (map {ps = qs} {h = k} {e = j} y ys) h =
    let t : g ++ (i ++ r) ≡ k ++ (j ++ q) = sym (append_assoc g i r) ∙ h ∙ append_assoc k j q in
    let z = same_head _ _ _ _ g k (g ++ (i ++ r)) (k ++ (j ++ q)) (map_begins x (i ++ r)) (map_begins y (j ++ q)) t in
    ap Map (more qs j r q ys z.counts (seam g k (i ++ r) (j ++ q) z.sizes t).rest)

values_unique_none : ValuesUnique no_values_lem []
values_unique_none ws f r q none l h = refl
values_unique_none ws f r q (next y ys) l h = absurd (omega arith)

values_unique_next : (v : Value) (vs : Values) (e i : List ℕ) → Encodes v e → Unique v e → ValuesUnique vs i → ValuesUnique (value v vs) (e ++ i)
values_unique_next v vs e i x one more ws f r q none l h = absurd (omega arith)
values_unique_next v vs e i x one more ws f r q (next {v = w} {vs = us} {e = d} {f = j} y ys) l h =
    let t : e ++ (i ++ r) ≡ d ++ (j ++ q) = sym (append_assoc e i r) ∙ h ∙ append_assoc d j q in
    let first = one w d (i ++ r) (j ++ q) y t in
    let fewer : count_values vs ≡ count_values us = omega arith in
    let others = more us j r q ys fewer (same_bytes_lem x y (i ++ r) (j ++ q) t).rest in
    cc

pairs_unique_none : PairsUnique no_pairs []
pairs_unique_none qs f r q no_pair l h = refl
pairs_unique_none qs f r q (next_pair y z ys) l h = absurd (omega arith)

pairs_unique_next : (l v : Value) (ps : Pairs) (d e i : List ℕ) → Encodes l d → Encodes v e → Unique l d → Unique v e
    → PairsUnique ps i → PairsUnique (pair l v ps) (d ++ (e ++ i))
pairs_unique_next l v ps d e i x y key one more qs f r q no_pair c h = absurd (omega arith)
pairs_unique_next l v ps d e i x y key one more qs f r q (next_pair {k = k} {v = w} {ps = us} {e = a} {f = b} {g = j} u z ys) c h =
    let left : (d ++ (e ++ i)) ++ r ≡ d ++ (e ++ (i ++ r)) = simp append_assoc in
    let right : (a ++ (b ++ j)) ++ q ≡ a ++ (b ++ (j ++ q)) = simp append_assoc in
    let t : d ++ (e ++ (i ++ r)) ≡ a ++ (b ++ (j ++ q)) = sym left ∙ h ∙ right in
    let first = key k a (e ++ (i ++ r)) (b ++ (j ++ q)) u t in
    let s = (same_bytes_lem x u (e ++ (i ++ r)) (b ++ (j ++ q)) t).rest in
    let second = one w b (i ++ r) (j ++ q) z s in
    let fewer : count_pairs ps ≡ count_pairs us = omega arith in
    let others = more us j r q ys fewer (same_bytes_lem y z (i ++ r) (j ++ q) s).rest in
    cc

pub unique : {v w : Value} {e f : List ℕ} → Encodes v e → Encodes w f → (r q : List ℕ) → e ++ r ≡ f ++ q → v ≡ w
unique {w = w} {f = f} x y r q h = every x w f r q y h
  where
    every : {v : Value} {e : List ℕ} → Encodes v e → Unique v e
    every x = elim x as (λ v e y. Unique v e) (λ vs e y. ValuesUnique vs e) (λ ps e y. PairsUnique ps e) [
      | scalar {v = v} {e = e} s ↦ scalar_unique v e s
      | array {vs = vs} {h = g} {e = i} x (es → p) ↦ array_unique vs g i x p
      | map {ps = ps} {h = g} {e = i} x (es → p) ↦ map_unique ps g i x p
      | none ↦ values_unique_none
      | next {v = v} {vs = vs} {e = e} {f = i} (y → p) (ys → q) ↦ values_unique_next v vs e i y p q
      | no_pair ↦ pairs_unique_none
      | next_pair {k = k} {v = v} {ps = ps} {e = d} {f = e} {g = i} (y → p) (z → q) (ys → r) ↦ pairs_unique_next k v ps d e i y z p q r
    ]

-- a list of bytes encodes at most one value
pub one_value : {v w : Value} {e : List ℕ} → Encodes v e → Encodes w e → v ≡ w
one_value x y = unique x y [] [] refl

-- no encoding is the front of another
pub prefix_free : {v w : Value} {e : List ℕ} (r : List ℕ) → Encodes v e → Encodes w (e ++ r) → r ≡ []
prefix_free {e = e} r x y = (same_bytes_lem x y r [] (sym (append-nil (e ++ r)))).rest
