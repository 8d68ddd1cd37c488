-- The encoding that the writer's heads make of a value, and those of the integers and extensions that it has no use for: it is one, no integer of at least 0
-- in it stands in a signed form, and none is shorter.
use Rattle.std.specs.Prelude.{ℕ, suc, ◌+◌, ◌-◌, ◌^◌, ◌≤◌, ◌<◌, Bool, true, false, cond, ◌&&◌, List, [], ◌∷◌, ◌++◌, ◌≡◌, refl, leb, length, get_or}
use Rattle.std.proofs.Common.{append_assoc, sym, ap, ◌∙◌, arith, eq-eqb, ne_eqb, leb-true, length-append}
use Rattle.slices.specs.Logic.{absurd_numbers}
use Rattle.slices.specs.Tables.{agree}
use Rattle.endian.specs.Numbers.{big_bytes, little_bytes}
use Rattle.msgpack.specs.Formats.{integer_kind, array_kind, formats, format_of}
use Rattle.msgpack.specs.Items.{Head, head_of}
use Rattle.msgpack.specs.Readers.{Int, plus, minus}
use Rattle.msgpack_heads.specs.Heads.{form, form_bytes, unsigned_form, text_head, binary_head, unsigned_integer, array_head, map_head}
use Rattle.msgpack.specs.Short.{fixed_holds, short_width, argument_width, is_signed, signed_well, is_short}
use Rattle.msgpack_forms.specs.Items.{argument_of, argument_at, form_at}
use Rattle.msgpack_model.specs.Values.{Value, Nil, Boolean, Integer, Float, Text, Binary, Extension, Array, Map, count_values, count_pairs}
use Rattle.msgpack_model.specs.Encoding.{Signed, non_negative, negative, ArrayHead, fixarray, array16, array32, Scalar, nil, false_byte, true_byte, positive_fixint, negative_fixint, uint8, uint16, uint32, uint64, int8, int16, int32, int64, float32, float64, text, binary, extension, Encodes, scalar, array, map, none, next, no_pair, next_pair}
use Rattle.msgpack_model.specs.Heads.{array_begins, scalar_of, Flat, scalar_flat}
use Rattle.msgpack_model.specs.Scalars.{flat_head}
use Rattle.msgpack_model.proofs.Readers.{integer_reads}
use Rattle.msgpack_model.specs.Writers.{number_written, by_test, sized_by, text_head_lem, binary_head_lem, array_head_lem, map_head_lem, unsigned_written, unsigned_shortest, array_head_shortest, map_head_shortest}
use Rattle.msgpack_model.specs.Range.{plus_range, minus_range}
use Rattle.msgpack_model.specs.Shorts.{extension_head, negative_form, negative_integer, Verdict, same, longer, text_verdict, binary_verdict, extension_verdict, array_verdict, map_verdict, fixed_unsigned, unsigned_row_1, unsigned_row_2, unsigned_row_4, unsigned_row_8, fixed_negative}
use Rattle.msgpack_model.proofs.Shorts.{negative_row_1, negative_row_2, negative_row_4, negative_row_8}
use Rattle.msgpack_model.specs.Encoded.{encoded_integer, encoded, encoded_values, encoded_pairs, SignedPlus, in_int8, in_int16, in_int32, in_int64, WellSigned, well_scalar, well_array, well_map, WellSignedValues, well_none, well_next, WellSignedPairs, well_no_pair, well_pair, other_front, text_form_lem, binary_form, extension_form_lem, ScalarVerdict, is_encoded, is_longer, is_signed_lem, text_small, binary_small, extension_small, array_small, map_small, extension_head_lem, is_plus, signed_plus, Least}

-- ---- the form at the front of an encoding

array_some : {n : ℕ} {h : List ℕ} → ArrayHead n h → 0 < length h
array_some (fixarray n k) = omega arith
array_some (array16 x) = omega arith
array_some (array32 x) = omega arith

pub array_form : {n : ℕ} {h : List ℕ} → ArrayHead n h → (t : List ℕ) → (form_at (h ++ t)).short ≡ is_short (get_or h 0 0) (plus n)
unfolding argument_of
array_form {n} {h} x t = other_front array_kind h t n n (array_begins x t) (λ e. omega arith) (array_some x) refl

-- the kind of a scalar's head
abbrev kind_of_value : Value → ℕ
kind_of_value Nil = 1
kind_of_value (Boolean b) = 2
kind_of_value (Integer i) = 3
kind_of_value (Float e) = 4
kind_of_value (Text e) = 5
kind_of_value (Binary e) = 6
kind_of_value (Extension t e) = 7
kind_of_value (Array vs) = 8
kind_of_value (Map ps) = 9

flat_kind : {v : Value} {e : List ℕ} (f : Flat v e) → f.kind ≡ kind_of_value v
unfolding scalar_of
flat_kind f =
    let known : kind_of_value (scalar_of (suc (f.kind - 1)) (get_or f.top 0 0) f.body) ≡ suc (f.kind - 1)
    = agree (λ k. kind_of_value (scalar_of (suc k) (get_or f.top 0 0) f.body)) (λ k. suc k) 7 refl (f.kind - 1) (omega (arith, f.holds_none, f.some_kind)) in
    let same_kind : suc (f.kind - 1) ≡ f.kind = omega (arith, f.some_kind) in
    sym (rw same_kind at known) ∙ ap kind_of_value f.is

head_kind : {v : Value} {e : List ℕ} → Scalar v e → (rest : List ℕ) → (head_of (e ++ rest)).kind ≡ kind_of_value v
head_kind x rest = ap (λ (h : Head). h.kind) (flat_head (scalar_flat x) rest) ∙ flat_kind (scalar_flat x)

pub scalar_flat_kind : {v : Value} {e : List ℕ} → Scalar v e → (rest : List ℕ) → (head_of (e ++ rest)).kind < array_kind
scalar_flat_kind x rest = let f = scalar_flat x in omega (arith, ap (λ (h : Head). h.kind) (flat_head f rest), f.holds_none)

pub integer_form : {i : Int} {e : List ℕ} → Scalar (Integer i) e → (rest : List ℕ) → (form_at (e ++ rest)).short ≡ is_short (get_or (e ++ rest) 0 0) i
unfolding argument_at
integer_form x rest = rw (eq-eqb _ integer_kind (head_kind x rest), integer_reads (scalar x) rest)

-- a kind whose argument is in its first byte, whatever the head counts
first_form : (kind : ℕ) {v : Value} {e : List ℕ} → Scalar v e → kind_of_value v ≡ kind → (kind ≡ integer_kind → ⊥) → (rest : List ℕ)
    → (form_at (e ++ rest)).short ≡ is_short (get_or (e ++ rest) 0 0) (plus (argument_of kind (get_or (e ++ rest) 0 0) (head_of (e ++ rest)).count))
unfolding argument_at
first_form kind {v} {e} x is k rest =
    let here : (head_of (e ++ rest)).kind ≡ kind = head_kind x rest ∙ is in
    rw (here, ne_eqb kind integer_kind k)

-- ---- scalars

of_bytes : {s : Bool} {v : Value} {e : List ℕ} → Verdict s e (encoded v) → ScalarVerdict s v e
of_bytes (same t q) = is_encoded t q
of_bytes (longer t l) = is_longer t l

-- a head before a content
of_head : {s : Bool} (v : Value) (h f body : List ℕ) → encoded v ≡ f ++ body → Verdict s h f → ScalarVerdict s v (h ++ body)
of_head v h f body is (same t q) = is_encoded t (ap (λ l. l ++ body) q ∙ sym is)
of_head v h f body is (longer t l) = is_longer t (rw (is, length-append f body, length-append h body) (omega arith))

no_short : (s : Bool) → (s && false) ≡ false
no_short true = refl
no_short false = refl

signed_wasteful : (b n : ℕ) → is_signed b ≡ true → is_short b (plus n) ≡ false
unfolding is_short signed_well
signed_wasteful b n e = rw (e, no_short)

of_signed : {s : Bool} {n : ℕ} {e : List ℕ} → s ≡ false → SignedPlus (Integer (plus n)) e → Scalar (Integer (plus n)) e → ScalarVerdict s (Integer (plus n)) e
of_signed t x y = is_signed_lem t x (unsigned_shortest (scalar y))

-- of integers, by their first byte
integer_row : {i : Int} {e : List ℕ} → Scalar (Integer i) e → (rest : List ℕ) → ScalarVerdict (is_short (get_or (e ++ rest) 0 0) i) (Integer i) e
unfolding is_signed
integer_row (positive_fixint n h) rest = of_bytes (fixed_unsigned n h)
integer_row (negative_fixint n m h z) rest = of_bytes (fixed_negative n m h z)
integer_row (uint8 {n = n} x) rest = of_bytes (unsigned_row_1 n x)
integer_row (uint16 {n = n} x) rest = of_bytes (unsigned_row_2 n x)
integer_row (uint32 {n = n} x) rest = of_bytes (unsigned_row_4 n x)
integer_row (uint64 {n = n} x) rest = of_bytes (unsigned_row_8 n x)
integer_row (int8 (non_negative {n = n} x l)) rest = of_signed (signed_wasteful 0xd0 n refl) (in_int8 (non_negative x l)) (int8 (non_negative x l))
integer_row (int16 (non_negative {n = n} x l)) rest = of_signed (signed_wasteful 0xd1 n refl) (in_int16 (non_negative x l)) (int16 (non_negative x l))
integer_row (int32 (non_negative {n = n} x l)) rest = of_signed (signed_wasteful 0xd2 n refl) (in_int32 (non_negative x l)) (int32 (non_negative x l))
integer_row (int64 (non_negative {n = n} x l)) rest = of_signed (signed_wasteful 0xd3 n refl) (in_int64 (non_negative x l)) (int64 (non_negative x l))
integer_row (int8 (negative {n = n} {m = m} x l z)) rest = of_bytes (negative_row_1 n m x l z)
integer_row (int16 (negative {n = n} {m = m} x l z)) rest = of_bytes (negative_row_2 n m x l z)
integer_row (int32 (negative {n = n} {m = m} x l z)) rest = of_bytes (negative_row_4 n m x l z)
integer_row (int64 (negative {n = n} {m = m} x l z)) rest = of_bytes (negative_row_8 n m x l z)

integer_verdict : {i : Int} {e : List ℕ} → Scalar (Integer i) e → (rest : List ℕ) → ScalarVerdict (form_at (e ++ rest)).short (Integer i) e
integer_verdict x rest = rw (integer_form x rest) (integer_row x rest)

pub scalar_verdict : {v : Value} {e : List ℕ} → Scalar v e → (rest : List ℕ) → ScalarVerdict (form_at (e ++ rest)).short v e
unfolding is_short argument_of argument_width short_width fixed_holds signed_well is_signed format_of formats
scalar_verdict nil rest = is_encoded (first_form 1 nil refl (λ e. omega arith) rest) refl
scalar_verdict false_byte rest = is_encoded (first_form 2 false_byte refl (λ e. omega arith) rest) refl
scalar_verdict true_byte rest = is_encoded (first_form 2 true_byte refl (λ e. omega arith) rest) refl
scalar_verdict (positive_fixint n h) rest = integer_verdict (positive_fixint n h) rest
scalar_verdict (negative_fixint n m h z) rest = integer_verdict (negative_fixint n m h z) rest
scalar_verdict (uint8 x) rest = integer_verdict (uint8 x) rest
scalar_verdict (uint16 x) rest = integer_verdict (uint16 x) rest
scalar_verdict (uint32 x) rest = integer_verdict (uint32 x) rest
scalar_verdict (uint64 x) rest = integer_verdict (uint64 x) rest
scalar_verdict (int8 x) rest = integer_verdict (int8 x) rest
scalar_verdict (int16 x) rest = integer_verdict (int16 x) rest
scalar_verdict (int32 x) rest = integer_verdict (int32 x) rest
scalar_verdict (int64 x) rest = integer_verdict (int64 x) rest
scalar_verdict (float32 l o) rest = is_encoded (first_form 4 (float32 l o) refl (λ e. omega arith) rest) (rw (eq-eqb _ 4 l))
scalar_verdict (float64 {e = e} l o) rest =
    is_encoded (first_form 4 (float64 l o) refl (λ e. omega arith) rest) (rw (ne_eqb (length e) 4 (λ (q : length e ≡ 4). omega arith)))
scalar_verdict (text {h = h} {e = e} x o) rest =
    rw (append_assoc h e rest, text_form_lem x (e ++ rest)) (of_head (Text e) h (text_head (length e)) e refl (text_verdict x))
scalar_verdict (binary {h = h} {e = e} x o) rest =
    rw (append_assoc h e rest, binary_form x (e ++ rest)) (of_head (Binary e) h (binary_head (length e)) e refl (binary_verdict x))
scalar_verdict (extension {h = h} {t = t} {e = e} x k o) rest =
    rw (append_assoc h (t ∷ e) rest, extension_form_lem x ((t ∷ e) ++ rest)) (of_head (Extension t e) h (extension_head (length e)) (t ∷ e) refl (extension_verdict x))

-- ---- the heads that the writer has no use for

below_zero : (w m : ℕ) → 0 < m → m + m ≤ 256 ^ w → Signed w (minus m) (big_bytes w (256 ^ w - m))
below_zero w m nonzero l = negative {n = 256 ^ w - m} {m = m} (number_written w (256 ^ w - m) (omega arith)) (omega arith) (omega arith)

pub negative_written : (m : ℕ) → 0 < m → m ≤ 2 ^ 63 → Scalar (Integer (minus m)) (negative_integer m)
unfolding negative_form big_bytes little_bytes
negative_written m nonzero h = by (leb m 32) (leb m 128) (leb m 32768) (leb m 2147483648) refl refl refl refl
  where
    by : (a b c d : Bool) → leb m 32 ≡ a → leb m 128 ≡ b → leb m 32768 ≡ c → leb m 2147483648 ≡ d
        → Scalar (Integer (minus m)) (form_bytes (cond a (form (256 - m) 0) (cond b (form 0xd0 1) (cond c (form 0xd1 2) (cond d (form 0xd2 4) (form 0xd3 8)))))
        (256 ^ (cond a (form (256 - m) 0) (cond b (form 0xd0 1) (cond c (form 0xd1 2) (cond d (form 0xd2 4) (form 0xd3 8))))).width - m))
    by true b c d p q r s =
        let l = leb-true m 32 p in
        let is : 256 - m ≡ 0xe0 + (32 - m) = omega arith in
        rw is (negative_fixint (32 - m) m (omega arith) (omega arith))
    by false true c d p q r s = let l = leb-true m 128 q in int8 (below_zero 1 m nonzero (omega arith))
    by false false true d p q r s = let l = leb-true m 32768 r in int16 (below_zero 2 m nonzero (omega arith))
    by false false false true p q r s = let l = leb-true m 2147483648 s in int32 (below_zero 4 m nonzero (omega arith))
    by false false false false p q r s = int64 (below_zero 8 m nonzero (omega arith))

-- ---- scalars again

unsigned_first : (n : ℕ) → is_signed (unsigned_form n).first ≡ false
unfolding is_signed unsigned_form
unsigned_first n =
    by_test (λ f. is_signed f.first ≡ false) n 128 _ _ (λ h. agree is_signed (λ k. false) 128 refl n h)
    λ h. by_test (λ f. is_signed f.first ≡ false) n 4294967296 _ _ (λ k. sized_by (λ f. is_signed f.first ≡ false) 0xcc n (λ l. refl) (λ l. refl) refl)
    (λ k. refl)

scalar_of_lem : {v : Value} {e : List ℕ} → is_plus v ≡ true → Encodes v e → Scalar v e
scalar_of_lem p (scalar x) = x
scalar_of_lem p (array x xs) = absurd_numbers (cc)
scalar_of_lem p (map x xs) = absurd_numbers (cc)

never : {v : Value} {e : List ℕ} → is_plus v ≡ false → SignedPlus v e → ⊥
never n x = let p = (signed_plus x).0 in absurd_numbers (cc)

plus_well : (n : ℕ) → n < 2 ^ 64 → WellSigned (Integer (plus n)) (unsigned_integer n)
plus_well n h = well_scalar (scalar_of_lem refl (unsigned_written n h))
    (λ (x : SignedPlus (Integer (plus n)) (unsigned_integer n)). let p = (signed_plus x).1 in let q = unsigned_first n in absurd_numbers (cc))

integer_well : (i : Int) {e : List ℕ} → Encodes (Integer i) e → WellSigned (Integer i) (encoded_integer i)
integer_well (plus n) x = plus_well n (plus_range x)
integer_well (minus m) x = let r = minus_range x in well_scalar (negative_written m r.0 r.1) (never refl)

scalar_well : {v : Value} {e : List ℕ} → Scalar v e → WellSigned v (encoded v)
scalar_well nil = well_scalar nil (never refl)
scalar_well false_byte = well_scalar false_byte (never refl)
scalar_well true_byte = well_scalar true_byte (never refl)
scalar_well (positive_fixint n h) = integer_well (plus n) (scalar (positive_fixint n h))
scalar_well (negative_fixint n m h z) = integer_well (minus m) (scalar (negative_fixint n m h z))
scalar_well (uint8 {n = n} x) = integer_well (plus n) (scalar (uint8 x))
scalar_well (uint16 {n = n} x) = integer_well (plus n) (scalar (uint16 x))
scalar_well (uint32 {n = n} x) = integer_well (plus n) (scalar (uint32 x))
scalar_well (uint64 {n = n} x) = integer_well (plus n) (scalar (uint64 x))
scalar_well (int8 {i = i} x) = integer_well i (scalar (int8 x))
scalar_well (int16 {i = i} x) = integer_well i (scalar (int16 x))
scalar_well (int32 {i = i} x) = integer_well i (scalar (int32 x))
scalar_well (int64 {i = i} x) = integer_well i (scalar (int64 x))
scalar_well (float32 {e = e} l o) = let x : Scalar (Float e) (encoded (Float e)) = rw (eq-eqb _ 4 l) (float32 l o) in well_scalar x (never refl)
scalar_well (float64 {e = e} l o) =
    let x : Scalar (Float e) (encoded (Float e)) = rw (ne_eqb (length e) 4 (λ (q : length e ≡ 4). omega arith)) (float64 l o) in well_scalar x (never refl)
scalar_well (text {e = e} x o) = well_scalar (text (text_head_lem (length e) (text_small x)) o) (never refl)
scalar_well (binary {e = e} x o) = well_scalar (binary (binary_head_lem (length e) (binary_small x)) o) (never refl)
scalar_well (extension {t = t} {e = e} x k o) = well_scalar (extension (extension_head_lem (length e) (extension_small x)) k o) (never refl)

-- ---- every value

-- it is an encoding
pub encoded_well : {v : Value} {e : List ℕ} → Encodes v e → WellSigned v (encoded v)
encoded_well x = elim x as (λ v e y. WellSigned v (encoded v)) (λ vs e y. WellSignedValues vs (encoded_values vs)) (λ ps e y. WellSignedPairs ps (encoded_pairs ps)) [
  | scalar s ↦ scalar_well s
  | array {vs = vs} h (es → p) ↦ well_array (array_head_lem (count_values vs) (array_small h)) p
  | map {ps = ps} h (es → p) ↦ well_map (map_head_lem (count_pairs ps) (map_small h)) p
  | none ↦ well_none
  | next (y → p) (ys → q) ↦ well_next p q
  | no_pair ↦ well_no_pair
  | next_pair (y → p) (z → q) (ys → r) ↦ well_pair p q r
]

-- none is shorter
scalar_least : {v : Value} {e : List ℕ} → Scalar v e → length (encoded v) ≤ length e
scalar_least {v} {e} x = by (scalar_verdict x [])
  where
    by : {s : Bool} → ScalarVerdict s v e → length (encoded v) ≤ length e
    by (is_encoded t q) = rw q (omega arith)
    by (is_longer t l) = omega arith
    by (is_signed_lem t y l) = l

container_least : (f h r e : List ℕ) → length f ≤ length h → length r ≤ length e → length (f ++ r) ≤ length (h ++ e)
container_least f h r e l k = rw (length-append f r, length-append h e) (omega arith)

pub encoded_least : {v : Value} {e : List ℕ} → Encodes v e → length (encoded v) ≤ length e
encoded_least x =
    elim x as (λ v e y. length (encoded v) ≤ length e) (λ vs e y. length (encoded_values vs) ≤ length e) (λ ps e y. length (encoded_pairs ps) ≤ length e) [
      | scalar s ↦ scalar_least s
      | array {vs = vs} {h = h} {e = e} y (es → p) ↦ container_least (array_head (count_values vs)) h (encoded_values vs) e (array_head_shortest y) p
      | map {ps = ps} {h = h} {e = e} y (es → p) ↦ container_least (map_head (count_pairs ps)) h (encoded_pairs ps) e (map_head_shortest y) p
      | none ↦ omega arith
      | next {v = v} {vs = vs} {e = e} {f = f} (y → p) (ys → q) ↦ container_least (encoded v) e (encoded_values vs) f p q
      | no_pair ↦ omega arith
      | next_pair {k = k} {v = v} {ps = ps} {e = e} {f = f} {g = g} (y → p) (z → q) (ys → r)
          ↦ container_least (encoded k) e (encoded v ++ encoded_pairs ps) (f ++ g) p (container_least (encoded v) f (encoded_pairs ps) g q r)
    ]

-- and each other that is as short has an integer of at least 0 in a signed form
scalar_only : {v : Value} {e : List ℕ} → Scalar v e → (SignedPlus v e → ⊥) → length e ≤ length (encoded v) → e ≡ encoded v
scalar_only {v} {e} x n l = by (scalar_verdict x [])
  where
    by : {s : Bool} → ScalarVerdict s v e → e ≡ encoded v
    by (is_encoded t q) = q
    by (is_longer t k) = absurd (omega arith)
    by (is_signed_lem t y k) = absurd (n y)

verdict_only : {s : Bool} {h f : List ℕ} → Verdict s h f → length h ≤ length f → h ≡ f
verdict_only (same t q) l = q
verdict_only (longer t k) l = absurd (omega arith)

-- two parts, each no longer than the other's
two_parts : (h f e r : List ℕ) → length f ≤ length h → length r ≤ length e → (length h ≤ length f → h ≡ f) → (length e ≤ length r → e ≡ r)
    → length (h ++ e) ≤ length (f ++ r) → h ++ e ≡ f ++ r
two_parts h f e r l k p q s =
    let t : length h + length e ≤ length f + length r = rw (length-append h e, length-append f r) at s in
    let first = p (omega arith) in
    let second = q (omega arith) in
    rw (first, second)

both : (h f e r : List ℕ) → Least h f → Least e r → Least (h ++ e) (f ++ r)
both h f e r x y = record { least = container_least f h r e x.least y.least; only = two_parts h f e r x.least y.least x.only y.only }

pub well_least : {v : Value} {e : List ℕ} → WellSigned v e → Least e (encoded v)
well_least x = elim x as (λ v e y. Least e (encoded v)) (λ vs e y. Least e (encoded_values vs)) (λ ps e y. Least e (encoded_pairs ps)) [
  | well_scalar s n ↦ record { least = scalar_least s; only = scalar_only s n }
  | well_array {vs = vs} {h = h} {e = e} y (es → p) ↦ both h (array_head (count_values vs)) e (encoded_values vs) (record { least = array_head_shortest y; only = verdict_only (array_verdict y) }) p
  | well_map {ps = ps} {h = h} {e = e} y (es → p) ↦ both h (map_head (count_pairs ps)) e (encoded_pairs ps) (record { least = map_head_shortest y; only = verdict_only (map_verdict y) }) p
  | well_none ↦ record { least = omega arith; only = λ l. refl }
  | well_next {v = v} {vs = vs} {e = e} {f = f} (y → p) (ys → q) ↦ both e (encoded v) f (encoded_values vs) p q
  | well_no_pair ↦ record { least = omega arith; only = λ l. refl }
  | well_pair {k = k} {v = v} {ps = ps} {e = e} {f = f} {g = g} (y → p) (z → q) (ys → r)
      ↦ both e (encoded k) (f ++ g) (encoded v ++ encoded_pairs ps) p (both f (encoded v) g (encoded_pairs ps) q r)
]
