-- The encoding that the writer's heads make of a value, and those of the integers and extensions that it has no use for: it is one, no integer of at least 0
-- in it stands in a signed form, and none is shorter.
use Rattle.std.specs.Prelude.{ℕ, suc, ◌^◌, ◌≤◌, ◌<◌, Bool, true, false, cond, ◌||◌, List, [], ◌∷◌, ◌++◌, ◌≡◌, refl, eqb, length, get_or}
use Rattle.std.proofs.Common.{lt_of_lt_of_le, arith, ne_eqb, eqb-true, lit<}
use Rattle.std.proofs.Math.Nat.{pow-le-pow_right}
use Rattle.std.proofs.Math.ListN.{get_or-append}
use Rattle.endian.specs.Numbers.{big_bytes, little_bytes}
use Rattle.msgpack.specs.Formats.{integer_kind, text_kind, binary_kind, extension_kind, map_kind}
use Rattle.msgpack.specs.Items.{head, head_of}
use Rattle.msgpack.specs.Readers.{Int, plus, minus}
use Rattle.msgpack_heads.specs.Heads.{form, form_bytes, sized_form, text_head, binary_head, unsigned_integer, array_head, map_head}
use Rattle.msgpack.specs.Short.{fixed_holds, is_signed, is_short}
use Rattle.msgpack_forms.specs.Items.{argument_of, argument_at, form_at}
use Rattle.msgpack_model.specs.Values.{Value, Nil, Boolean, Integer, Float, Text, Binary, Extension, Array, Map, Values, no_values_lem, value, Pairs, no_pairs, pair, count_values, count_pairs}
use Rattle.msgpack_model.specs.Encoding.{Number, Signed, TextHead, fixstr, str8, str16, str32, BinaryHead, bin8, bin16, bin32, ExtensionHead, fixext1, fixext2, fixext4, fixext8, fixext16, ext8, ext16, ext32, ArrayHead, fixarray, array16, array32, MapHead, fixmap, map16, map32, Scalar, Encodes, scalar, array, map, EncodesValues, none, next, EncodesPairs, no_pair, next_pair}
use Rattle.msgpack_model.specs.Heads.{text_begins, binary_begins, extension_begins, map_begins}
use Rattle.msgpack_model.specs.Writers.{number_written, number_lt, sized_by}
use Rattle.msgpack_model.specs.Shorts.{extension_form, extension_head, negative_integer}

abbrev pub encoded_integer : Int → List ℕ
encoded_integer (plus n) = unsigned_integer n
encoded_integer (minus m) = negative_integer m

abbrev mutual
  pub encoded : Value → List ℕ
  encoded Nil = 0xc0 ∷ []
  encoded (Boolean b) = cond b 0xc3 0xc2 ∷ []
  encoded (Integer i) = encoded_integer i
  encoded (Float e) = cond (eqb (length e) 4) 0xca 0xcb ∷ e
  encoded (Text t) = text_head (length t) ++ t
  encoded (Binary t) = binary_head (length t) ++ t
  encoded (Extension t e) = extension_head (length e) ++ (t ∷ e)
  encoded (Array vs) = array_head (count_values vs) ++ encoded_values vs
  encoded (Map ps) = map_head (count_pairs ps) ++ encoded_pairs ps

  pub encoded_values : Values → List ℕ
  encoded_values no_values_lem = []
  encoded_values (value v vs) = encoded v ++ encoded_values vs

  pub encoded_pairs : Pairs → List ℕ
  encoded_pairs no_pairs = []
  encoded_pairs (pair k v ps) = encoded k ++ (encoded v ++ encoded_pairs ps)

-- ---- signed forms

-- the integer n, of at least 0, in a signed form
pub data SignedPlus : Value → List ℕ → Type 0 where
  in_int8 : {n : ℕ} {e : List ℕ} → Signed 1 (plus n) e → SignedPlus (Integer (plus n)) (0xd0 ∷ e)
  in_int16 : {n : ℕ} {e : List ℕ} → Signed 2 (plus n) e → SignedPlus (Integer (plus n)) (0xd1 ∷ e)
  in_int32 : {n : ℕ} {e : List ℕ} → Signed 4 (plus n) e → SignedPlus (Integer (plus n)) (0xd2 ∷ e)
  in_int64 : {n : ℕ} {e : List ℕ} → Signed 8 (plus n) e → SignedPlus (Integer (plus n)) (0xd3 ∷ e)

-- the bytes encode the value, and no integer of at least 0 in it stands in a signed form
mutual
  pub data WellSigned : Value → List ℕ → Type 0 where
    well_scalar : {v : Value} {e : List ℕ} → Scalar v e → (SignedPlus v e → ⊥) → WellSigned v e
    well_array : {vs : Values} {h e : List ℕ} → ArrayHead (count_values vs) h → WellSignedValues vs e → WellSigned (Array vs) (h ++ e)
    well_map : {ps : Pairs} {h e : List ℕ} → MapHead (count_pairs ps) h → WellSignedPairs ps e → WellSigned (Map ps) (h ++ e)

  pub data WellSignedValues : Values → List ℕ → Type 0 where
    well_none : WellSignedValues no_values_lem []
    well_next : {v : Value} {vs : Values} {e f : List ℕ} → WellSigned v e → WellSignedValues vs f → WellSignedValues (value v vs) (e ++ f)

  pub data WellSignedPairs : Pairs → List ℕ → Type 0 where
    well_no_pair : WellSignedPairs no_pairs []
    well_pair : {k v : Value} {ps : Pairs} {e f g : List ℕ} → WellSigned k e → WellSigned v f → WellSignedPairs ps g
        → WellSignedPairs (pair k v ps) (e ++ (f ++ g))

-- it is an encoding
pub well_encodes : {v : Value} {e : List ℕ} → WellSigned v e → Encodes v e
well_encodes x = elim x as (λ v e y. Encodes v e) (λ vs e y. EncodesValues vs e) (λ ps e y. EncodesPairs ps e) [
  | well_scalar s n ↦ scalar s
  | well_array h (es → p) ↦ array h p
  | well_map h (es → p) ↦ map h p
  | well_none ↦ none
  | well_next (y → p) (ys → q) ↦ next p q
  | well_no_pair ↦ no_pair
  | well_pair (y → p) (z → q) (ys → r) ↦ next_pair p q r
]

-- ---- the form at the front of an encoding

-- of a head that is no integer's
pub other_front : (kind : ℕ) (h t : List ℕ) (count n : ℕ) → head_of (h ++ t) ≡ head kind (length h) count → (kind ≡ integer_kind → ⊥) → 0 < length h
    → argument_of kind (get_or h 0 0) count ≡ n → (form_at (h ++ t)).short ≡ is_short (get_or h 0 0) (plus n)
unfolding argument_at
other_front kind h t count n begun k l is = rw (begun, ne_eqb kind integer_kind k, get_or-append h t 0 0 l, is)

text_some : {n : ℕ} {h : List ℕ} → TextHead n h → 0 < length h
text_some (fixstr n k) = omega arith
text_some (str8 x) = omega arith
text_some (str16 x) = omega arith
text_some (str32 x) = omega arith

binary_some : {n : ℕ} {h : List ℕ} → BinaryHead n h → 0 < length h
binary_some (bin8 x) = omega arith
binary_some (bin16 x) = omega arith
binary_some (bin32 x) = omega arith

extension_some : {n : ℕ} {h : List ℕ} → ExtensionHead n h → 0 < length h
extension_some fixext1 = omega arith
extension_some fixext2 = omega arith
extension_some fixext4 = omega arith
extension_some fixext8 = omega arith
extension_some fixext16 = omega arith
extension_some (ext8 x) = omega arith
extension_some (ext16 x) = omega arith
extension_some (ext32 x) = omega arith

map_some : {n : ℕ} {h : List ℕ} → MapHead n h → 0 < length h
map_some (fixmap n k) = omega arith
map_some (map16 x) = omega arith
map_some (map32 x) = omega arith

pub text_form_lem : {n : ℕ} {h : List ℕ} → TextHead n h → (t : List ℕ) → (form_at (h ++ t)).short ≡ is_short (get_or h 0 0) (plus n)
unfolding argument_of
text_form_lem {n} {h} x t = other_front text_kind h t n n (text_begins x t) (λ e. omega arith) (text_some x) refl

pub binary_form : {n : ℕ} {h : List ℕ} → BinaryHead n h → (t : List ℕ) → (form_at (h ++ t)).short ≡ is_short (get_or h 0 0) (plus n)
unfolding argument_of
binary_form {n} {h} x t = other_front binary_kind h t n n (binary_begins x t) (λ e. omega arith) (binary_some x) refl

pub extension_form_lem : {n : ℕ} {h : List ℕ} → ExtensionHead n h → (t : List ℕ) → (form_at (h ++ t)).short ≡ is_short (get_or h 0 0) (plus n)
unfolding argument_of
extension_form_lem {n} {h} x t = other_front extension_kind h t (suc n) n (extension_begins x t) (λ e. omega arith) (extension_some x) (omega arith)

pub map_form : {n : ℕ} {h : List ℕ} → MapHead n h → (t : List ℕ) → (form_at (h ++ t)).short ≡ is_short (get_or h 0 0) (plus n)
unfolding argument_of
map_form {n} {h} x t = other_front map_kind h t n n (map_begins x t) (λ e. omega arith) (map_some x) refl

-- ---- scalars

-- a scalar's encoding is the one above, or longer, or a signed form of an integer of at least 0; `s` says whether its form is the short one
pub data ScalarVerdict (s : Bool) (v : Value) (e : List ℕ) : Type 0 where
  is_encoded : s ≡ true → e ≡ encoded v → ScalarVerdict s v e
  is_longer : s ≡ false → length (encoded v) < length e → ScalarVerdict s v e
  is_signed_lem : s ≡ false → SignedPlus v e → length (encoded v) ≤ length e → ScalarVerdict s v e

-- ---- what is encoded so is an encoding, with no integer of at least 0 in a signed form

four : (w : ℕ) {n : ℕ} {e : List ℕ} → w ≤ 4 → Number w n e → n < 2 ^ 32
four w h x = lt_of_lt_of_le (number_lt x) (pow-le-pow_right {n = 256} (lit< tt) h)

pub text_small : {n : ℕ} {h : List ℕ} → TextHead n h → n < 2 ^ 32
text_small (fixstr n k) = omega arith
text_small (str8 x) = four 1 (omega arith) x
text_small (str16 x) = four 2 (omega arith) x
text_small (str32 x) = four 4 (omega arith) x

pub binary_small : {n : ℕ} {h : List ℕ} → BinaryHead n h → n < 2 ^ 32
binary_small (bin8 x) = four 1 (omega arith) x
binary_small (bin16 x) = four 2 (omega arith) x
binary_small (bin32 x) = four 4 (omega arith) x

pub extension_small : {n : ℕ} {h : List ℕ} → ExtensionHead n h → n < 2 ^ 32
extension_small fixext1 = omega arith
extension_small fixext2 = omega arith
extension_small fixext4 = omega arith
extension_small fixext8 = omega arith
extension_small fixext16 = omega arith
extension_small (ext8 x) = four 1 (omega arith) x
extension_small (ext16 x) = four 2 (omega arith) x
extension_small (ext32 x) = four 4 (omega arith) x

pub array_small : {n : ℕ} {h : List ℕ} → ArrayHead n h → n < 2 ^ 32
array_small (fixarray n k) = omega arith
array_small (array16 x) = four 2 (omega arith) x
array_small (array32 x) = four 4 (omega arith) x

pub map_small : {n : ℕ} {h : List ℕ} → MapHead n h → n < 2 ^ 32
map_small (fixmap n k) = omega arith
map_small (map16 x) = four 2 (omega arith) x
map_small (map32 x) = four 4 (omega arith) x

-- ---- the heads that the writer has no use for

pub extension_head_lem : (n : ℕ) → n < 2 ^ 32 → ExtensionHead n (extension_head n)
unfolding extension_form fixed_holds big_bytes little_bytes
extension_head_lem n h = by (eqb n 1) (eqb n 2) (eqb n 4) (eqb n 8) (eqb n 16) refl refl refl refl refl
  where
    by : (a b c d f : Bool) → eqb n 1 ≡ a → eqb n 2 ≡ b → eqb n 4 ≡ c → eqb n 8 ≡ d → eqb n 16 ≡ f
        → ExtensionHead n (form_bytes (cond ((((a || b) || c) || d) || f) (form (cond a 0xd4 (cond b 0xd5 (cond c 0xd6 (cond d 0xd7 0xd8)))) 0) (sized_form 0xc7 n)) n)
    by true b c d f p q r s t = let is : n ≡ 1 = eqb-true n 1 p in rw is fixext1
    by false true c d f p q r s t = let is : n ≡ 2 = eqb-true n 2 q in rw is fixext2
    by false false true d f p q r s t = let is : n ≡ 4 = eqb-true n 4 r in rw is fixext4
    by false false false true f p q r s t = let is : n ≡ 8 = eqb-true n 8 s in rw is fixext8
    by false false false false true p q r s t = let is : n ≡ 16 = eqb-true n 16 t in rw is fixext16
    by false false false false false p q r s t = sized_by (λ f. ExtensionHead n (form_bytes f n)) 0xc7 n (λ l. ext8 (number_written 1 n l))
        (λ l. ext16 (number_written 2 n l)) (ext32 (number_written 4 n h))

-- ---- scalars again

abbrev pub is_plus : Value → Bool
is_plus Nil = false
is_plus (Boolean b) = false
is_plus (Integer (plus n)) = true
is_plus (Integer (minus n)) = false
is_plus (Float e) = false
is_plus (Text e) = false
is_plus (Binary e) = false
is_plus (Extension t e) = false
is_plus (Array vs) = false
is_plus (Map ps) = false

pub signed_plus : {v : Value} {e : List ℕ} → SignedPlus v e → (is_plus v ≡ true) × (is_signed (get_or e 0 0) ≡ true)
unfolding is_signed
signed_plus (in_int8 x) = (refl, refl)
signed_plus (in_int16 x) = (refl, refl)
signed_plus (in_int32 x) = (refl, refl)
signed_plus (in_int64 x) = (refl, refl)

-- ---- every value

pub record Least (e f : List ℕ) : Type 0 where
  pub least : length f ≤ length e
  pub only : length e ≤ length f → e ≡ f
