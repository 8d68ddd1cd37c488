-- What a head says of the bytes at the front, row by row of the table: a scalar, the head of an array or map, or no item.
use Rattle.std.specs.Prelude.{ℕ, zero, suc, ◌+◌, ◌-◌, ◌^◌, ◌≤◌, ◌<◌, Bool, true, false, List, [], ◌∷◌, ◌++◌, ◌≡◌, refl, leb, length, take, drop}
use Rattle.std.specs.Prelude.{Option, None, Some}
use Rattle.std.proofs.Common.{sym, add-zero, le_of_suc-le-suc, not-suc-le-zero, arith, leb-true, leb-false, length-drop, take-add, length-take-le}
use Rattle.slices.specs.Bytes.{AllBytes, tail_bytes, take_bytes, drop_bytes}
use Rattle.endian.specs.Numbers.{little, big, big_lt}
use Rattle.endian.specs.Places.{number_at}
use Rattle.msgpack.specs.Formats.{unused_kind, nil_kind, boolean_kind, integer_kind, float_kind, text_kind, binary_kind, extension_kind, array_kind, map_kind, format, formats, format_of}
use Rattle.msgpack.specs.Items.{head, no_head, head_by, head_of}
use Rattle.msgpack.specs.Readers.{Int, plus, minus}
use Rattle.msgpack.specs.HeadLaws.{NumberRead, number_read}
use Rattle.msgpack_model.specs.Values.{Value, Nil, Boolean, Integer, Float, Text, Binary, Extension}
use Rattle.msgpack_model.specs.Encoding.{Number, Signed, non_negative, negative, TextHead, fixstr, str8, str16, str32, bin8, bin16, bin32, ExtensionHead, fixext1, fixext2, fixext4, fixext8, fixext16, ext8, ext16, ext32, ArrayHead, fixarray, array16, array32, MapHead, fixmap, map16, map32, Scalar, nil, false_byte, true_byte, positive_fixint, negative_fixint, uint8, uint16, uint32, uint64, int8, int16, int32, int64, float32, float64, text, binary, extension}
use Rattle.msgpack_model.specs.Heads.{at_positive, at_fixmap, at_fixarray, at_fixstr, at_negative}
use Rattle.msgpack_model.specs.Rows.{Front, no_item, scalar_item, array_item, map_item_lem}

-- ---- what a head says of the bytes at the front

abbrev Row : ℕ → Type 0
Row b = (t : List ℕ) → AllBytes t → Front (b ∷ t) (head_of (b ∷ t))

read_front : (b kind w amount : ℕ) (t : List ℕ) → format_of b ≡ format kind w amount
    → ((n : ℕ) → NumberRead big (b ∷ t) 1 w n → Front (b ∷ t) (head kind (1 + w) (amount + n))) → Front (b ∷ t) (head_of (b ∷ t))
unfolding head_of
read_front b kind w amount t form make = rw form (by (number_at big (b ∷ t) 1 w) refl)
  where
    by : (r : Option ℕ) → number_at big (b ∷ t) 1 w ≡ r → Front (b ∷ t) (head_by (format kind w amount) r)
    by (Some n) e = make n (number_read big (b ∷ t) 1 w n e)
    by None e = no_item no_head refl

the_number : (b w n : ℕ) (t : List ℕ) → AllBytes t → NumberRead big (b ∷ t) 1 w n → Number w n (take w t)
the_number b w n t bytes r = record { size = length-take-le w t (omega (arith, r.within.inside)); bytes = take_bytes w t bytes; is = sym r.is }

-- a row of scalars: a head of b and a number h, and the content that they ask for
scalar_row : (b kind w amount : ℕ) → kind < array_kind → format_of b ≡ format kind w amount
    → ((n : ℕ) (h body : List ℕ) → Number w n h → length body ≡ amount + n → AllBytes body → (v : Value) × Scalar v (b ∷ (h ++ body))) → Row b
scalar_row b kind w amount l form make t bytes =
    read_front b kind w amount t form λ n r. scalar_item kind (1 + w) (amount + n) l λ fits.
    let long : 1 + w + (amount + n) ≡ suc (w + (amount + n)) = omega arith in
    rw (long, take-add)
    (make n (take w t) (take (amount + n) (drop w t)) (the_number b w n t bytes r)
    (length-take-le (amount + n) (drop w t) (omega (arith, length-drop w t))) (take_bytes (amount + n) (drop w t) (drop_bytes w bytes)))

no_number : {n : ℕ} {e : List ℕ} → Number 0 n e → (e ≡ []) × (n ≡ 0)
unfolding big little
no_number {e = []} x = (refl, sym x.is)
no_number {e = b ∷ e} x = absurd (omega (arith, x.size))

-- a first byte that fixes how many bytes follow
fixed_row : (b kind amount : ℕ) → kind < array_kind → format_of b ≡ format kind 0 amount
    → ((e : List ℕ) → length e ≡ amount → AllBytes e → (v : Value) × Scalar v (b ∷ e)) → Row b
fixed_row b kind amount l form make = scalar_row b kind 0 amount l form λ n h body x size bytes.
    let z = no_number x in
    rw z.0 (make body (omega (arith, z.1)) bytes)

single_row : (b kind : ℕ) (v : Value) → kind < array_kind → format_of b ≡ format kind 0 0 → Scalar v (b ∷ []) → Row b
single_row b kind v l form x = fixed_row b kind 0 l form made
  where
    made : (e : List ℕ) → length e ≡ 0 → AllBytes e → (w : Value) × Scalar w (b ∷ e)
    made [] size bytes = (v, x)
    made (y ∷ e) size bytes = absurd (omega arith)

never_row : (b : ℕ) → format_of b ≡ format unused_kind 0 0 → Row b
never_row b form t bytes = read_front b unused_kind 0 0 t form λ n r. no_item (head unused_kind 1 (0 + n)) refl

unsigned_row : (b w : ℕ) → format_of b ≡ format integer_kind 0 w → ((n : ℕ) (e : List ℕ) → Number w n e → Scalar (Integer (plus n)) (b ∷ e)) → Row b
unsigned_row b w form make = fixed_row b integer_kind w (omega arith) form λ e size bytes.
    (Integer (plus (big e)), make (big e) e (record { size = size; bytes = bytes; is = refl }))

signed_row : (b w : ℕ) → format_of b ≡ format integer_kind 0 w → ((i : Int) (e : List ℕ) → Signed w i e → Scalar (Integer i) (b ∷ e)) → Row b
signed_row b w form make = fixed_row b integer_kind w (omega arith) form λ e size bytes. by e size bytes (leb (256 ^ w) (big e + big e)) refl
  where
    by : (e : List ℕ) → length e ≡ w → AllBytes e → (t : Bool) → leb (256 ^ w) (big e + big e) ≡ t → (v : Value) × Scalar v (b ∷ e)
    by e size bytes true t =
        let l : big e < 256 ^ w = rw size at (big_lt e bytes) in
        let m : ℕ = 256 ^ w - big e in
        (Integer (minus m), make (minus m) e (negative (record { size = size; bytes = bytes; is = refl }) (leb-true _ _ t) (omega arith)))
    by e size bytes false t = (
      Integer (plus (big e)),
      make (plus (big e)) e
          (non_negative (record { size = size; bytes = bytes; is = refl }) (leb-false _ _ t)),
    )

float_row : (b w : ℕ) → format_of b ≡ format float_kind 0 w → ((e : List ℕ) → length e ≡ w → AllBytes e → Scalar (Float e) (b ∷ e)) → Row b
float_row b w form make = fixed_row b float_kind w (omega arith) form λ e size bytes. (Float e, make e size bytes)

-- a head that counts the bytes of a text, or of bytes
content_row : (b kind w : ℕ) (made : List ℕ → Value) → kind < array_kind → format_of b ≡ format kind w 0
    → ((h body : List ℕ) → Number w (length body) h → AllBytes body → Scalar (made body) ((b ∷ h) ++ body)) → Row b
content_row b kind w made l form make = scalar_row b kind w 0 l form
    λ n h body x size bytes. (made body, make h body (record { size = x.size; bytes = x.bytes; is = omega (arith, x.is) }) bytes)

-- an extension's content is its type and its bytes
extension_of : (n : ℕ) (top : List ℕ) → ExtensionHead n top → (body : List ℕ) → length body ≡ suc n → AllBytes body → (v : Value) × Scalar v (top ++ body)
extension_of n top x [] size bytes = absurd (omega arith)
extension_of n top x (t ∷ e) size bytes =
    let same : length e ≡ n = omega arith in
    let y : ExtensionHead (length e) top = rw same x in
    (Extension t e, extension y (bytes.below 0) (tail_bytes bytes))

extension_row : (b w : ℕ) → format_of b ≡ format extension_kind w 1 → ((h : List ℕ) (n : ℕ) → Number w n h → ExtensionHead n (b ∷ h)) → Row b
extension_row b w form make = scalar_row b extension_kind w 1 (omega arith) form
    λ n h body x size bytes. extension_of n (b ∷ h) (make h n x) body (omega arith) bytes

fixext_row : (b n : ℕ) → format_of b ≡ format extension_kind 0 (suc n) → ExtensionHead n (b ∷ []) → Row b
fixext_row b n form x = fixed_row b extension_kind (suc n) (omega arith) form λ e size bytes. extension_of n (b ∷ []) x e size bytes

array_row : (b w : ℕ) → format_of b ≡ format array_kind w 0 → ((n : ℕ) (h : List ℕ) → Number w n h → ArrayHead n (b ∷ h)) → Row b
array_row b w form make t bytes = read_front b array_kind w 0 t form λ n r.
    let long : 1 + w ≡ suc w = omega arith in
    let count : 0 + n ≡ n = omega arith in
    rw (long, count) (array_item (suc w) n (omega (arith, r.within.inside)) (make n (take w t) (the_number b w n t bytes r)))

fixarray_row : (k : ℕ) → k < 16 → Row (0x90 + k)
fixarray_row k h t bytes = read_front (0x90 + k) array_kind 0 k t (at_fixarray k h) λ n r.
    let count : k + n ≡ k = omega (arith, (no_number (the_number (0x90 + k) 0 n t bytes r)).1) in
    rw count (array_item 1 k (omega arith) (fixarray k h))

map_row : (b w : ℕ) → format_of b ≡ format map_kind w 0 → ((n : ℕ) (h : List ℕ) → Number w n h → MapHead n (b ∷ h)) → Row b
map_row b w form make t bytes = read_front b map_kind w 0 t form λ n r.
    let long : 1 + w ≡ suc w = omega arith in
    let count : 0 + n ≡ n = omega arith in
    rw (long, count) (map_item_lem (suc w) n (omega (arith, r.within.inside)) (make n (take w t) (the_number b w n t bytes r)))

fixmap_row : (k : ℕ) → k < 16 → Row (0x80 + k)
fixmap_row k h t bytes = read_front (0x80 + k) map_kind 0 k t (at_fixmap k h) λ n r.
    let count : k + n ≡ k = omega (arith, (no_number (the_number (0x80 + k) 0 n t bytes r)).1) in
    rw count (map_item_lem 1 k (omega arith) (fixmap k h))

fixstr_row : (k : ℕ) → k < 32 → Row (0xa0 + k)
fixstr_row k h = fixed_row (0xa0 + k) text_kind k (omega arith) (at_fixstr k h)
    λ e size bytes. let x : TextHead (length e) ((0xa0 + k) ∷ []) = rw size (fixstr k h) in (Text e, text x bytes)

-- P i, P (i + 1), …: n of them
abbrev Every : (ℕ → Type 0) → ℕ → ℕ → Type 0
Every P i zero = Unit
Every P i (suc n) = P i × Every P (suc i) n

infixr 5 ◌▸◌
abbrev ◌▸◌ : {A B : Type 0} → A → B → A × B
◌▸◌ a b = (a, b)

one_of : (P : ℕ → Type 0) (n i k : ℕ) → Every P i n → k < n → P (i + k)
one_of P zero i k ps h = absurd (not-suc-le-zero h)
one_of P (suc n) i zero ps h = rw add-zero ps.0
one_of P (suc n) i (suc k) ps h = let e : i + suc k ≡ suc i + k = omega arith in rw e (one_of P n (suc i) k ps.1 (le_of_suc-le-suc h))

-- the bytes C0 to DF
rows : Every Row 0xc0 32
unfolding format_of formats
rows =
    single_row 0xc0 nil_kind Nil (omega arith) refl nil
    ▸ never_row 0xc1 refl
    ▸ single_row 0xc2 boolean_kind (Boolean false) (omega arith) refl false_byte
    ▸ single_row 0xc3 boolean_kind (Boolean true) (omega arith) refl true_byte
    ▸ content_row 0xc4 binary_kind 1 Binary (omega arith) refl (λ h e x o. binary (bin8 x) o)
    ▸ content_row 0xc5 binary_kind 2 Binary (omega arith) refl (λ h e x o. binary (bin16 x) o)
    ▸ content_row 0xc6 binary_kind 4 Binary (omega arith) refl (λ h e x o. binary (bin32 x) o)
    ▸ extension_row 0xc7 1 refl (λ h n x. ext8 x)
    ▸ extension_row 0xc8 2 refl (λ h n x. ext16 x)
    ▸ extension_row 0xc9 4 refl (λ h n x. ext32 x)
    ▸ float_row 0xca 4 refl (λ e l o. float32 l o)
    ▸ float_row 0xcb 8 refl (λ e l o. float64 l o)
    ▸ unsigned_row 0xcc 1 refl (λ n e x. uint8 x)
    ▸ unsigned_row 0xcd 2 refl (λ n e x. uint16 x)
    ▸ unsigned_row 0xce 4 refl (λ n e x. uint32 x)
    ▸ unsigned_row 0xcf 8 refl (λ n e x. uint64 x)
    ▸ signed_row 0xd0 1 refl (λ i e x. int8 x)
    ▸ signed_row 0xd1 2 refl (λ i e x. int16 x)
    ▸ signed_row 0xd2 4 refl (λ i e x. int32 x)
    ▸ signed_row 0xd3 8 refl (λ i e x. int64 x)
    ▸ fixext_row 0xd4 1 refl fixext1
    ▸ fixext_row 0xd5 2 refl fixext2
    ▸ fixext_row 0xd6 4 refl fixext4
    ▸ fixext_row 0xd7 8 refl fixext8
    ▸ fixext_row 0xd8 16 refl fixext16
    ▸ content_row 0xd9 text_kind 1 Text (omega arith) refl (λ h e x o. text (str8 x) o)
    ▸ content_row 0xda text_kind 2 Text (omega arith) refl (λ h e x o. text (str16 x) o)
    ▸ content_row 0xdb text_kind 4 Text (omega arith) refl (λ h e x o. text (str32 x) o)
    ▸ array_row 0xdc 2 refl (λ n h x. array16 x)
    ▸ array_row 0xdd 4 refl (λ n h x. array32 x)
    ▸ map_row 0xde 2 refl (λ n h x. map16 x)
    ▸ map_row 0xdf 4 refl (λ n h x. map32 x)
    ▸ tt

-- a number from lo on
from : (P : ℕ → Type 0) (lo hi b : ℕ) → lo ≤ b → b < hi → ((k : ℕ) → k < hi - lo → P (lo + k)) → P b
from P lo hi b l h f = let e : lo + (b - lo) ≡ b = omega arith in rw e at (f (b - lo) (omega arith))

every_row : (b : ℕ) → b < 256 → Row b
every_row b h = below80 (leb 0x80 b) refl
  where
    below_e0 : (t : Bool) → leb 0xe0 b ≡ t → 0xc0 ≤ b → Row b
    below_e0 false t l = from Row 0xc0 0xe0 b l (leb-false _ _ t) (λ k z. one_of Row 32 0xc0 k rows z)
    below_e0 true t l = from Row 0xe0 256 b (leb-true _ _ t) h
        (λ k z. single_row (0xe0 + k) integer_kind (Integer (minus (32 - k))) (omega arith) (at_negative k z) (negative_fixint k (32 - k) z (omega arith)))

    below_c0 : (t : Bool) → leb 0xc0 b ≡ t → 0xa0 ≤ b → Row b
    below_c0 false t l = from Row 0xa0 0xc0 b l (leb-false _ _ t) fixstr_row
    below_c0 true t l = below_e0 (leb 0xe0 b) refl (leb-true _ _ t)

    below_a0 : (t : Bool) → leb 0xa0 b ≡ t → 0x90 ≤ b → Row b
    below_a0 false t l = from Row 0x90 0xa0 b l (leb-false _ _ t) fixarray_row
    below_a0 true t l = below_c0 (leb 0xc0 b) refl (leb-true _ _ t)

    below90 : (t : Bool) → leb 0x90 b ≡ t → 0x80 ≤ b → Row b
    below90 false t l = from Row 0x80 0x90 b l (leb-false _ _ t) fixmap_row
    below90 true t l = below_a0 (leb 0xa0 b) refl (leb-true _ _ t)

    below80 : (t : Bool) → leb 0x80 b ≡ t → Row b
    below80 false t = let k : b < 128 = leb-false _ _ t in single_row b integer_kind (Integer (plus b)) (omega arith) (at_positive b k) (positive_fixint b k)
    below80 true t = below90 (leb 0x90 b) refl (leb-true _ _ t)

pub front_read : (s : List ℕ) → AllBytes s → Front s (head_of s)
unfolding head_of
front_read [] bytes = no_item no_head refl
front_read (b ∷ t) bytes = every_row b (bytes.below 0) t (tail_bytes bytes)
