-- The head of every encoding is what the table of formats says of its first byte, whatever follows; so a scalar's kind and content are known from its bytes.
use Rattle.std.specs.Prelude.{ℕ, zero, suc, ◌+◌, ◌-◌, ◌^◌, ◌≤◌, ◌<◌, true, false, cond, List, [], ◌∷◌, ◌++◌, ◌≡◌, refl, eqb, length, get_or, drop}
use Rattle.std.specs.Prelude.{Some}
use Rattle.std.proofs.Common.{ap, ◌∙◌, pow-suc, not-suc-le-zero, arith, lt-ltb, le-ltb, length-append, take_at}
use Rattle.slices.specs.Tables.{agree}
use Rattle.endian.specs.Numbers.{little, big}
use Rattle.endian.specs.Places.{number_at, number_there}
use Rattle.msgpack.specs.Formats.{nil_kind, boolean_kind, integer_kind, float_kind, text_kind, binary_kind, extension_kind, array_kind, map_kind, format, formats, format_of}
use Rattle.msgpack.specs.Items.{head, head_of}
use Rattle.msgpack.specs.Readers.{Int, plus, minus, half, twos_complement, integer_of}
use Rattle.msgpack_model.specs.Values.{Value, Nil, Boolean, Integer, Float, Text, Binary, Extension}
use Rattle.msgpack_model.specs.Encoding.{Number, Signed, non_negative, negative, TextHead, fixstr, str8, str16, str32, BinaryHead, bin8, bin16, bin32, ExtensionHead, fixext1, fixext2, fixext4, fixext8, fixext16, ext8, ext16, ext32, ArrayHead, fixarray, array16, array32, MapHead, fixmap, map16, map32, Scalar, nil, false_byte, true_byte, positive_fixint, negative_fixint, uint8, uint16, uint32, uint64, int8, int16, int32, int64, float32, float64, text, binary, extension}

-- ---- the table at the ranges of first bytes

pub at_positive : (k : ℕ) → k < 128 → format_of k ≡ format integer_kind 0 0
unfolding format_of formats
at_positive k h = agree format_of (λ k. format integer_kind 0 0) 128 refl k h

pub at_fixmap : (k : ℕ) → k < 16 → format_of (0x80 + k) ≡ format map_kind 0 k
unfolding format_of formats
at_fixmap k h = agree (λ k. format_of (0x80 + k)) (λ k. format map_kind 0 k) 16 refl k h

pub at_fixarray : (k : ℕ) → k < 16 → format_of (0x90 + k) ≡ format array_kind 0 k
unfolding format_of formats
at_fixarray k h = agree (λ k. format_of (0x90 + k)) (λ k. format array_kind 0 k) 16 refl k h

pub at_fixstr : (k : ℕ) → k < 32 → format_of (0xa0 + k) ≡ format text_kind 0 k
unfolding format_of formats
at_fixstr k h = agree (λ k. format_of (0xa0 + k)) (λ k. format text_kind 0 k) 32 refl k h

pub at_negative : (k : ℕ) → k < 32 → format_of (0xe0 + k) ≡ format integer_kind 0 0
unfolding format_of formats
at_negative k h = agree (λ k. format_of (0xe0 + k)) (λ k. format integer_kind 0 0) 32 refl k h

-- ---- the head, whatever follows

abbrev pub Begins : ℕ → List ℕ → ℕ → Type 0
Begins kind h n = (rest : List ℕ) → head_of (h ++ rest) ≡ head kind (length h) n

begins : (b kind w amount n : ℕ) (h : List ℕ) → format_of b ≡ format kind w amount → w ≤ 8 → length h ≡ w → amount + big h ≡ n → Begins kind (b ∷ h) n
unfolding head_of
begins b kind w amount n h form narrow size is rest =
    let there = number_there big (b ∷ (h ++ rest)) 1 w (record { narrow = narrow; inside = omega (arith, length-append h rest) }) in
    let number : number_at big (b ∷ (h ++ rest)) 1 w ≡ Some (big h) = there ∙ rw (take_at h rest w size) in
    let long : 1 + w ≡ suc (length h) = omega arith in
    rw (form, number, is, long)

-- a number that is the count; the count in the first byte; an amount that the first byte fixes
counted : (b kind w n : ℕ) {e : List ℕ} → format_of b ≡ format kind w 0 → w ≤ 8 → Number w n e → Begins kind (b ∷ e) n
counted b kind w n {e} form narrow x = begins b kind w 0 n e form narrow x.size (omega (arith, x.is))

fixed : (b kind amount : ℕ) → format_of b ≡ format kind 0 amount → Begins kind (b ∷ []) amount
unfolding big little
fixed b kind amount form = begins b kind 0 amount amount [] form (omega arith) refl (omega arith)

pub text_begins : {n : ℕ} {h : List ℕ} → TextHead n h → Begins text_kind h n
unfolding format_of formats
text_begins (fixstr n k) = fixed (0xa0 + n) text_kind n (at_fixstr n k)
text_begins (str8 {n = n} x) = counted 0xd9 text_kind 1 n refl (omega arith) x
text_begins (str16 {n = n} x) = counted 0xda text_kind 2 n refl (omega arith) x
text_begins (str32 {n = n} x) = counted 0xdb text_kind 4 n refl (omega arith) x

pub binary_begins : {n : ℕ} {h : List ℕ} → BinaryHead n h → Begins binary_kind h n
unfolding format_of formats
binary_begins (bin8 {n = n} x) = counted 0xc4 binary_kind 1 n refl (omega arith) x
binary_begins (bin16 {n = n} x) = counted 0xc5 binary_kind 2 n refl (omega arith) x
binary_begins (bin32 {n = n} x) = counted 0xc6 binary_kind 4 n refl (omega arith) x

-- an extension's type is one byte more
typed : (b w n : ℕ) {e : List ℕ} → format_of b ≡ format extension_kind w 1 → w ≤ 8 → Number w n e → Begins extension_kind (b ∷ e) (suc n)
typed b w n {e} form narrow x = begins b extension_kind w 1 (suc n) e form narrow x.size (omega (arith, x.is))

pub extension_begins : {n : ℕ} {h : List ℕ} → ExtensionHead n h → Begins extension_kind h (suc n)
unfolding format_of formats
extension_begins fixext1 = fixed 0xd4 extension_kind 2 refl
extension_begins fixext2 = fixed 0xd5 extension_kind 3 refl
extension_begins fixext4 = fixed 0xd6 extension_kind 5 refl
extension_begins fixext8 = fixed 0xd7 extension_kind 9 refl
extension_begins fixext16 = fixed 0xd8 extension_kind 17 refl
extension_begins (ext8 {n = n} x) = typed 0xc7 1 n refl (omega arith) x
extension_begins (ext16 {n = n} x) = typed 0xc8 2 n refl (omega arith) x
extension_begins (ext32 {n = n} x) = typed 0xc9 4 n refl (omega arith) x

pub array_begins : {n : ℕ} {h : List ℕ} → ArrayHead n h → Begins array_kind h n
unfolding format_of formats
array_begins (fixarray n k) = fixed (0x90 + n) array_kind n (at_fixarray n k)
array_begins (array16 {n = n} x) = counted 0xdc array_kind 2 n refl (omega arith) x
array_begins (array32 {n = n} x) = counted 0xdd array_kind 4 n refl (omega arith) x

pub map_begins : {n : ℕ} {h : List ℕ} → MapHead n h → Begins map_kind h n
unfolding format_of formats
map_begins (fixmap n k) = fixed (0x80 + n) map_kind n (at_fixmap n k)
map_begins (map16 {n = n} x) = counted 0xde map_kind 2 n refl (omega arith) x
map_begins (map32 {n = n} x) = counted 0xdf map_kind 4 n refl (omega arith) x

-- ---- the value of a scalar, by its kind, its first byte and its content

unfoldable pub scalar_of : ℕ → ℕ → List ℕ → Value
scalar_of kind b body =
    cond (eqb kind nil_kind) Nil
    (cond (eqb kind boolean_kind) (Boolean (eqb b 0xc3))
    (cond (eqb kind integer_kind) (Integer (integer_of b (length body) (big body)))
    (cond (eqb kind float_kind) (Float body)
    (cond (eqb kind text_kind) (Text body)
    (cond (eqb kind binary_kind) (Binary body)
    (Extension (get_or body 0 0) (drop 1 body)))))))

-- the numbers of w bytes fall into two halves
pub two_halves : (w : ℕ) → 0 < w → half w + half w ≡ 256 ^ w
two_halves zero h = absurd (not-suc-le-zero h)
two_halves (suc w) h = rw pow-suc (omega arith)

pub signed_is : (w : ℕ) {i : Int} {e : List ℕ} → 0 < w → Signed w i e → twos_complement (length e) (big e) ≡ i
unfolding twos_complement
signed_is w h (non_negative {n = n} x l) = rw (x.size, x.is, lt-ltb n (half w) (omega (arith, two_halves w h)))
signed_is w h (negative {n = n} {m = m} x l z) = rw (x.size, x.is, le-ltb n (half w) (omega (arith, two_halves w h)))
    (ap minus (omega (arith, two_halves w h)))

-- an encoding that is a head and the content that the head asks for
pub record Flat (v : Value) (e : List ℕ) : Type 0 where
  pub kind : ℕ
  pub top : List ℕ
  pub body : List ℕ
  pub split : e ≡ top ++ body
  pub begun : Begins kind top (length body)
  pub some_kind : 0 < kind
  pub holds_none : kind < array_kind
  pub is : scalar_of kind (get_or top 0 0) body ≡ v

flat : (v : Value) (kind : ℕ) (top body : List ℕ) → Begins kind top (length body) → 0 < kind → kind < array_kind
    → scalar_of kind (get_or top 0 0) body ≡ v → Flat v (top ++ body)
flat v kind top body begun some_kind holds_none is =
    record { kind = kind; top = top; body = body; split = refl; begun = begun; some_kind = some_kind; holds_none = holds_none; is = is }

-- ---- each row

-- a first byte alone
alone : (v : Value) (kind b : ℕ) → format_of b ≡ format kind 0 0 → 0 < kind → kind < array_kind → scalar_of kind b [] ≡ v → Flat v (b ∷ [])
alone v kind b form = flat v kind (b ∷ []) [] (fixed b kind 0 form)

-- a first byte, and as many bytes as it fixes
behind : (v : Value) (kind b w : ℕ) (e : List ℕ) → format_of b ≡ format kind 0 w → length e ≡ w → 0 < kind → kind < array_kind
    → scalar_of kind b e ≡ v → Flat v (b ∷ e)
behind v kind b w e form size = flat v kind (b ∷ []) e (λ rest. fixed b kind w form rest ∙ rw size)

unsigned_flat : (b w n : ℕ) (e : List ℕ) → format_of b ≡ format integer_kind 0 w → Number w n e
    → scalar_of integer_kind b e ≡ Integer (plus (big e)) → Flat (Integer (plus n)) (b ∷ e)
unsigned_flat b w n e form x is = behind (Integer (plus n)) integer_kind b w e form x.size (omega arith) (omega arith) (is ∙ rw x.is)

signed_size : {w : ℕ} {i : Int} {e : List ℕ} → Signed w i e → length e ≡ w
signed_size (non_negative x l) = x.size
signed_size (negative x l z) = x.size

signed_flat : (b w : ℕ) (i : Int) (e : List ℕ) → format_of b ≡ format integer_kind 0 w → 0 < w → Signed w i e
    → scalar_of integer_kind b e ≡ Integer (twos_complement (length e) (big e)) → Flat (Integer i) (b ∷ e)
signed_flat b w i e form h x is = behind (Integer i) integer_kind b w e form (signed_size x) (omega arith) (omega arith) (is ∙ ap Integer (signed_is w h x))

pub scalar_flat : {v : Value} {e : List ℕ} → Scalar v e → Flat v e
unfolding format_of formats scalar_of integer_of
scalar_flat nil = alone Nil nil_kind 0xc0 refl (omega arith) (omega arith) refl
scalar_flat false_byte = alone (Boolean false) boolean_kind 0xc2 refl (omega arith) (omega arith) refl
scalar_flat true_byte = alone (Boolean true) boolean_kind 0xc3 refl (omega arith) (omega arith) refl
scalar_flat (positive_fixint n h) = alone (Integer (plus n)) integer_kind n (at_positive n h) (omega arith) (omega arith) (rw (lt-ltb n 128 h))
scalar_flat (negative_fixint n m h z) = alone (Integer (minus m)) integer_kind (0xe0 + n) (at_negative n h) (omega arith) (omega arith)
    (ap Integer (agree (λ k. integer_of (0xe0 + k) 0 (big [])) (λ k. minus (32 - k)) 32 refl n h ∙ ap minus (omega arith)))
scalar_flat (uint8 {n = n} {e = e} x) = unsigned_flat 0xcc 1 n e refl x refl
scalar_flat (uint16 {n = n} {e = e} x) = unsigned_flat 0xcd 2 n e refl x refl
scalar_flat (uint32 {n = n} {e = e} x) = unsigned_flat 0xce 4 n e refl x refl
scalar_flat (uint64 {n = n} {e = e} x) = unsigned_flat 0xcf 8 n e refl x refl
scalar_flat (int8 {i = i} {e = e} x) = signed_flat 0xd0 1 i e refl (omega arith) x refl
scalar_flat (int16 {i = i} {e = e} x) = signed_flat 0xd1 2 i e refl (omega arith) x refl
scalar_flat (int32 {i = i} {e = e} x) = signed_flat 0xd2 4 i e refl (omega arith) x refl
scalar_flat (int64 {i = i} {e = e} x) = signed_flat 0xd3 8 i e refl (omega arith) x refl
scalar_flat (float32 {e = e} l o) = behind (Float e) float_kind 0xca 4 e refl l (omega arith) (omega arith) refl
scalar_flat (float64 {e = e} l o) = behind (Float e) float_kind 0xcb 8 e refl l (omega arith) (omega arith) refl
scalar_flat (text {h = h} {e = e} x o) = flat (Text e) text_kind h e (text_begins x) (omega arith) (omega arith) refl
scalar_flat (binary {h = h} {e = e} x o) = flat (Binary e) binary_kind h e (binary_begins x) (omega arith) (omega arith) refl
scalar_flat (extension {h = h} {t = t} {e = e} x k o) = flat (Extension t e) extension_kind h (t ∷ e) (extension_begins x) (omega arith) (omega arith) refl
