-- The short form row by row of the table: each row either is the one that the writer takes, or is longer, or is a signed form of an integer of at least 0.
use Rattle.std.specs.Prelude.{ℕ, ◌+◌, ◌-◌, ◌^◌, ◌≤◌, ◌<◌, Bool, cond, ◌&&◌, List, [], ◌∷◌, ◌≡◌, ltb, eqb, length, get_or}
use Rattle.std.proofs.Math.Bool.{true, false}
use Rattle.std.proofs.Math.Path.{refl}
use Rattle.std.proofs.Common.{sym, ap, arith}
use borrow.Author.Tests.{lt-ltb, le-ltb, ltb-true, ltb-false}
use Rattle.std.proofs.Math.Dec.{leb}
use Rattle.slices.specs.Tables.{agree}
use Rattle.endian.specs.Numbers.{big_bytes, little_bytes, bytes_of_big}
use Rattle.msgpack.specs.Formats.{integer_kind, text_kind, binary_kind, extension_kind, array_kind, map_kind, formats, format_of}
use Rattle.msgpack.specs.Readers.{plus, minus}
use Rattle.msgpack_heads.specs.Heads.{Form, form, form_bytes, sized_form, text_form, unsigned_form, container_form, text_head, binary_head, unsigned_integer, array_head, map_head}
use Rattle.msgpack.specs.Short.{fixed_holds, fits_in, short_width, argument_width, is_signed, signed_well, is_short}
use Rattle.msgpack_model.specs.Encoding.{Number, TextHead, fixstr, str8, str16, str32, BinaryHead, bin8, bin16, bin32, ExtensionHead, fixext1, fixext2, fixext4, fixext8, fixext16, ext8, ext16, ext32, ArrayHead, fixarray, array16, array32, MapHead, fixmap, map16, map32}
use Rattle.msgpack_model.specs.Writers.{number_lt, form_length}

-- ---- the forms that the project's writer has no use for

-- an extension of n bytes
unfoldable pub extension_form : ℕ → Form
extension_form n =
    cond (fixed_holds extension_kind (plus n))
    (form (cond (eqb n 1) 0xd4 (cond (eqb n 2) 0xd5 (cond (eqb n 4) 0xd6 (cond (eqb n 8) 0xd7 0xd8)))) 0)
    (sized_form 0xc7 n)

abbrev pub extension_head : ℕ → List ℕ
extension_head n = form_bytes (extension_form n) n

-- the integer -m
unfoldable pub negative_form : ℕ → Form
negative_form m =
    cond (leb m 32) (form (256 - m) 0)
    (cond (leb m 128) (form 0xd0 1) (cond (leb m 32768) (form 0xd1 2) (cond (leb m 2147483648) (form 0xd2 4) (form 0xd3 8))))

abbrev pub negative_integer : ℕ → List ℕ
negative_integer m = form_bytes (negative_form m) (256 ^ (negative_form m).width - m)

-- ---- what a row is, beside the form that the writer takes

-- `s` says whether the bytes e are the short form; f are the writer's
pub data Verdict (s : Bool) (e f : List ℕ) : Type 0 where
  same : s ≡ true → e ≡ f → Verdict s e f
  longer : s ≡ false → length f < length e → Verdict s e f

number_bytes : {w n : ℕ} {e : List ℕ} → Number w n e → big_bytes w n ≡ e
number_bytes {e = e} x = rw (← x.size, ← x.is) (bytes_of_big e x.bytes)

-- a row that is the writer's, and one that is longer
pub same_row : (s : Bool) (b w n : ℕ) {e : List ℕ} → Number w n e → s ≡ true → Verdict s (b ∷ e) (form_bytes (form b w) n)
same_row s b w n x t = same t (ap (λ l. b ∷ l) (sym (number_bytes x)))

pub longer_row : (s : Bool) (b w n m : ℕ) (f : Form) {e : List ℕ} → Number w n e → s ≡ false → f.width < w → Verdict s (b ∷ e) (form_bytes f m)
longer_row s b w n m f x t l = longer t (omega (arith, form_length f m, x.size))

-- ---- the three sized forms behind a fixed one

module _ (kind first n : ℕ) (fixed : Form) (flat : kind < array_kind) (one_byte : fixed.width ≡ 0) where
  -- the writer's form, and how wide the short form is, by the tests
  abbrev form_by : Bool → Bool → Bool → Form
  form_by t u v = cond t fixed (cond u (form first 1) (cond v (form (first + 1) 2) (form (first + 2) 4)))

  abbrev width_by : Bool → Bool → Bool → ℕ
  width_by t u v = cond t 0 (cond u 1 (cond v 2 4))

  abbrev SizedRow : ℕ → ℕ → List ℕ → Type 0
  SizedRow w b e = Verdict (eqb w (short_width kind (plus n))) (b ∷ e) (form_bytes (cond (fixed_holds kind (plus n)) fixed (sized_form first n)) n)

  by_tests : (w b : ℕ) (e : List ℕ) → n < 4294967296
      → ((t u v : Bool) → ltb n 256 ≡ u → ltb n 65536 ≡ v → Verdict (eqb w (width_by t u v)) (b ∷ e) (form_bytes (form_by t u v) n)) → SizedRow w b e
  unfolding short_width fits_in sized_form
  by_tests w b e small f = rw (lt-ltb n 4294967296 small, lt-ltb kind array_kind flat) (f (fixed_holds kind (plus n)) (ltb n 256) (ltb n 65536) refl refl)

  pub sized_1 : {e : List ℕ} → Number 1 n e → SizedRow 1 first e
  sized_1 {e = e} x = let l : n < 256 = number_lt x in by_tests 1 first e (omega arith) by
    where
      by : (t u v : Bool) → ltb n 256 ≡ u → ltb n 65536 ≡ v → Verdict (eqb 1 (width_by t u v)) (first ∷ e) (form_bytes (form_by t u v) n)
      by true u v p q = longer_row _ first 1 n n fixed x refl (omega arith)
      by false true v p q = same_row _ first 1 n x refl
      by false false v p q = let l : n < 256 = number_lt x in absurd (omega (arith, ltb-false n 256 p))

  pub sized_2 : {e : List ℕ} → Number 2 n e → SizedRow 2 (first + 1) e
  sized_2 {e = e} x = let l : n < 65536 = number_lt x in by_tests 2 (first + 1) e (omega arith) by
    where
      by : (t u v : Bool) → ltb n 256 ≡ u → ltb n 65536 ≡ v → Verdict (eqb 2 (width_by t u v)) ((first + 1) ∷ e) (form_bytes (form_by t u v) n)
      by true u v p q = longer_row _ (first + 1) 2 n n fixed x refl (omega arith)
      by false true v p q = longer_row _ (first + 1) 2 n n (form first 1) x refl (omega arith)
      by false false true p q = same_row _ (first + 1) 2 n x refl
      by false false false p q = let l : n < 65536 = number_lt x in absurd (omega (arith, ltb-false n 65536 q))

  pub sized_4 : {e : List ℕ} → Number 4 n e → SizedRow 4 (first + 2) e
  sized_4 {e = e} x = by_tests 4 (first + 2) e (number_lt x) by
    where
      by : (t u v : Bool) → ltb n 256 ≡ u → ltb n 65536 ≡ v → Verdict (eqb 4 (width_by t u v)) ((first + 2) ∷ e) (form_bytes (form_by t u v) n)
      by true u v p q = longer_row _ (first + 2) 4 n n fixed x refl (omega arith)
      by false true v p q = longer_row _ (first + 2) 4 n n (form first 1) x refl (omega arith)
      by false false true p q = longer_row _ (first + 2) 4 n n (form (first + 1) 2) x refl (omega arith)
      by false false false p q = same_row _ (first + 2) 4 n x refl

-- a test that adds nothing
pub still : (s : Bool) {e f : List ℕ} → Verdict s e f → Verdict (s && true) e f
still true x = x
still false x = x

-- ---- texts, bytes, extensions

pub text_verdict : {n : ℕ} {h : List ℕ} → TextHead n h → Verdict (is_short (get_or h 0 0) (plus n)) h (text_head n)
unfolding is_short argument_width signed_well is_signed format_of formats fixed_holds text_form short_width big_bytes little_bytes
text_verdict (fixstr n k) =
    same (agree (λ k. is_short (0xa0 + k) (plus k)) (λ k. true) 32 refl n k) (rw (lt-ltb n 32 k))
text_verdict (str8 {n = n} x) = still _ (sized_1 text_kind 0xd9 n (form (0xa0 + n) 0) (omega arith) refl x)
text_verdict (str16 {n = n} x) = still _ (sized_2 text_kind 0xd9 n (form (0xa0 + n) 0) (omega arith) refl x)
text_verdict (str32 {n = n} x) = still _ (sized_4 text_kind 0xd9 n (form (0xa0 + n) 0) (omega arith) refl x)

pub binary_verdict : {n : ℕ} {h : List ℕ} → BinaryHead n h → Verdict (is_short (get_or h 0 0) (plus n)) h (binary_head n)
unfolding is_short argument_width signed_well is_signed format_of formats fixed_holds
binary_verdict (bin8 {n = n} x) = still _ (sized_1 binary_kind 0xc4 n (form 0 0) (omega arith) refl x)
binary_verdict (bin16 {n = n} x) = still _ (sized_2 binary_kind 0xc4 n (form 0 0) (omega arith) refl x)
binary_verdict (bin32 {n = n} x) = still _ (sized_4 binary_kind 0xc4 n (form 0 0) (omega arith) refl x)

abbrev fixext : ℕ → Form
fixext n = form (cond (eqb n 1) 0xd4 (cond (eqb n 2) 0xd5 (cond (eqb n 4) 0xd6 (cond (eqb n 8) 0xd7 0xd8)))) 0

pub extension_verdict : {n : ℕ} {h : List ℕ} → ExtensionHead n h → Verdict (is_short (get_or h 0 0) (plus n)) h (extension_head n)
unfolding is_short argument_width signed_well is_signed format_of formats extension_form big_bytes little_bytes fixed_holds short_width
extension_verdict fixext1 = same refl refl
extension_verdict fixext2 = same refl refl
extension_verdict fixext4 = same refl refl
extension_verdict fixext8 = same refl refl
extension_verdict fixext16 = same refl refl
extension_verdict (ext8 {n = n} x) = still _ (sized_1 extension_kind 0xc7 n (fixext n) (omega arith) refl x)
extension_verdict (ext16 {n = n} x) = still _ (sized_2 extension_kind 0xc7 n (fixext n) (omega arith) refl x)
extension_verdict (ext32 {n = n} x) = still _ (sized_4 extension_kind 0xc7 n (fixext n) (omega arith) refl x)

-- ---- arrays and maps

module _ (kind fixed sized n : ℕ) (holds-items : array_kind ≤ kind) where
  abbrev container_by : Bool → Bool → Form
  container_by t v = cond t (form (fixed + n) 0) (cond v (form sized 2) (form (sized + 1) 4))

  abbrev container_width_by : Bool → Bool → Bool → ℕ
  container_width_by t u v = cond t 0 (cond u 2 (cond v 2 4))

  abbrev ContainerRow : ℕ → ℕ → List ℕ → Type 0
  ContainerRow w b e = Verdict (eqb w (short_width kind (plus n))) (b ∷ e) (form_bytes (cond (fixed_holds kind (plus n)) (form (fixed + n) 0) (cond (ltb n 65536) (form sized 2) (form (sized + 1) 4))) n)

  container_tests : (w b : ℕ) (e : List ℕ) → n < 4294967296
      → ((t u v : Bool) → ltb n 256 ≡ u → ltb n 65536 ≡ v → Verdict (eqb w (container_width_by t u v)) (b ∷ e) (form_bytes (container_by t v) n)) → ContainerRow w b e
  unfolding short_width fits_in
  container_tests w b e small f = rw (lt-ltb n 4294967296 small, le-ltb kind array_kind holds-items) (f (fixed_holds kind (plus n)) (ltb n 256) (ltb n 65536) refl refl)

  pub container_2 : {e : List ℕ} → Number 2 n e → ContainerRow 2 sized e
  container_2 {e = e} x = let l : n < 65536 = number_lt x in container_tests 2 sized e (omega arith) by
    where
      by : (t u v : Bool) → ltb n 256 ≡ u → ltb n 65536 ≡ v → Verdict (eqb 2 (container_width_by t u v)) (sized ∷ e) (form_bytes (container_by t v) n)
      by true u v p q = longer_row _ sized 2 n n (form (fixed + n) 0) x refl (omega arith)
      by false true true p q = same_row _ sized 2 n x refl
      by false false true p q = same_row _ sized 2 n x refl
      by false u false p q = let l : n < 65536 = number_lt x in absurd (omega (arith, ltb-false n 65536 q))

  pub container_4 : {e : List ℕ} → Number 4 n e → ContainerRow 4 (sized + 1) e
  container_4 {e = e} x = container_tests 4 (sized + 1) e (number_lt x) by
    where
      by : (t u v : Bool) → ltb n 256 ≡ u → ltb n 65536 ≡ v → Verdict (eqb 4 (container_width_by t u v)) ((sized + 1) ∷ e) (form_bytes (container_by t v) n)
      by true u v p q = longer_row _ (sized + 1) 4 n n (form (fixed + n) 0) x refl (omega arith)
      by false true true p q = longer_row _ (sized + 1) 4 n n (form sized 2) x refl (omega arith)
      by false false true p q = longer_row _ (sized + 1) 4 n n (form sized 2) x refl (omega arith)
      by false true false p q = absurd (omega (arith, ltb-true n 256 p, ltb-false n 65536 q))
      by false false false p q = same_row _ (sized + 1) 4 n x refl

pub array_verdict : {n : ℕ} {h : List ℕ} → ArrayHead n h → Verdict (is_short (get_or h 0 0) (plus n)) h (array_head n)
unfolding is_short argument_width signed_well is_signed format_of formats fixed_holds container_form short_width big_bytes little_bytes
array_verdict (fixarray n k) = same (agree (λ k. is_short (0x90 + k) (plus k)) (λ k. true) 16 refl n k) (rw (lt-ltb n 16 k))
array_verdict (array16 {n = n} x) = still _ (container_2 array_kind 0x90 0xdc n (omega arith) x)
array_verdict (array32 {n = n} x) = still _ (container_4 array_kind 0x90 0xdc n (omega arith) x)

pub map_verdict : {n : ℕ} {h : List ℕ} → MapHead n h → Verdict (is_short (get_or h 0 0) (plus n)) h (map_head n)
unfolding is_short argument_width signed_well is_signed format_of formats fixed_holds container_form short_width big_bytes little_bytes
map_verdict (fixmap n k) = same (agree (λ k. is_short (0x80 + k) (plus k)) (λ k. true) 16 refl n k) (rw (lt-ltb n 16 k))
map_verdict (map16 {n = n} x) = still _ (container_2 map_kind 0x80 0xde n (omega arith) x)
map_verdict (map32 {n = n} x) = still _ (container_4 map_kind 0x80 0xde n (omega arith) x)

-- ---- integers of at least 0, in unsigned forms

-- the writer's form of what 4 bytes hold
four_bytes : (n : ℕ) → n < 4294967296 → cond (fixed_holds integer_kind (plus n)) (form n 0) (sized_form 0xcc n) ≡ unsigned_form n
unfolding unsigned_form fixed_holds
four_bytes n l = rw (lt-ltb n 4294967296 l)

abbrev UnsignedRow : ℕ → ℕ → ℕ → List ℕ → Type 0
UnsignedRow w b n e = Verdict (eqb w (short_width integer_kind (plus n))) (b ∷ e) (unsigned_integer n)

pub fixed_unsigned : (n : ℕ) → n < 128 → Verdict (is_short n (plus n)) (n ∷ []) (unsigned_integer n)
unfolding is_short argument_width signed_well is_signed format_of formats fixed_holds short_width unsigned_form big_bytes little_bytes
fixed_unsigned n k = same (agree (λ k. is_short k (plus k)) (λ k. true) 128 refl n k) (rw (lt-ltb n 128 k))

unsigned_1 : (n : ℕ) {e : List ℕ} → Number 1 n e → UnsignedRow 1 0xcc n e
unsigned_1 n x = let l : n < 256 = number_lt x in rw (four_bytes n (omega arith)) at (sized_1 integer_kind 0xcc n (form n 0) (omega arith) refl x)

unsigned_2 : (n : ℕ) {e : List ℕ} → Number 2 n e → UnsignedRow 2 0xcd n e
unsigned_2 n x = let l : n < 65536 = number_lt x in rw (four_bytes n (omega arith)) at (sized_2 integer_kind 0xcc n (form n 0) (omega arith) refl x)

unsigned_4 : (n : ℕ) {e : List ℕ} → Number 4 n e → UnsignedRow 4 0xce n e
unsigned_4 n x = rw (four_bytes n (number_lt x)) at (sized_4 integer_kind 0xcc n (form n 0) (omega arith) refl x)

unsigned_8 : (n : ℕ) {e : List ℕ} → Number 8 n e → UnsignedRow 8 0xcf n e
unfolding short_width fits_in fixed_holds unsigned_form sized_form
unsigned_8 n {e = e} x = by (ltb n 128) (ltb n 256) (ltb n 65536) (ltb n 4294967296) refl refl refl
  where
    by : (t u v z : Bool) → ltb n 256 ≡ u → ltb n 65536 ≡ v → ltb n 4294967296 ≡ z
        → Verdict (eqb 8 (cond t 0 (cond u 1 (cond v 2 (cond z 4 8))))) (0xcf ∷ e)
        (form_bytes (cond t (form n 0) (cond z (cond u (form 0xcc 1) (cond v (form 0xcd 2) (form 0xce 4))) (form 0xcf 8))) n)
    by true u v z p q r = longer_row _ 0xcf 8 n n (form n 0) x refl (omega arith)
    by false true v true p q r = longer_row _ 0xcf 8 n n (form 0xcc 1) x refl (omega arith)
    by false false true true p q r = longer_row _ 0xcf 8 n n (form 0xcd 2) x refl (omega arith)
    by false false false true p q r = longer_row _ 0xcf 8 n n (form 0xce 4) x refl (omega arith)
    by false true v false p q r = absurd (omega (arith, ltb-true n 256 p, ltb-false n 4294967296 r))
    by false false true false p q r = absurd (omega (arith, ltb-true n 65536 q, ltb-false n 4294967296 r))
    by false false false false p q r = same_row _ 0xcf 8 n x refl

-- ---- negative integers

pub fixed_negative : (n m : ℕ) → n < 32 → n + m ≡ 32 → Verdict (is_short (0xe0 + n) (minus m)) ((0xe0 + n) ∷ []) (negative_integer m)
unfolding is_short argument_width signed_well is_signed format_of formats fixed_holds short_width negative_form big_bytes little_bytes
fixed_negative n m k z =
    let is : m ≡ 32 - n = omega arith in
    rw is (by_row n k)
  where
    by_row : (n : ℕ) → n < 32 → Verdict (is_short (0xe0 + n) (minus (32 - n))) ((0xe0 + n) ∷ []) (negative_integer (32 - n))
    by_row n k = same (agree (λ k. is_short (0xe0 + k) (minus (32 - k))) (λ k. true) 32 refl n k)
        (agree (λ k. (0xe0 + k) ∷ []) (λ k. negative_integer (32 - k)) 32 refl n k)

-- ---- integers, with their first bytes

pub unsigned_row_1 : (n : ℕ) {e : List ℕ} → Number 1 n e → Verdict (is_short 0xcc (plus n)) (0xcc ∷ e) (unsigned_integer n)
unfolding is_short argument_width signed_well is_signed format_of formats
unsigned_row_1 n x = still _ (unsigned_1 n x)

pub unsigned_row_2 : (n : ℕ) {e : List ℕ} → Number 2 n e → Verdict (is_short 0xcd (plus n)) (0xcd ∷ e) (unsigned_integer n)
unfolding is_short argument_width signed_well is_signed format_of formats
unsigned_row_2 n x = still _ (unsigned_2 n x)

pub unsigned_row_4 : (n : ℕ) {e : List ℕ} → Number 4 n e → Verdict (is_short 0xce (plus n)) (0xce ∷ e) (unsigned_integer n)
unfolding is_short argument_width signed_well is_signed format_of formats
unsigned_row_4 n x = still _ (unsigned_4 n x)

pub unsigned_row_8 : (n : ℕ) {e : List ℕ} → Number 8 n e → Verdict (is_short 0xcf (plus n)) (0xcf ∷ e) (unsigned_integer n)
unfolding is_short argument_width signed_well is_signed format_of formats
unsigned_row_8 n x = still _ (unsigned_8 n x)
