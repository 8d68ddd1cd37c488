-- What the writers write are encodings; none is shorter; and each reads back.
use Rattle.std.specs.Prelude.{ℕ, suc, ◌+◌, ◌^◌, ◌≤◌, ◌<◌, Bool, true, false, cond, List, [], ◌∷◌, ◌++◌, ◌≡◌, refl, ltb, length}
use Rattle.std.specs.Prelude.{Some}
use Rattle.std.proofs.Common.{ap, ◌∙◌, mod-eq_of_lt, arith, ltb-true, ltb-false, length-append}
use Rattle.slices.specs.Bytes.{AllBytes}
use Rattle.endian.specs.Numbers.{little_bytes, big_lt, big_bytes, length_big_bytes, big_bytes_bytes, big_of_bytes}
use Rattle.msgpack.specs.Readers.{plus, counted, count_at, read_map}
use Rattle.msgpack_heads.specs.Heads.{Form, form, form_bytes, sized_form, text_form, unsigned_form, container_form, text_head, binary_head, unsigned_integer, array_head, map_head}
use Rattle.msgpack_model.specs.Values.{Integer, Text, Binary, Map, Pairs, count_pairs}
use Rattle.msgpack_model.specs.Encoding.{Number, non_negative, TextHead, fixstr, str8, str16, str32, BinaryHead, bin8, bin16, bin32, ArrayHead, fixarray, array16, array32, MapHead, fixmap, map16, map32, positive_fixint, uint8, uint16, uint32, uint64, int8, int16, int32, int64, text, binary, Encodes, scalar, map, EncodesPairs}
use Rattle.msgpack_model.specs.Heads.{map_begins}

-- ---- the bytes of a number

pub number_written : (w n : ℕ) → n < 256 ^ w → Number w n (big_bytes w n)
number_written w n h = record { size = length_big_bytes w n; bytes = big_bytes_bytes w n; is = big_of_bytes w n ∙ mod-eq_of_lt h }

pub number_lt : {w n : ℕ} {e : List ℕ} → Number w n e → n < 256 ^ w
number_lt {e = e} x = rw (x.size, x.is) at (big_lt e x.bytes)

pub form_length : (f : Form) (n : ℕ) → length (form_bytes f n) ≡ 1 + f.width
form_length f n = ap suc (length_big_bytes f.width n) ∙ omega arith

-- ---- a form by a test

-- what holds of the form that a test picks
pub by_test : (P : Form → Type 0) (n bound : ℕ) (f g : Form) → (n < bound → P f) → (bound ≤ n → P g) → P (cond (ltb n bound) f g)
by_test P n bound f g p q = go (ltb n bound) refl
  where
    go : (t : Bool) → ltb n bound ≡ t → P (cond t f g)
    go true e = p (ltb-true n bound e)
    go false e = q (ltb-false n bound e)

-- of the three sized forms, the one of w bytes holds n
pub sized_by : (P : Form → Type 0) (first n : ℕ) → (n < 256 → P (form first 1)) → (n < 65536 → P (form (first + 1) 2))
    → P (form (first + 2) 4) → P (sized_form first n)
unfolding sized_form
sized_by P first n p q r = by_test P n 256 _ _ p λ h. by_test P n 65536 _ _ q λ k. r

-- ---- each is such a head

pub text_head_lem : (n : ℕ) → n < 2 ^ 32 → TextHead n (text_head n)
unfolding text_form big_bytes little_bytes
text_head_lem n h =
    by_test (λ f. TextHead n (form_bytes f n)) n 32 _ _ (λ k. fixstr n k)
    λ k. sized_by (λ f. TextHead n (form_bytes f n)) 0xd9 n (λ l. str8 (number_written 1 n l)) (λ l. str16 (number_written 2 n l)) (str32 (number_written 4 n h))

pub binary_head_lem : (n : ℕ) → n < 2 ^ 32 → BinaryHead n (binary_head n)
binary_head_lem n h = sized_by (λ f. BinaryHead n (form_bytes f n)) 0xc4 n (λ l. bin8 (number_written 1 n l))
    (λ l. bin16 (number_written 2 n l)) (bin32 (number_written 4 n h))

pub array_head_lem : (n : ℕ) → n < 2 ^ 32 → ArrayHead n (array_head n)
unfolding container_form big_bytes little_bytes
array_head_lem n h =
    by_test (λ f. ArrayHead n (form_bytes f n)) n 16 _ _ (λ k. fixarray n k)
    λ k. by_test (λ f. ArrayHead n (form_bytes f n)) n 65536 _ _ (λ l. array16 (number_written 2 n l)) (λ l. array32 (number_written 4 n h))

pub map_head_lem : (n : ℕ) → n < 2 ^ 32 → MapHead n (map_head n)
unfolding container_form big_bytes little_bytes
map_head_lem n h =
    by_test (λ f. MapHead n (form_bytes f n)) n 16 _ _ (λ k. fixmap n k)
    λ k. by_test (λ f. MapHead n (form_bytes f n)) n 65536 _ _ (λ l. map16 (number_written 2 n l)) (λ l. map32 (number_written 4 n h))

-- ---- what is written is an encoding

pub text_written : (t : List ℕ) → AllBytes t → length t < 2 ^ 32 → Encodes (Text t) (text_head (length t) ++ t)
text_written t bytes h = scalar (text (text_head_lem (length t) h) bytes)

pub binary_written : (t : List ℕ) → AllBytes t → length t < 2 ^ 32 → Encodes (Binary t) (binary_head (length t) ++ t)
binary_written t bytes h = scalar (binary (binary_head_lem (length t) h) bytes)

pub unsigned_written : (n : ℕ) → n < 2 ^ 64 → Encodes (Integer (plus n)) (unsigned_integer n)
unfolding unsigned_form big_bytes little_bytes
unsigned_written n h =
    by_test (λ f. Encodes (Integer (plus n)) (form_bytes f n)) n 128 _ _ (λ k. scalar (positive_fixint n k))
    λ k. by_test (λ f. Encodes (Integer (plus n)) (form_bytes f n)) n 4294967296 _ _
    (λ l. sized_by (λ f. Encodes (Integer (plus n)) (form_bytes f n)) 0xcc n (λ m. scalar (uint8 (number_written 1 n m)))
    (λ m. scalar (uint16 (number_written 2 n m))) (scalar (uint32 (number_written 4 n l))))
    λ l. scalar (uint64 (number_written 8 n h))

pub map_written : {ps : Pairs} {e : List ℕ} → EncodesPairs ps e → count_pairs ps < 2 ^ 32 → Encodes (Map ps) (map_head (count_pairs ps) ++ e)
map_written {ps = ps} x h = map (map_head_lem (count_pairs ps) h) x

-- ---- none is shorter

-- a form that a test picks is no wider than w
narrow : (w n bound : ℕ) (f g : Form) → (n < bound → f.width ≤ w) → (bound ≤ n → g.width ≤ w) → (cond (ltb n bound) f g).width ≤ w
narrow w n bound f g p q = by_test (λ (h : Form). h.width ≤ w) n bound f g p q

-- a sized form is no wider than w bytes that hold n, where w is 1, 2 or 4
sized_1 : (first n : ℕ) → n < 256 → (sized_form first n).width ≤ 1
unfolding sized_form
sized_1 first n h = narrow 1 n 256 _ _ (λ k. omega arith) (λ k. absurd (omega arith))

sized_2 : (first n : ℕ) → n < 65536 → (sized_form first n).width ≤ 2
unfolding sized_form
sized_2 first n h = narrow 2 n 256 _ _ (λ k. omega arith) (λ k. narrow 2 n 65536 _ _ (λ l. omega arith) (λ l. absurd (omega arith)))

sized_4 : (first n : ℕ) → (sized_form first n).width ≤ 4
unfolding sized_form
sized_4 first n = narrow 4 n 256 _ _ (λ k. omega arith) (λ k. narrow 4 n 65536 _ _ (λ l. omega arith) (λ l. omega arith))

text_narrow : (w n : ℕ) → (sized_form 0xd9 n).width ≤ w → (text_form n).width ≤ w
unfolding text_form
text_narrow w n h = narrow w n 32 _ _ (λ k. omega arith) (λ k. h)

text_fixed : (n : ℕ) → n < 32 → (text_form n).width ≤ 0
unfolding text_form
text_fixed n h = narrow 0 n 32 _ _ (λ k. omega arith) (λ k. absurd (omega arith))

unsigned_fixed : (n : ℕ) → n < 128 → (unsigned_form n).width ≤ 0
unfolding unsigned_form
unsigned_fixed n h = narrow 0 n 128 _ _ (λ k. omega arith) (λ k. absurd (omega arith))

unsigned_narrow : (w n : ℕ) → n < 4294967296 → (sized_form 0xcc n).width ≤ w → (unsigned_form n).width ≤ w
unfolding unsigned_form
unsigned_narrow w n h s = narrow w n 128 _ _ (λ k. omega arith) (λ k. narrow w n 4294967296 _ _ (λ l. s) (λ l. absurd (omega arith)))

unsigned_8 : (n : ℕ) → (unsigned_form n).width ≤ 8
unfolding unsigned_form
unsigned_8 n = narrow 8 n 128 _ _ (λ k. omega arith) (λ k. narrow 8 n 4294967296 _ _ (λ l. omega (arith, sized_4 0xcc n)) (λ l. omega arith))

container_fixed : (fixed sized n : ℕ) → n < 16 → (container_form fixed sized n).width ≤ 0
unfolding container_form
container_fixed fixed sized n h = narrow 0 n 16 _ _ (λ k. omega arith) (λ k. absurd (omega arith))

container_2 : (fixed sized n : ℕ) → n < 65536 → (container_form fixed sized n).width ≤ 2
unfolding container_form
container_2 fixed sized n h = narrow 2 n 16 _ _ (λ k. omega arith) (λ k. narrow 2 n 65536 _ _ (λ l. omega arith) (λ l. absurd (omega arith)))

container_4 : (fixed sized n : ℕ) → (container_form fixed sized n).width ≤ 4
unfolding container_form
container_4 fixed sized n = narrow 4 n 16 _ _ (λ k. omega arith) (λ k. narrow 4 n 65536 _ _ (λ l. omega arith) (λ l. omega arith))

-- a first byte alone, and a first byte with a number of w bytes behind it, are as long
one_byte : (f : Form) (n b : ℕ) → f.width ≤ 0 → length (form_bytes f n) ≤ length (b ∷ [])
one_byte f n b h = omega (arith, form_length f n)

as_long : (f : Form) (n w : ℕ) {m : ℕ} {e : List ℕ} (b : ℕ) → Number w m e → f.width ≤ w → length (form_bytes f n) ≤ length (b ∷ e)
as_long f n w b x h = omega (arith, form_length f n, x.size)

pub text_head_shortest : {n : ℕ} {h : List ℕ} → TextHead n h → length (text_head n) ≤ length h
text_head_shortest (fixstr n k) = one_byte (text_form n) n (0xa0 + n) (text_fixed n k)
text_head_shortest (str8 {n = n} x) = as_long (text_form n) n 1 0xd9 x (text_narrow 1 n (sized_1 0xd9 n (number_lt x)))
text_head_shortest (str16 {n = n} x) = as_long (text_form n) n 2 0xda x (text_narrow 2 n (sized_2 0xd9 n (number_lt x)))
text_head_shortest (str32 {n = n} x) = as_long (text_form n) n 4 0xdb x (text_narrow 4 n (sized_4 0xd9 n))

pub binary_head_shortest : {n : ℕ} {h : List ℕ} → BinaryHead n h → length (binary_head n) ≤ length h
binary_head_shortest (bin8 {n = n} x) = as_long (sized_form 0xc4 n) n 1 0xc4 x (sized_1 0xc4 n (number_lt x))
binary_head_shortest (bin16 {n = n} x) = as_long (sized_form 0xc4 n) n 2 0xc5 x (sized_2 0xc4 n (number_lt x))
binary_head_shortest (bin32 {n = n} x) = as_long (sized_form 0xc4 n) n 4 0xc6 x (sized_4 0xc4 n)

pub array_head_shortest : {n : ℕ} {h : List ℕ} → ArrayHead n h → length (array_head n) ≤ length h
array_head_shortest (fixarray n k) = one_byte (container_form 0x90 0xdc n) n (0x90 + n) (container_fixed 0x90 0xdc n k)
array_head_shortest (array16 {n = n} x) = as_long (container_form 0x90 0xdc n) n 2 0xdc x (container_2 0x90 0xdc n (number_lt x))
array_head_shortest (array32 {n = n} x) = as_long (container_form 0x90 0xdc n) n 4 0xdd x (container_4 0x90 0xdc n)

pub map_head_shortest : {n : ℕ} {h : List ℕ} → MapHead n h → length (map_head n) ≤ length h
map_head_shortest (fixmap n k) = one_byte (container_form 0x80 0xde n) n (0x80 + n) (container_fixed 0x80 0xde n k)
map_head_shortest (map16 {n = n} x) = as_long (container_form 0x80 0xde n) n 2 0xde x (container_2 0x80 0xde n (number_lt x))
map_head_shortest (map32 {n = n} x) = as_long (container_form 0x80 0xde n) n 4 0xdf x (container_4 0x80 0xde n)

pub text_shortest : {t e : List ℕ} → Encodes (Text t) e → length (text_head (length t) ++ t) ≤ length e
text_shortest (scalar (text {h = h} {e = t} x bytes)) =
    rw (length-append (text_head (length t)) t, length-append h t) (omega (arith, text_head_shortest x))

pub binary_shortest : {t e : List ℕ} → Encodes (Binary t) e → length (binary_head (length t) ++ t) ≤ length e
binary_shortest (scalar (binary {h = h} {e = t} x bytes)) =
    rw (length-append (binary_head (length t)) t, length-append h t) (omega (arith, binary_head_shortest x))

unsigned_1 : (n : ℕ) {e : List ℕ} → Number 1 n e → (unsigned_form n).width ≤ 1
unsigned_1 n x = let h : n < 256 = number_lt x in unsigned_narrow 1 n (omega arith) (sized_1 0xcc n h)

unsigned_2 : (n : ℕ) {e : List ℕ} → Number 2 n e → (unsigned_form n).width ≤ 2
unsigned_2 n x = let h : n < 65536 = number_lt x in unsigned_narrow 2 n (omega arith) (sized_2 0xcc n h)

unsigned_4 : (n : ℕ) {e : List ℕ} → Number 4 n e → (unsigned_form n).width ≤ 4
unsigned_4 n x = unsigned_narrow 4 n (number_lt x) (sized_4 0xcc n)

-- of an integer from 0 on, no encoding at all is shorter, signed forms included
pub unsigned_shortest : {n : ℕ} {e : List ℕ} → Encodes (Integer (plus n)) e → length (unsigned_integer n) ≤ length e
unsigned_shortest (scalar (positive_fixint n h)) = one_byte (unsigned_form n) n n (unsigned_fixed n h)
unsigned_shortest (scalar (uint8 {n = n} x)) = as_long (unsigned_form n) n 1 0xcc x (unsigned_1 n x)
unsigned_shortest (scalar (uint16 {n = n} x)) = as_long (unsigned_form n) n 2 0xcd x (unsigned_2 n x)
unsigned_shortest (scalar (uint32 {n = n} x)) = as_long (unsigned_form n) n 4 0xce x (unsigned_4 n x)
unsigned_shortest (scalar (uint64 {n = n} x)) = as_long (unsigned_form n) n 8 0xcf x (unsigned_8 n)
unsigned_shortest (scalar (int8 (non_negative {n = n} x l))) = as_long (unsigned_form n) n 1 0xd0 x (unsigned_1 n x)
unsigned_shortest (scalar (int16 (non_negative {n = n} x l))) = as_long (unsigned_form n) n 2 0xd1 x (unsigned_2 n x)
unsigned_shortest (scalar (int32 (non_negative {n = n} x l))) = as_long (unsigned_form n) n 4 0xd2 x (unsigned_4 n x)
unsigned_shortest (scalar (int64 (non_negative {n = n} x l))) = as_long (unsigned_form n) n 8 0xd3 x (unsigned_8 n)

-- ---- each reads back, whatever follows

pub map_reads_back : (n : ℕ) → n < 2 ^ 32 → (rest : List ℕ) → read_map (map_head n ++ rest) ≡ Some (counted n (length (map_head n)))
unfolding count_at
map_reads_back n h rest = rw (map_begins (map_head_lem n h) rest)
