-- THE SHORT FORM (request 8), over the table of formats: a first byte, and the argument that it and what follows it say. Of an item that holds none, and
-- of the head of one that does.
use Rattle.std.specs.Prelude.{ℕ, ◌^◌, Bool, true, false, cond, not, ◌&&◌, ◌||◌, List, [], ◌∷◌, ◌≡◌, refl, ltb, leb, eqb, get_or}
use Rattle.std.specs.Prelude.{Option, None, Some}
use Rattle.endian.specs.Numbers.{little, big}
use Rattle.endian.specs.Places.{holds, number_at}
use Rattle.msgpack.specs.Formats.{integer_kind, text_kind, binary_kind, extension_kind, array_kind, kind_of, width_of, amount_of, formats, format_of}
use Rattle.msgpack.specs.Items.{head_of}
use Rattle.msgpack.specs.Readers.{is_whole, Part, content_at, read_text, Int, plus, minus, half, twos_complement, integer_of, read_integer, integer_read, integer_short, Counted, count_at, read_array}
use Rattle.msgpack.specs.declared.Integer.{Integer}

-- ---- the argument: an integer itself, the length of a content, an array's items, a map's pairs

-- the fixed form holds it: the first byte alone
unfoldable pub fixed_holds : ℕ → Int → Bool
fixed_holds kind (plus n) =
    cond (eqb kind integer_kind) (ltb n 128)
    (cond (eqb kind text_kind) (ltb n 32)
    (cond (eqb kind binary_kind) false
    (cond (eqb kind extension_kind) ((((eqb n 1 || eqb n 2) || eqb n 4) || eqb n 8) || eqb n 16)
    (cond (leb array_kind kind) (ltb n 16)
    true))))  -- nil, booleans and floats have one form for what they are
fixed_holds kind (minus n) = leb n 32

-- a number of w bytes holds it: from 0 on an unsigned one, below 0 one in two's complement
unfoldable pub fits_in : ℕ → Int → Bool
fits_in w (plus n) = ltb n (256 ^ w)
fits_in w (minus n) = leb n (half w)

-- how many bytes the short form has for it after the first byte: none in the fixed form if that holds it, else the least that do; arrays and maps have no
-- form with one
unfoldable pub short_width : ℕ → Int → ℕ
short_width kind i =
    cond (fixed_holds kind i) 0 (cond (fits_in 1 i) (cond (ltb kind array_kind) 1 2) (cond (fits_in 2 i) 2 (cond (fits_in 4 i) 4 8)))

-- ---- the form

-- how many bytes a form has for the argument after its first byte: an integer's own, of others the number that counts
unfoldable pub argument_width : ℕ → ℕ
argument_width b = cond (eqb (kind_of (format_of b)) integer_kind) (amount_of (format_of b)) (width_of (format_of b))

-- D0 to D3: int 8 to int 64
unfoldable pub is_signed : ℕ → Bool
is_signed b = leb 0xd0 b && ltb b 0xd4

-- no integer of at least 0 in a signed form
unfoldable pub signed_well : ℕ → Int → Bool
signed_well b (plus n) = not (is_signed b)
signed_well b (minus n) = true

-- the form with this first byte is the short one of the argument
unfoldable pub is_short : ℕ → Int → Bool
is_short b i = eqb (argument_width b) (short_width (kind_of (format_of b)) i) && signed_well b i

-- the same of an integer, by its width
unfoldable pub is_short_integer : ℕ → ℕ → Int → Bool
is_short_integer b width i = eqb width (short_width integer_kind i) && signed_well b i

-- ---- what the readers say of the form

-- the form at the front is the short one of the argument that was read there; it is not, where none was
abbrev pub short_front : List ℕ → Option Int → Bool
short_front s (Some i) = is_short (get_or s 0 0) i
short_front s None = false

-- the argument of a text or bytes: the length of the content
abbrev pub length_read : Option Part → Option Int
length_read (Some p) = Some (plus p.size)
length_read None = None

-- of an array or map: its items or pairs
abbrev pub count_read : Option Counted → Option Int
count_read (Some c) = Some (plus c.count)
count_read None = None

-- an answer that tells this integer, in the form with this first byte and w bytes behind it
pub record IntegerTold (b w : ℕ) (i : Int) (r : Integer) : Type 0 where
  pub value : integer_read (Some r) ≡ Some i
  pub form : integer_short (Some r) ≡ is_short_integer b w i

-- ---- examples: both sides of each border, as first bytes and arguments

abbrev every_short : List (ℕ × Int) → Bool
every_short [] = true
every_short (x ∷ xs) = is_short x.0 x.1 && every_short xs

abbrev some_short : List (ℕ × Int) → Bool
some_short [] = false
some_short (x ∷ xs) = is_short x.0 x.1 || some_short xs

integers_short : every_short
    ((0x7f, plus 127) ∷ (0xcc, plus 128) ∷ (0xcc, plus 255) ∷ (0xcd, plus 256) ∷ (0xcd, plus 65535) ∷ (0xce, plus 65536) ∷ (0xce, plus 4294967295)
    ∷ (0xcf, plus 4294967296) ∷ (0xcf, plus 18446744073709551615) ∷ (0xff, minus 1) ∷ (0xe0, minus 32) ∷ (0xd0, minus 33) ∷ (0xd0, minus 128)
    ∷ (0xd1, minus 129) ∷ (0xd1, minus 32768) ∷ (0xd2, minus 32769) ∷ (0xd2, minus 2147483648) ∷ (0xd3, minus 2147483649)
    ∷ (0xd3, minus 9223372036854775808) ∷ []) ≡ true
unfolding is_short argument_width short_width fixed_holds fits_in signed_well is_signed format_of formats
integers_short = refl

-- a signed form of an integer of at least 0 too
integers_wasteful : some_short
    ((0xcc, plus 127) ∷ (0xcd, plus 255) ∷ (0xce, plus 65535) ∷ (0xcf, plus 4294967295) ∷ (0xd0, plus 100) ∷ (0xd1, plus 128) ∷ (0xd3, plus 2147483648)
    ∷ (0xd0, minus 32) ∷ (0xd1, minus 128) ∷ (0xd2, minus 32768) ∷ (0xd3, minus 2147483648) ∷ []) ≡ false
unfolding is_short argument_width short_width fixed_holds fits_in signed_well is_signed format_of formats
integers_wasteful = refl

contents_short : every_short
    ((0xbf, plus 31) ∷ (0xd9, plus 32) ∷ (0xd9, plus 255) ∷ (0xda, plus 256) ∷ (0xda, plus 65535) ∷ (0xdb, plus 65536) ∷ (0xc4, plus 0) ∷ (0xc4, plus 255)
    ∷ (0xc5, plus 256) ∷ (0xc5, plus 65535) ∷ (0xc6, plus 65536) ∷ (0xc7, plus 0) ∷ (0xd4, plus 1) ∷ (0xd5, plus 2) ∷ (0xc7, plus 3) ∷ (0xd6, plus 4)
    ∷ (0xd7, plus 8) ∷ (0xc7, plus 15) ∷ (0xd8, plus 16) ∷ (0xc7, plus 17) ∷ (0xc7, plus 255) ∷ (0xc8, plus 256) ∷ (0xc9, plus 65536) ∷ []) ≡ true
unfolding is_short argument_width short_width fixed_holds fits_in signed_well is_signed format_of formats
contents_short = refl

contents_wasteful : some_short
    ((0xd9, plus 31) ∷ (0xda, plus 255) ∷ (0xdb, plus 65535) ∷ (0xc5, plus 255) ∷ (0xc6, plus 65535) ∷ (0xc7, plus 1) ∷ (0xc7, plus 16) ∷ (0xc8, plus 255)
    ∷ (0xc8, plus 16) ∷ (0xc9, plus 65535) ∷ []) ≡ false
unfolding is_short argument_width short_width fixed_holds fits_in signed_well is_signed format_of formats
contents_wasteful = refl

others_short : every_short
    ((0x9f, plus 15) ∷ (0xdc, plus 16) ∷ (0xdc, plus 65535) ∷ (0xdd, plus 65536) ∷ (0x8f, plus 15) ∷ (0xde, plus 16) ∷ (0xde, plus 65535) ∷ (0xdf, plus 65536)
    ∷ (0xc0, plus 0) ∷ (0xc2, plus 0) ∷ (0xc3, plus 1) ∷ (0xca, plus 0) ∷ (0xcb, plus 0) ∷ []) ≡ true
unfolding is_short argument_width short_width fixed_holds fits_in signed_well is_signed format_of formats
others_short = refl

containers_wasteful : some_short
    ((0xdc, plus 15) ∷ (0xdd, plus 65535) ∷ (0xde, plus 15) ∷ (0xdf, plus 65535) ∷ []) ≡ false
unfolding is_short argument_width short_width fixed_holds fits_in signed_well is_signed format_of formats
containers_wasteful = refl

-- each half of the rule by itself: an array of 16 has two bytes for it, and 100 is in int 8 as it never is
array_width : short_width array_kind (plus 16) ≡ 2
unfolding short_width fixed_holds fits_in
array_width = refl

signed_never : signed_well 0xd0 (plus 100) ≡ false
unfolding signed_well is_signed
signed_never = refl

-- 100 in one byte, and in uint 8 and int 8
integers_said :
    (short_front (100 ∷ []) (read_integer (100 ∷ [])) ≡ true) × (short_front (0xcc ∷ 100 ∷ []) (read_integer (0xcc ∷ 100 ∷ [])) ≡ false)
    × (short_front (0xd0 ∷ 100 ∷ []) (read_integer (0xd0 ∷ 100 ∷ [])) ≡ false)
unfolding is_short argument_width short_width fixed_holds fits_in signed_well is_signed format_of formats read_integer is_whole head_of integer_of twos_complement number_at
    holds big little
integers_said = (refl, refl, refl)

-- a text of two bytes in both forms, an array of 15 in array 16, and a text that is cut
counts_said :
    (short_front (0xa2 ∷ 104 ∷ 105 ∷ []) (length_read (read_text (0xa2 ∷ 104 ∷ 105 ∷ []))) ≡ true)
    × (short_front (0xd9 ∷ 2 ∷ 104 ∷ 105 ∷ []) (length_read (read_text (0xd9 ∷ 2 ∷ 104 ∷ 105 ∷ []))) ≡ false)
    × (short_front (0x9f ∷ []) (count_read (read_array (0x9f ∷ []))) ≡ true)
    × (short_front (0xdc ∷ 0 ∷ 15 ∷ []) (count_read (read_array (0xdc ∷ 0 ∷ 15 ∷ []))) ≡ false)
    × (short_front (0xa2 ∷ 104 ∷ []) (length_read (read_text (0xa2 ∷ 104 ∷ []))) ≡ false)
unfolding is_short argument_width short_width fixed_holds fits_in signed_well is_signed format_of formats content_at count_at is_whole head_of number_at holds big little
counts_said = (refl, refl, refl, refl, refl)
