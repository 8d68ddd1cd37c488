-- The shortest heads, and the place after one.
use Rattle.std.specs.Prelude.{ℕ, ◌+◌, cond, List, ◌∷◌, ltb, leb, length}
use Rattle.std.specs.Prelude.{Option, None, Some}
use Rattle.endian.specs.Numbers.{big_bytes}
use Rattle.msgpack_heads.specs.declared.Form as declared

-- a first byte, and the width of the number after it
pub record Form : Type 0 where
  pub first : ℕ
  pub width : ℕ

abbrev pub form_read : declared.Form → Form
form_read f = record { first = f.first; width = f.width }

abbrev pub form : ℕ → ℕ → Form
form first width = record { first = first; width = width }

abbrev pub form_bytes : Form → ℕ → List ℕ
form_bytes f n = f.first ∷ big_bytes f.width n

-- ---- which form is the shortest that holds n

-- of three forms with numbers of 1, 2 and 4 bytes, whose first bytes follow one another
unfoldable pub sized_form : ℕ → ℕ → Form
sized_form first n = cond (ltb n 256) (form first 1) (cond (ltb n 65536) (form (first + 1) 2) (form (first + 2) 4))

unfoldable pub text_form : ℕ → Form
text_form n = cond (ltb n 32) (form (0xa0 + n) 0) (sized_form 0xd9 n)

unfoldable pub unsigned_form : ℕ → Form
unsigned_form n = cond (ltb n 128) (form n 0) (cond (ltb n 4294967296) (sized_form 0xcc n) (form 0xcf 8))

-- of an array or map: the first byte of its fixed form, and that of its form of 2 bytes
unfoldable pub container_form : ℕ → ℕ → ℕ → Form
container_form fixed sized n = cond (ltb n 16) (form (fixed + n) 0) (cond (ltb n 65536) (form sized 2) (form (sized + 1) 4))

-- ---- the bytes

abbrev pub text_head : ℕ → List ℕ
text_head n = form_bytes (text_form n) n

abbrev pub binary_head : ℕ → List ℕ
binary_head n = form_bytes (sized_form 0xc4 n) n

abbrev pub unsigned_integer : ℕ → List ℕ
unsigned_integer n = form_bytes (unsigned_form n) n

abbrev pub array_head : ℕ → List ℕ
array_head n = form_bytes (container_form 0x90 0xdc n) n

abbrev pub map_head : ℕ → List ℕ
map_head n = form_bytes (container_form 0x80 0xde n) n

-- ---- written at a place

-- the place after the bytes e, where all of them lie within
unfoldable pub next_place : ℕ → ℕ → List ℕ → Option ℕ
next_place len at e = cond (leb (at + length e) len) (Some (at + length e)) None
