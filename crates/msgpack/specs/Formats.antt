-- What the first byte of an item says, by the specification's table of formats.
use Rattle.std.specs.Prelude.{ℕ, ◌-◌, cond, List, [], ◌∷◌, ltb, get_or}
use Rattle.msgpack.specs.declared.Kind.{Kind}
use Rattle.msgpack.specs.declared.Kind.TheVariants as the-kind
use Rattle.msgpack.specs.declared.Format as declared

-- The kinds of items are numbers here, so that two can be compared. Those that hold items, arrays and maps, come last.
abbrev pub unused_kind : ℕ
unused_kind = 0

abbrev pub nil_kind : ℕ
nil_kind = 1

abbrev pub boolean_kind : ℕ
boolean_kind = 2

abbrev pub integer_kind : ℕ
integer_kind = 3

abbrev pub float_kind : ℕ
float_kind = 4

abbrev pub text_kind : ℕ
text_kind = 5

abbrev pub binary_kind : ℕ
binary_kind = 6

abbrev pub extension_kind : ℕ
extension_kind = 7

abbrev pub array_kind : ℕ
array_kind = 8

abbrev pub map_kind : ℕ
map_kind = 9

abbrev pub kind_index : Kind → ℕ
kind_index the-kind.Unused = unused_kind
kind_index the-kind.Nil = nil_kind
kind_index the-kind.Boolean = boolean_kind
kind_index the-kind.Integer = integer_kind
kind_index the-kind.Float = float_kind
kind_index the-kind.Text = text_kind
kind_index the-kind.Binary = binary_kind
kind_index the-kind.Extension = extension_kind
kind_index the-kind.Array = array_kind
kind_index the-kind.Map = map_kind

-- What a first byte says: the item's kind; the width of the number that follows the first byte; an amount.
-- After that number stand as many bytes (of an array items, of a map pairs) as it and the amount together say.
pub record Format : Type 0 where
  pub kind : ℕ
  pub width : ℕ
  pub amount : ℕ

abbrev pub format : ℕ → ℕ → ℕ → Format
format kind width amount = record { kind = kind; width = width; amount = amount }

abbrev pub format_read : declared.Format → Format
format_read f = format (kind_index f.0) f.1 f.2

abbrev pub kind_of : Format → ℕ
kind_of f = f.kind

abbrev pub width_of : Format → ℕ
width_of f = f.width

abbrev pub amount_of : Format → ℕ
amount_of f = f.amount

-- the first bytes C0 to DF
unfoldable pub formats : List Format
formats =
    format nil_kind 0 0  -- C0: nil
    ∷ format unused_kind 0 0  -- C1: never used
    ∷ format boolean_kind 0 0  -- C2: false
    ∷ format boolean_kind 0 0  -- C3: true
    ∷ format binary_kind 1 0  -- C4: bin 8
    ∷ format binary_kind 2 0  -- C5: bin 16
    ∷ format binary_kind 4 0  -- C6: bin 32
    ∷ format extension_kind 1 1  -- C7: ext 8, whose type is one byte more
    ∷ format extension_kind 2 1  -- C8: ext 16
    ∷ format extension_kind 4 1  -- C9: ext 32
    ∷ format float_kind 0 4  -- CA: float 32
    ∷ format float_kind 0 8  -- CB: float 64
    ∷ format integer_kind 0 1  -- CC: uint 8
    ∷ format integer_kind 0 2  -- CD: uint 16
    ∷ format integer_kind 0 4  -- CE: uint 32
    ∷ format integer_kind 0 8  -- CF: uint 64
    ∷ format integer_kind 0 1  -- D0: int 8
    ∷ format integer_kind 0 2  -- D1: int 16
    ∷ format integer_kind 0 4  -- D2: int 32
    ∷ format integer_kind 0 8  -- D3: int 64
    ∷ format extension_kind 0 2  -- D4: fixext 1, whose type is one byte more
    ∷ format extension_kind 0 3  -- D5: fixext 2
    ∷ format extension_kind 0 5  -- D6: fixext 4
    ∷ format extension_kind 0 9  -- D7: fixext 8
    ∷ format extension_kind 0 17  -- D8: fixext 16
    ∷ format text_kind 1 0  -- D9: str 8
    ∷ format text_kind 2 0  -- DA: str 16
    ∷ format text_kind 4 0  -- DB: str 32
    ∷ format array_kind 2 0  -- DC: array 16
    ∷ format array_kind 4 0  -- DD: array 32
    ∷ format map_kind 2 0  -- DE: map 16
    ∷ format map_kind 4 0  -- DF: map 32
    ∷ []

unfoldable pub format_of : ℕ → Format
format_of b =
    cond (ltb b 0x80) (format integer_kind 0 0)  -- positive fixint
    (cond (ltb b 0x90) (format map_kind 0 (b - 0x80))  -- fixmap
    (cond (ltb b 0xa0) (format array_kind 0 (b - 0x90))  -- fixarray
    (cond (ltb b 0xc0) (format text_kind 0 (b - 0xa0))  -- fixstr
    (cond (ltb b 0xe0) (get_or formats (b - 0xc0) (format unused_kind 0 0))
    (format integer_kind 0 0)))))  -- negative fixint
