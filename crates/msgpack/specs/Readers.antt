-- What stands at the front of a list of bytes: an integer, a boolean, where a text or bytes have their content, the head of an array or map. What an answer
-- says besides of the form, `..Short`, is told in Short.antt.
use Rattle.std.specs.Prelude.{ℕ, ◌+◌, ◌-◌, ◌/◌, ◌^◌, Bool, false, cond, ◌&&◌, List, ltb, leb, eqb, length, get_or, take, drop}
use Rattle.std.specs.Prelude.{Option, None, Some}
use Rattle.endian.specs.Numbers.{big}
use Rattle.msgpack.specs.Formats.{boolean_kind, integer_kind, text_kind, binary_kind, array_kind, map_kind}
use Rattle.msgpack.specs.Items.{Head, head_of}
use Rattle.msgpack.specs.declared.Integer.{Integer}
use Rattle.msgpack.specs.declared.Integer.TheVariants as integer-answer
use Rattle.msgpack.specs.declared.Content.{Content}
use Rattle.msgpack.specs.declared.Items.{Items}

-- a head of this kind, and all the bytes that it asks for, in a list of so many
unfoldable pub is_whole : ℕ → Head → ℕ → Bool
is_whole kind h n = eqb h.kind kind && leb (h.size + h.count) n

-- ---- text and bytes

-- a part of a list
pub record Part : Type 0 where
  pub start : ℕ
  pub size : ℕ

abbrev pub part : ℕ → ℕ → Part
part start size = record { start = start; size = size }

abbrev pub content : List ℕ → Part → List ℕ
content s p = take p.size (drop p.start s)

-- the content of a part that is there
abbrev pub content_of_part : List ℕ → Option Part → Option (List ℕ)
content_of_part s (Some p) = Some (content s p)
content_of_part s None = None

unfoldable pub content_at : ℕ → List ℕ → Option Part
content_at kind s =
    cond (is_whole kind (head_of s) (length s)) (Some (part (head_of s).size (head_of s).count)) None

abbrev pub read_text : List ℕ → Option Part
read_text s = content_at text_kind s

abbrev pub read_binary : List ℕ → Option Part
read_binary s = content_at binary_kind s

abbrev pub part_of : Option Content → Option Part
part_of (Some c) = Some (part c.start c.len)
part_of None = None

abbrev pub part_short : Option Content → Bool
part_short (Some c) = c.short
part_short None = false

-- ---- boolean

unfoldable pub read_boolean : List ℕ → Option Bool
read_boolean s = cond (is_whole boolean_kind (head_of s) (length s)) (Some (eqb (get_or s 0 0) 0xc3)) None

-- ---- integer

-- an integer by its magnitude
pub data Int : Type 0 where
  plus : ℕ → Int  -- the integer n
  minus : ℕ → Int  -- the integer -n

-- half of the numbers of w bytes
abbrev pub half : ℕ → ℕ
half w = 256 ^ w / 2

-- the number n of w bytes, in two's complement
unfoldable pub twos_complement : ℕ → ℕ → Int
twos_complement w n = cond (ltb n (half w)) (plus n) (minus (half w + half w - n))

-- the integer with this first byte, whose w bytes after it are the number n
unfoldable pub integer_of : ℕ → ℕ → ℕ → Int
integer_of b w n =
    cond (ltb b 0x80) (plus b)  -- positive fixint
    (cond (ltb b 0xd0) (plus n)  -- CC to CF: uint 8 to uint 64
    (cond (ltb b 0xe0) (twos_complement w n)  -- D0 to D3: int 8 to int 64
    (minus (256 - b))))  -- negative fixint

unfoldable pub read_integer : List ℕ → Option Int
read_integer s =
    cond (is_whole integer_kind (head_of s) (length s))
    (Some (integer_of (get_or s 0 0) (head_of s).count (big (take (head_of s).count (drop (head_of s).size s)))))
    None

abbrev pub integer_read : Option Integer → Option Int
integer_read (Some (integer-answer.NonNegative n short)) = Some (plus n)
integer_read (Some (integer-answer.Negative n short)) = Some (minus n)
integer_read None = None

abbrev pub integer_short : Option Integer → Bool
integer_short (Some (integer-answer.NonNegative n short)) = short
integer_short (Some (integer-answer.Negative n short)) = short
integer_short None = false

-- ---- the head of an array or map

-- how many items, or pairs, and the head's own length
pub record Counted : Type 0 where
  pub count : ℕ
  pub size : ℕ

abbrev pub counted : ℕ → ℕ → Counted
counted count size = record { count = count; size = size }

unfoldable pub count_at : ℕ → List ℕ → Option Counted
count_at kind s = cond (eqb (head_of s).kind kind) (Some (counted (head_of s).count (head_of s).size)) None

abbrev pub read_array : List ℕ → Option Counted
read_array s = count_at array_kind s

abbrev pub read_map : List ℕ → Option Counted
read_map s = count_at map_kind s

abbrev pub counted_of : Option Items → Option Counted
counted_of (Some i) = Some (counted i.count i.size)
counted_of None = None

abbrev pub counted_short : Option Items → Bool
counted_short (Some i) = i.short
counted_short None = false
