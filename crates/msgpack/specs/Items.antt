-- One item at the front of a list of bytes: its head, and how many bytes it takes (document 01: "passed over").
use Rattle.std.specs.Prelude.{ℕ, zero, suc, ◌+◌, ◌^◌, ◌≤◌, ◌<◌, cond, List, [], ◌∷◌, ◌≡◌, leb, eqb, length, drop}
use Rattle.std.specs.Prelude.{Option, None, Some, Result, Ok, Err}
use Rattle.endian.specs.Numbers.{big}
use Rattle.endian.specs.Places.{number_at}
use Rattle.msgpack.specs.Formats.{kind_index, unused_kind, array_kind, map_kind, Format, kind_of, width_of, amount_of, format_of}
use Rattle.msgpack.specs.declared.Head as declared
use Rattle.msgpack.specs.declared.Fault.{Fault}
use Rattle.msgpack.specs.declared.Fault.TheVariants.{Cut, TooDeep}

-- what passing over an item finds; document 01 calls an item whole, cut or too deep
pub data Passage : Type 0 where
  whole : ℕ → Passage  -- with its length
  cut : Passage  -- the bytes end early, or a byte C1 is met
  too_deep : Passage  -- a container stands deeper than the allowance

abbrev pub passage_of : Result ℕ Fault → Passage
passage_of (Ok n) = whole n
passage_of (Err Cut) = cut
passage_of (Err TooDeep) = too_deep

-- the number of a fault on document 01's refusal sheet
abbrev pub number_of : Fault → ℕ
number_of Cut = 9
number_of TooDeep = 10

-- ---- the head: the first byte, and the number that may follow it

pub record Head : Type 0 where
  pub kind : ℕ
  pub size : ℕ  -- the head's own length
  pub count : ℕ  -- how many bytes (of an array items, of a map pairs) follow the head

abbrev pub head_read : declared.Head → Head
head_read h = record { kind = kind_index h.kind; size = h.size; count = h.count }

abbrev pub head : ℕ → ℕ → ℕ → Head
head kind size count = record { kind = kind; size = size; count = count }

abbrev pub no_head : Head
no_head = head unused_kind 0 0

abbrev pub head_by : Format → Option ℕ → Head
head_by f (Some n) = head (kind_of f) (1 + width_of f) (amount_of f + n)
head_by f None = no_head

unfoldable pub head_of : List ℕ → Head
head_of [] = no_head
head_of (b ∷ t) = head_by (format_of b) (number_at big (b ∷ t) 1 (width_of (format_of b)))

-- what the code knows of a head that it has read
pub record HeadAt (s : List ℕ) (h : Head) : Type 0 where
  pub is : h ≡ head_of s
  pub inside : h.size ≤ length s
  pub small : h.count < 2 ^ 33

-- how many items a container of this kind and count holds
abbrev pub items_of : ℕ → ℕ → ℕ
items_of kind count = cond (eqb kind map_kind) (count + count) count

-- ---- passing over

-- n bytes more have been passed
abbrev pub beyond : ℕ → Passage → Passage
beyond n (whole m) = whole (n + m)
beyond n cut = cut
beyond n too_deep = too_deep

-- what comes after an item, if that is whole
abbrev pub and_then : Passage → (ℕ → Passage) → Passage
and_then (whole n) next = beyond n (next n)
and_then cut next = cut
and_then too_deep next = too_deep

-- so many items one after another, each passed over by `item`; the first that is not whole settles the answer
unfoldable pub pass_items : (List ℕ → Passage) → ℕ → List ℕ → Passage
pass_items item zero s = whole 0
pass_items item (suc count) s = and_then (item s) (λ n. pass_items item count (drop n s))

-- an item with this head; `inside` passes over a container's items
unfoldable pub pass_head : (ℕ → List ℕ → Passage) → Head → List ℕ → Passage
pass_head inside h s =
    cond (leb array_kind h.kind) (beyond h.size (inside (items_of h.kind h.count) (drop h.size s)))
    (cond (eqb h.kind unused_kind) cut
    (cond (leb (h.size + h.count) (length s)) (whole (h.size + h.count)) cut))

-- the item at the front, in which containers may stand `allowance` deep
unfoldable pub pass_item : ℕ → List ℕ → Passage
pass_item zero s = pass_head (λ count t. too_deep) (head_of s) s
pass_item (suc allowance) s = pass_head (pass_items (pass_item allowance)) (head_of s) s

-- the outermost container is at depth 1; depth 16 is read
abbrev pub depth_allowed : ℕ
depth_allowed = 16

abbrev pub pass_over : List ℕ → Passage
pass_over s = pass_item depth_allowed s

-- a whole item stands at the front
pub record WholeItem (s : List ℕ) : Type 0 where
  pub size : ℕ
  pub is : pass_over s ≡ whole size
