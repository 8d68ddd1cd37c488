-- The primary part of a pack list (document 001, "Pack Lists"; request 1; docs/FORMAT.md, Table 8): which range of a version lies in which range
-- of which pack.
use Rattle.std.specs.Prelude.{ℕ, ◌+◌, ◌-◌, ◌^◌, Bool, true, false, cond, ◌&&◌, ◌||◌, List, [], ◌∷◌, leb}
use Rattle.std.specs.Prelude.{Option, None, Some}
use Rattle.refusals.specs.Answers.{Answer, refused, granted, or_refused, if_once}
use Rattle.msgpack.specs.Readers.{Int}
use Rattle.msgpack.specs.Lookup.{Under, found, missing, broken, at_place, if_there, over}
use Rattle.msgpack.specs.Views.{View, repeats, byte_view}
use Rattle.identifier.specs.Ulid.{is_ulid}
use Rattle.identifier.specs.Identity.{Identity}
use Rattle.value.specs.Fields.{at_least_zero, natural_under}
use Rattle.pack_list.specs.declared.Range.{Range}
use Rattle.primary.specs.Parts.{if_fills, text_under, Shape, shape_under, identity_by, block_repeats}

-- ---- the keys: each is a text of one byte. The identifier's is a block's

abbrev pub entries_key : List ℕ
entries_key = 80 ∷ []  -- P

abbrev pub pack_key : List ℕ
pack_key = 112 ∷ []  -- p

abbrev pub source_key : List ℕ
source_key = 111 ∷ []  -- o

abbrev pub stored_key : List ℕ
stored_key = 116 ∷ []  -- t

abbrev pub lengths_key : List ℕ
lengths_key = 69 ∷ []  -- E

abbrev pub deltas_key : List ℕ
deltas_key = 78 ∷ []  -- N

abbrev pub start_key : List ℕ
start_key = 115 ∷ []  -- s

abbrev pub length_key : List ℕ
length_key = 108 ∷ []  -- l

-- those that are read in each map, beside the identifier's
abbrev pub list_keys : List (List ℕ)
list_keys = entries_key ∷ []

abbrev pub entry_keys : List (List ℕ)
entry_keys = pack_key ∷ source_key ∷ stored_key ∷ lengths_key ∷ deltas_key ∷ []

abbrev pub range_keys : List (List ℕ)
range_keys = start_key ∷ length_key ∷ []

-- ---- what a list holds

abbrev pub range : (start len : ℕ) → Range
range start len = record { start = start; len = len }

-- `source` is a range of the version, `stored` (001's pack range) one of the pack. 001's lists of block and source lengths are `lengths`, of all blocks,
-- or of all but the last, and `deltas`, from the stride
pub record Entry : Type 0 where
  pub pack : List ℕ
  pub source : Range
  pub stored : Range
  pub lengths : List ℕ
  pub deltas : List Int

pub record PackList : Type 0 where
  pub identifier : Identity
  pub entries : List Entry

-- ---- 17: what stands under a key

-- of each, where it can be told of all
unfoldable pub each_of : {A B : Type 0} → (A → Option B) → List A → Option (List B)
each_of read [] = Some []
each_of read (x ∷ xs) = if_there (read x) λ y. over (λ ys. y ∷ ys) (each_of read xs)

module _ {I : Type 0} (view : View I) where
  -- the items of an array
  unfoldable pub list_at : {A : Type 0} → (I → Option A) → I → Option (List A)
  list_at read i = if_there (view.items i) (each_of read)

  abbrev pub natural_at : I → Option ℕ
  natural_at i = at_least_zero (view.integer i)

  unfoldable pub range_at : I → Option Range
  range_at m =
      if_there (natural_under view start_key m (Some 0)) λ start.
      if_there (natural_under view length_key m (Some 0)) λ len.
      Some (range start len)

  -- the ranges must be there, in whatever form; an array that is absent is empty
  unfoldable pub entry_at : I → Option Entry
  entry_at m =
      if_there (text_under view pack_key m) λ pack.
      if_there (at_place None range_at (view.under source_key m)) λ source.
      if_there (at_place None range_at (view.under stored_key m)) λ stored.
      if_there (at_place (Some []) (list_at natural_at) (view.under lengths_key m)) λ lengths.
      if_there (at_place (Some []) (list_at view.integer) (view.under deltas_key m)) λ deltas.
      Some (record { pack = pack; source = source; stored = stored; lengths = lengths; deltas = deltas })

  unfoldable pub entries_under : I → Option (List Entry)
  entries_under m = at_place (Some []) (list_at entry_at) (view.under entries_key m)

-- ---- 22: whether a key that is read repeats

unfoldable pub any_of : {A : Type 0} → (A → Bool) → List A → Bool
any_of test [] = false
any_of test (x ∷ xs) = test x || any_of test xs

module _ {I : Type 0} (view : View I) where
  abbrev pub range_repeats : Under I → Bool
  range_repeats (found m) = repeats view range_keys m
  range_repeats missing = false
  range_repeats broken = false

  -- in an entry's map, or in that of one of its ranges
  unfoldable pub entry_repeats : I → Bool
  entry_repeats m = repeats view entry_keys m || (range_repeats (view.under source_key m) || range_repeats (view.under stored_key m))

  abbrev pub items_repeat : Option (List I) → Bool
  items_repeat (Some items) = any_of entry_repeats items
  items_repeat None = false

  abbrev pub entries_repeat : Under I → Bool
  entries_repeat (found l) = items_repeat (view.items l)
  entries_repeat missing = false
  entries_repeat broken = false

  -- beside the identifier
  unfoldable pub list_repeats : I → Bool
  list_repeats m = repeats view list_keys m || entries_repeat (view.under entries_key m)

-- ---- 18 and 21: the rules

unfoldable pub all_of : {A : Type 0} → (A → Bool) → List A → Bool
all_of test [] = true
all_of test (x ∷ xs) = test x && all_of test xs

unfoldable pub sum : List ℕ → ℕ
sum [] = 0
sum (n ∷ ns) = n + sum ns

-- what 64 bits hold
abbrev pub greatest : ℕ
greatest = 2 ^ 64 - 1

unfoldable pub is_short : Range → Bool
is_short r = leb (r.start + r.len) greatest

-- the ranges end within 64 bits, and the lengths listed within the range of the pack
unfoldable pub is_filled : Entry → Bool
is_filled e = is_short e.source && (is_short e.stored && leb (sum e.lengths) e.stored.len)

abbrev pub if_so : {A : Type 0} → Bool → ℕ → Answer A → Answer A
if_so test number next = cond test next (refused number)

-- ---- the list: all tests of types come first, then 22, then the rules

abbrev pub pack_list_by : Option Shape → Option (List Entry) → Bool → Answer PackList
pack_list_by shape entries repeated =
    or_refused 17 shape λ i.
    or_refused 17 entries λ es.
    if_once repeated
    (or_refused 18 (identity_by i) λ identifier.
    if_so (all_of (λ (e : Entry). is_ulid e.pack) es) 18
    (if_so (all_of is_filled es) 21
    (granted (record { identifier = identifier; entries = es }))))

module _ {I : Type 0} (view : View I) where
  abbrev pub pack_list_seen : I → Answer PackList
  pack_list_seen m = pack_list_by (shape_under view m) (entries_under view m) (block_repeats view m || list_repeats view m)

unfoldable pub pack_list : List ℕ → Answer PackList
pack_list s = if_fills s (pack_list_seen byte_view s)
