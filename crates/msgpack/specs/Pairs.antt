-- The pairs of a map: the one at a place; and what one pass over a whole map tells of a few wanted keys, which are given by their codes.
use Rattle.std.specs.Prelude.{ℕ, zero, suc, ◌+◌, ◌^◌, ◌≤◌, ◌<◌, Bool, true, false, cond, ◌&&◌, ◌||◌, List, [], ◌∷◌, ◌≡◌, leb, ltb, eqb, length, drop, get_or}
use Rattle.std.specs.Prelude.{Option, None, Some, Result, Ok, Err}
use Rattle.slices.specs.Bytes.{AllBytes}
use Rattle.endian.specs.Numbers.{big}
use Rattle.msgpack.specs.Formats.{map_kind}
use Rattle.msgpack.specs.Items.{Passage, whole, cut, too_deep, passage_of, head_of, beyond, pass_items, pass_item, depth_allowed, pass_over}
use Rattle.msgpack.specs.Readers.{Part, content, read_text}
use Rattle.msgpack.specs.Lookup.{ValuePlace, found, missing, broken, if_whole, key_at, last_where, last_value}
use Rattle.msgpack.specs.declared.Pair.{Pair}
use Rattle.msgpack.specs.declared.Fault.{Fault}
use Rattle.msgpack.specs.declared.Fault.TheVariants.{Cut, TooDeep}
use Rattle.msgpack.specs.declared.Values.{Values}
use Rattle.msgpack.specs.declared.Pairs.{Pairs}

-- ---- codes of keys

-- a text as a number: its bytes, with a 1 before them
unfoldable pub code_of : List ℕ → ℕ
code_of key = 256 ^ length key + big key

-- the code of every key that is no text of at most 3 bytes
abbrev pub other_code : ℕ
other_code = 0xffffffff

abbrev pub code_of_part : List ℕ → Option Part → ℕ
code_of_part s (Some p) = cond (leb p.size 3) (code_of (content s p)) other_code
code_of_part s None = other_code

-- the code of the key at the front
unfoldable pub code_at : List ℕ → ℕ
code_at s = code_of_part s (read_text s)

-- where a code first stands among the keys; their number, where it does not
unfoldable pub position : List ℕ → ℕ → ℕ
position [] code = 0
position (k ∷ keys) code = cond (eqb k code) 0 (suc (position keys code))

-- ---- a pair

-- what passing over a pair finds: what becomes of the first of its two items that is not whole settles it
pub data PairPassage : Type 0 where
  whole_pair : (code value next : ℕ) → PairPassage  -- the code of the key, the place of the value, and that of what follows
  cut_pair : PairPassage
  deep_pair : PairPassage

abbrev pub pair_of : Result Pair Fault → PairPassage
pair_of (Ok p) = whole_pair p.code p.value p.next
pair_of (Err Cut) = cut_pair
pair_of (Err TooDeep) = deep_pair

abbrev pub if_passed : Passage → (ℕ → PairPassage) → PairPassage
if_passed (whole n) next = next n
if_passed cut next = cut_pair
if_passed too_deep next = deep_pair

-- a map that is outermost is at depth 1, so that much is left for what it holds
abbrev pub inside_allowed : ℕ
inside_allowed = 15

-- the pair at a place of s
unfoldable pub pair_at : List ℕ → ℕ → PairPassage
pair_at s at =
    if_passed (pass_item inside_allowed (drop at s)) λ k.
    if_passed (pass_item inside_allowed (drop (at + k) s)) λ m.
    whole_pair (code_at (drop at s)) (at + k) (at + k + m)

-- ---- how often a key stands in a map

abbrev pub if_counted : Passage → (ℕ → ℕ) → ℕ
if_counted (whole n) next = next n
if_counted cut next = 0
if_counted too_deep next = 0

-- pairs of items: `item` passes over one, and `test` is asked of a key
module _ (item : List ℕ → Passage) (test : List ℕ → Bool) where
  -- of `count` pairs at the front of s, how many have a key that passes the test; none count from the first item on that is not whole
  unfoldable pub times_where : (count : ℕ) (s : List ℕ) → ℕ
  times_where zero s = 0
  times_where (suc count) s =
      if_counted (item s) λ k.
      if_counted (item (drop k s)) λ m.
      cond (test s) 1 0 + times_where count (drop (k + m) s)

-- how often the text `key` stands in the whole map at the front; 0 where there is none
unfoldable pub times_of : List ℕ → List ℕ → ℕ
times_of key s =
    if_counted (pass_over s) λ n.
    cond (eqb (head_of s).kind map_kind)
    (times_where (pass_item depth_allowed) (key_at key) (head_of s).count (drop (head_of s).size s))
    0

-- whether it stands there more than once
abbrev pub is_repeated : List ℕ → List ℕ → Bool
is_repeated key s = ltb 1 (times_of key s)

-- ---- what one pass tells

abbrev pub is_whole_passage : Passage → Bool
is_whole_passage (whole n) = true
is_whole_passage cut = false
is_whole_passage too_deep = false

-- how many keys can be asked for
abbrev pub keys_asked : ℕ
keys_asked = 8

-- a text whose code is among those asked for
pub record Asked (keys key : List ℕ) : Type 0 where
  pub bytes : AllBytes key
  pub short : length key ≤ 3
  pub listed : position keys (code_of key) < keys_asked

-- the place told of a key: no value stands at the front of a map, so 0 tells that the key is missing
abbrev pub place_told : ℕ → ValuePlace
place_told zero = missing
place_told (suc p) = found (suc p)

-- the same where the item may be no whole map
abbrev pub place_in : Bool → ℕ → ValuePlace
place_in map p = cond map (place_told p) broken

pub record PairsRead (s keys : List ℕ) (r : Pairs) : Type 0 where
  pub passed : passage_of r.passed ≡ pass_over s
  -- a whole map stands at the front
  pub map : r.map ≡ (is_whole_passage (pass_over s) && eqb (head_of s).kind map_kind)
  -- the place of the last value of each key asked for, if the item is whole
  pub place : (key : List ℕ) → Asked keys key
      → place_in r.map (get_or r.places (position keys (code_of key)) 0) ≡ if_whole (pass_over s) (λ n. last_value key s)
  -- of no whole map, no place is told
  pub untold : r.map ≡ false → (j : ℕ) → j < keys_asked → get_or r.places j 0 ≡ 0
  pub repeated : (key : List ℕ) → Asked keys key → get_or r.repeated (position keys (code_of key)) false ≡ is_repeated key s

-- ---- what the code knows on the way

-- there is a place and a flag for each key asked for
pub record Sized (values : Values) : Type 0 where
  pub places : length values.places ≡ keys_asked
  pub repeated : length values.repeated ≡ keys_asked

-- a value more, of the j-th key asked for
pub record WithValue (values : Values) (j p : ℕ) (r : Values) : Type 0 where
  pub sized : Sized r
  pub place : (k : ℕ) → k < keys_asked → get_or r.places k 0 ≡ cond (eqb j k) p (get_or values.places k 0)
  pub repeated : (k : ℕ) → k < keys_asked → get_or r.repeated k false ≡ (get_or values.repeated k false || (eqb j k && ltb 0 (get_or values.places k 0)))

-- no whole map
pub record NoPairs (p : Passage) (r : Pairs) : Type 0 where
  pub passed : passage_of r.passed ≡ p
  pub map : r.map ≡ false
  pub untold : (j : ℕ) → j < keys_asked → get_or r.places j 0 ≡ 0
  pub repeated : (j : ℕ) → j < keys_asked → get_or r.repeated j false ≡ false

-- the key at the front is the j-th of those asked for
abbrev pub is_asked : List ℕ → ℕ → List ℕ → Bool
is_asked keys j t = eqb (position keys (code_at t)) j

-- `count` pairs from a place on
pub record PairsFrom (s keys : List ℕ) (from count : ℕ) (r : Pairs) : Type 0 where
  pub passed : passage_of r.passed ≡ beyond from (pass_items (pass_item inside_allowed) (count + count) (drop from s))
  pub map : r.map ≡ is_whole_passage (passage_of r.passed)
  pub place : r.map ≡ true → (j : ℕ) → j < keys_asked
      → place_told (get_or r.places j 0) ≡ last_where (pass_item inside_allowed) (is_asked keys j) count from (drop from s) missing
  pub untold : r.map ≡ false → (j : ℕ) → j < keys_asked → get_or r.places j 0 ≡ 0
  pub repeated : (j : ℕ) → j < keys_asked
      → get_or r.repeated j false ≡ (r.map && ltb 1 (times_where (pass_item inside_allowed) (is_asked keys j) count (drop from s)))
