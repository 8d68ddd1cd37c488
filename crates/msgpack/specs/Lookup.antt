-- The value of a text key in a map: keys are compared as bytes, in every width of text, and of a repeated key the last counts (document 01, "The value").
use Rattle.std.specs.Prelude.{ℕ, zero, suc, ◌+◌, Bool, true, false, cond, List, eqb, drop}
use Rattle.std.specs.Prelude.{Option, None, Some}
use Rattle.slices.specs.Bytes.{same_bytes}
use Rattle.msgpack.specs.Formats.{map_kind}
use Rattle.msgpack.specs.Items.{Passage, whole, cut, too_deep, head_of, pass_item, depth_allowed}
use Rattle.msgpack.specs.Readers.{Part, content, read_text}

abbrev pub content_is : List ℕ → List ℕ → Option Part → Bool
content_is key s (Some p) = same_bytes (content s p) key
content_is key s None = false

-- whether the text `key` stands at the front
unfoldable pub key_at : List ℕ → List ℕ → Bool
key_at key s = content_is key s (read_text s)

-- what stands under a key of a map, I being how an item is told
pub data Under (I : Type 0) : Type 0 where
  found : I → Under I
  missing : Under I
  broken : Under I  -- no whole map is there

-- where it stands
abbrev pub ValuePlace : Type 0
ValuePlace = Under ℕ

abbrev pub if_whole : Passage → (ℕ → ValuePlace) → ValuePlace
if_whole (whole n) next = next n
if_whole cut next = broken
if_whole too_deep next = broken

-- pairs of items: `item` passes over one, and `test` is asked of a key
module _ (item : List ℕ → Passage) (test : List ℕ → Bool) where
  -- of `count` pairs at the front of s, which begins at `from` of the whole list, the place of the last value whose key passes the
  -- test; `best` where there is none
  unfoldable pub last_where : (count from : ℕ) (s : List ℕ) (best : ValuePlace) → ValuePlace
  last_where zero from s best = best
  last_where (suc count) from s best =
      if_whole (item s) λ k.
      if_whole (item (drop k s)) λ m.
      last_where count (from + k + m) (drop (k + m) s) (cond (test s) (found (from + k)) best)

-- the last value of the text `key` in the map at the front
unfoldable pub last_value : List ℕ → List ℕ → ValuePlace
last_value key s =
    cond (eqb (head_of s).kind map_kind)
    (last_where (pass_item depth_allowed) (key_at key) (head_of s).count (head_of s).size (drop (head_of s).size s) missing)
    broken

-- ---- what is read of it

-- `read` tells what was found; `absent` is told where the map has no such key; none where there is no map
abbrev pub at_place : {A I : Type 0} → Option A → (I → Option A) → Under I → Option A
at_place absent read (found i) = read i
at_place absent read missing = absent
at_place absent read broken = None

-- a key that is there counts as there whatever its value, nil included
abbrev pub is_found : {I : Type 0} → Under I → Bool
is_found (found i) = true
is_found missing = false
is_found broken = false

-- `next` of what is there
abbrev pub if_there : {A B : Type 0} → Option A → (A → Option B) → Option B
if_there (Some a) next = next a
if_there None next = None

-- what f makes of it
abbrev pub over : {A B : Type 0} → (A → B) → Option A → Option B
over f (Some a) = Some (f a)
over f None = None
