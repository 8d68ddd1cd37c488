-- The block that holds a byte of the version (request 1; docs/FORMAT.md, Table 8): by the stride of the list, in the first entry that holds the byte.
use Rattle.std.specs.Prelude.{ℕ, zero, suc, ◌+◌, ◌-◌, cond, List, [], ◌∷◌, ltb, leb}
use Rattle.std.specs.Prelude.{Option, None, Some}
use Rattle.msgpack.specs.Readers.{Int, plus, minus}
use Rattle.msgpack.specs.Lookup.{if_there, over}
use Rattle.pack_list.specs.Lists.{range, Entry, PackList}
use Rattle.pack_list.specs.Blocks.{stored_lengths, blocks, is_counted, stride, holder_from}
use Rattle.block_of_byte.specs.declared.Block.{Block}

-- ---- the lengths of the blocks in the version

-- the stride with a delta, where it is not below 0
abbrev pub moved : ℕ → Int → Option ℕ
moved s (plus n) = Some (s + n)
moved s (minus n) = cond (leb n s) (Some (s - n)) None

-- a block without a delta has the stride's length
abbrev pub first_delta : List Int → Int
first_delta [] = plus 0
first_delta (d ∷ ds) = d

abbrev pub other_deltas : List Int → List Int
other_deltas [] = []
other_deltas (d ∷ ds) = ds

-- of the version: so many blocks, and the last, which has what is left; none where one would be below 0
unfoldable pub sources_from : ℕ → ℕ → ℕ → List Int → Option (List ℕ)
sources_from s left zero ds = Some (left ∷ [])
sources_from s left (suc k) ds =
    if_there (moved s (first_delta ds)) λ n.
    cond (leb n left) (over (λ ns. n ∷ ns) (sources_from s (left - n) k (other_deltas ds))) None

unfoldable pub sources : ℕ → Entry → Option (List ℕ)
sources s e = cond (is_counted e) (sources_from s e.source.len (blocks e - 1) e.deltas) None

-- ---- a byte

-- among blocks of these source and stored lengths, the first of which has a number and starts at a place of the pack; the offset is counted from there
unfoldable pub block_from : (number start offset : ℕ) → List ℕ → List ℕ → Option Block
block_from number start offset [] ls = None
block_from number start offset (n ∷ ns) [] = None
block_from number start offset (n ∷ ns) (l ∷ ls) =
    cond (ltb offset n) (Some (record { number = number; stored = range start l }))
    (block_from (suc number) (start + l) (offset - n) ns ls)

pub data Found : Type 0 where
  nowhere : Found
  in_entry : (number : ℕ) → Entry → Found  -- its lengths place the byte in no block
  in_block : (number : ℕ) → Entry → Block → Found

abbrev pub found_by : ℕ → Entry → Option Block → Found
found_by number e (Some b) = in_block number e b
found_by number e None = in_entry number e

unfoldable pub block_in : ℕ → Entry → ℕ → Option Block
block_in s e byte = if_there (sources s e) λ ns. block_from 0 e.stored.start (byte - e.source.start) ns (stored_lengths e)

-- by the first entry that holds the byte, with its number
abbrev pub found_in : (stride byte : ℕ) → Option (ℕ × Entry) → Found
found_in s byte None = nowhere
found_in s byte (Some h) = found_by h.0 h.1 (block_in s h.1 byte)

unfoldable pub find : PackList → ℕ → Found
find l byte = found_in (stride l.entries) byte (holder_from byte 0 l.entries)
