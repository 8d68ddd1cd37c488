-- The blocks of an entry, the stride of a list, and the entry that holds a byte of the version (request 1; docs/FORMAT.md, Table 8). Document 001 speaks
-- of "the version's normal stride" and gives the list no key for it: it is found from the list.
use Rattle.std.specs.Prelude.{ℕ, zero, suc, ◌+◌, ◌-◌, ◌/◌, Bool, cond, ◌&&◌, List, [], ◌∷◌, map, ltb, leb, length, take}
use Rattle.std.specs.Prelude.{Option, None, Some}
use Rattle.msgpack.specs.Readers.{Int, plus, minus}
use Rattle.pack_list.specs.declared.Range.{Range}
use Rattle.pack_list.specs.Lists.{Entry, sum, greatest}

-- ---- the blocks of an entry

-- what the lengths listed leave of the range of the pack is one block more; where they fill it, there is none
abbrev pub rest_of : ℕ → List ℕ
rest_of zero = []
rest_of (suc n) = suc n ∷ []

-- the lengths of the blocks in the pack: those listed, and the rest
unfoldable pub stored_from : ℕ → List ℕ → List ℕ
stored_from left [] = rest_of left
stored_from left (l ∷ ls) = l ∷ stored_from (left - l) ls

unfoldable pub stored_lengths : Entry → List ℕ
stored_lengths e = stored_from e.stored.len e.lengths

unfoldable pub blocks : Entry → ℕ
blocks e = length (stored_lengths e)

-- ---- the stride

-- numbers past the last block play no part
unfoldable pub deltas_of : Entry → List Int
deltas_of e = take (blocks e) e.deltas

abbrev pub gain : Int → ℕ
gain (plus n) = n
gain (minus n) = 0

abbrev pub loss : Int → ℕ
loss (plus n) = 0
loss (minus n) = n

unfoldable pub gains : Entry → ℕ
gains e = sum (map gain (deltas_of e))

unfoldable pub losses : Entry → ℕ
losses e = sum (map loss (deltas_of e))

-- it has a block, and its sums are within 64 bits; no tape is so long that they are not
unfoldable pub is_counted : Entry → Bool
is_counted e = ltb 0 (blocks e) && (leb (gains e) greatest && leb (e.source.len + losses e) greatest)

-- a / suc n, rounded up
unfoldable pub ceiling : ℕ → ℕ → ℕ
ceiling zero n = 0
ceiling (suc a) n = suc (a / suc n)

-- the least stride with which the blocks of an entry hold its source range
unfoldable pub stride_for : Entry → ℕ
stride_for e = ceiling (e.source.len + losses e - gains e) (blocks e - 1)

abbrev pub larger : ℕ → ℕ → ℕ
larger m n = cond (leb m n) n m

unfoldable pub stride : List Entry → ℕ
stride [] = 0
stride (e ∷ es) = larger (cond (is_counted e) (stride_for e) 0) (stride es)

-- ---- the entry of a byte

abbrev pub is_in : Range → ℕ → Bool
is_in r byte = leb r.start byte && ltb byte (r.start + r.len)

unfoldable pub holds : Entry → ℕ → Bool
holds e byte = is_in e.source byte

-- the first of these entries that holds the byte, with its number; the first of all of them has a number
unfoldable pub holder_from : ℕ → ℕ → List Entry → Option (ℕ × Entry)
holder_from byte number [] = None
holder_from byte number (e ∷ es) = cond (holds e byte) (Some (number, e)) (holder_from byte (suc number) es)
