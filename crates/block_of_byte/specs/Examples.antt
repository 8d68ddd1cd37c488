-- Blocks found in lists of entries; antt computes every answer.
use Rattle.std.specs.Prelude.{ℕ, List, [], ◌∷◌, ◌++◌, map, ◌≡◌, refl}
use Rattle.std.specs.Prelude.{Option, None, Some}
use Rattle.msgpack.specs.Readers.{plus, minus}
use Rattle.identifier.specs.Identity.{identity}
use Rattle.pack_list.specs.Lists.{range, Entry, PackList, sum, greatest}
use Rattle.pack_list.specs.Blocks as finding
use Rattle.pack_list.specs.Blocks.{stored_from, stored_lengths, deltas_of, gains, losses, is_counted, ceiling, stride_for, stride, holder_from}
use Rattle.pack_list.specs.Examples.{entry, printed, all_listed, twenty, in_three, stored_in, in_none, added, subtracted}
use Rattle.block_of_byte.specs.Finding.{sources_from, sources, block_from, Found, nowhere, in_entry, in_block, block_in, find}

-- ---- the stride, and the source lengths of the last of these entries' blocks

pub record Lengths : Type 0 where
  pub front : List Entry
  pub last : Entry
  pub stride : ℕ
  pub sources : Option (List ℕ)

abbrev lengths : List Entry → Entry → ℕ → Option (List ℕ) → Lengths
lengths front last stride sources = record { front = front; last = last; stride = stride; sources = sources }

unfoldable pub strides : List Lengths
strides =
    lengths [] printed 12 (Some (12 ∷ 12 ∷ 12 ∷ []))
    ∷ lengths [] all_listed 12 (Some (12 ∷ 12 ∷ 12 ∷ []))
    ∷ lengths [] twenty 10 (Some (10 ∷ 10 ∷ []))
    ∷ lengths [] (in_three 0 []) 9 (Some (9 ∷ 9 ∷ 7 ∷ []))
    ∷ lengths (twenty ∷ []) (in_three 20 []) 10 (Some (10 ∷ 10 ∷ 5 ∷ []))
    ∷ lengths (in_three 20 [] ∷ []) twenty 10 (Some (10 ∷ 10 ∷ []))
    -- deltas: added, subtracted, of the last block, past it
    ∷ lengths [] (in_three 0 (plus 4 ∷ [])) 7 (Some (11 ∷ 7 ∷ 7 ∷ []))
    ∷ lengths [] (in_three 0 (plus 0 ∷ minus 3 ∷ [])) 10 (Some (10 ∷ 7 ∷ 8 ∷ []))
    ∷ lengths [] (in_three 0 (plus 0 ∷ plus 0 ∷ minus 4 ∷ [])) 10 (Some (10 ∷ 10 ∷ 5 ∷ []))
    ∷ lengths [] (in_three 0 (plus 0 ∷ plus 0 ∷ plus 0 ∷ minus 100 ∷ plus greatest ∷ [])) 9 (Some (9 ∷ 9 ∷ 7 ∷ []))
    -- all blocks listed, and a rest of one byte: the second delta is of the last block, or the third
    ∷ lengths [] (stored_in 14 []) 13 (Some (13 ∷ 12 ∷ []))
    ∷ lengths [] (stored_in 15 []) 9 (Some (9 ∷ 9 ∷ 7 ∷ []))
    ∷ lengths [] (stored_in 14 (plus 0 ∷ plus 3 ∷ minus 8 ∷ [])) 11 (Some (11 ∷ 14 ∷ []))
    ∷ lengths [] (stored_in 15 (plus 0 ∷ plus 3 ∷ minus 8 ∷ [])) 10 (Some (10 ∷ 13 ∷ 2 ∷ []))
    -- without a block an entry takes no part, and has no lengths; one block of nothing is one
    ∷ lengths (twenty ∷ []) (in_none 20) 10 None
    ∷ lengths (in_none 20 ∷ []) twenty 10 (Some (10 ∷ 10 ∷ []))
    ∷ lengths [] (entry (range 0 25) (range 70 0) (0 ∷ []) []) 25 (Some (25 ∷ []))
    -- deltas that hold the source range by themselves
    ∷ lengths [] (in_three 0 (plus 20 ∷ plus 5 ∷ [])) 0 (Some (20 ∷ 5 ∷ 0 ∷ []))
    -- a block of length 0, and blocks below it: the first, the second, the last
    ∷ lengths [] (in_three 0 (minus 13 ∷ [])) 13 (Some (0 ∷ 13 ∷ 12 ∷ []))
    ∷ lengths [] (in_three 0 (minus 30 ∷ plus 50 ∷ [])) 2 None
    ∷ lengths [] (in_three 0 (plus 9 ∷ minus 9 ∷ plus 9 ∷ [])) 6 None
    ∷ lengths [] (in_three 0 (plus 20 ∷ plus 0 ∷ minus 20 ∷ [])) 9 None
    -- sums that 64 bits do not hold, and those that they just hold
    ∷ lengths (twenty ∷ []) (added 20) 10 None
    ∷ lengths (twenty ∷ []) (subtracted 20) 10 None
    ∷ lengths (added 20 ∷ subtracted 45 ∷ []) twenty 10 (Some (10 ∷ 10 ∷ []))
    ∷ lengths [] (in_three 0 (plus 0 ∷ plus 0 ∷ plus greatest ∷ [])) 0 (Some (0 ∷ 0 ∷ 25 ∷ []))
    ∷ lengths [] (entry (range 0 0) (range 0 1) [] (minus greatest ∷ [])) greatest (Some (0 ∷ []))
    ∷ []

pub lengths_hold : map (λ (r : Lengths). lengths r.front r.last (stride (r.front ++ (r.last ∷ []))) (sources r.stride r.last)) strides ≡ strides
unfolding strides stored_from stored_lengths finding.blocks deltas_of gains losses is_counted ceiling stride_for stride sources_from sources sum
lengths_hold = refl

-- ---- the block that holds a byte

pub record Asked : Type 0 where
  pub entries : List Entry
  pub byte : ℕ
  pub found : Found

-- of these entries: bytes, and what is found for each
abbrev of : List Entry → List (ℕ × Found) → List Asked
of es ts = map (λ (t : ℕ × Found). record { entries = es; byte = t.0; found = t.1 }) ts

-- the number of the entry, that of the block, and the block's range of the pack
abbrev is : ℕ → Entry → ℕ → ℕ → ℕ → Found
is k e number start len = in_block k e (record { number = number; stored = range start len })

unfoldable pub bytes : List Asked
bytes =
    of (printed ∷ [])
    ((0, is 0 printed 0 0 101) ∷ (11, is 0 printed 0 0 101)
    ∷ (12, is 0 printed 1 101 101) ∷ (23, is 0 printed 1 101 101)
    ∷ (24, is 0 printed 2 202 101) ∷ (35, is 0 printed 2 202 101)
    ∷ (36, nowhere) ∷ [])
    -- so too where the last length is listed
    ++ of (all_listed ∷ [])
    ((0, is 0 all_listed 0 0 101) ∷ (9, is 0 all_listed 0 0 101) ∷ (11, is 0 all_listed 0 0 101)
    ∷ (12, is 0 all_listed 1 101 101) ∷ (23, is 0 all_listed 1 101 101)
    ∷ (24, is 0 all_listed 2 202 101) ∷ (35, is 0 all_listed 2 202 101)
    ∷ (36, nowhere) ∷ [])
    ++ of (stored_in 14 [] ∷ []) ((12, is 0 (stored_in 14 []) 0 70 6) ∷ (13, is 0 (stored_in 14 []) 1 76 8) ∷ (24, is 0 (stored_in 14 []) 1 76 8) ∷ [])
    ++ of (stored_in 15 [] ∷ []) ((17, is 0 (stored_in 15 []) 1 76 8) ∷ (18, is 0 (stored_in 15 []) 2 84 1) ∷ (24, is 0 (stored_in 15 []) 2 84 1) ∷ [])
    -- without a block: the entry alone
    ++ of (twenty ∷ in_none 20 ∷ []) ((9, is 0 twenty 0 50 7) ∷ (20, in_entry 1 (in_none 20)) ∷ (44, in_entry 1 (in_none 20)) ∷ (45, nowhere) ∷ [])
    -- the stride is that of the whole list; the last stored length is what is left
    ++ of (twenty ∷ in_three 20 [] ∷ [])
    ((9, is 0 twenty 0 50 7) ∷ (10, is 0 twenty 1 57 6) ∷ (19, is 0 twenty 1 57 6)
    ∷ (20, is 1 (in_three 20 []) 0 70 6) ∷ (39, is 1 (in_three 20 []) 1 76 8)
    ∷ (40, is 1 (in_three 20 []) 2 84 5) ∷ (44, is 1 (in_three 20 []) 2 84 5)
    ∷ (45, nowhere) ∷ [])
    ++ of (in_three 20 [] ∷ [])
    ((19, nowhere) ∷ (28, is 0 (in_three 20 []) 0 70 6) ∷ (29, is 0 (in_three 20 []) 1 76 8) ∷ (38, is 0 (in_three 20 []) 2 84 5) ∷ [])
    -- a block of no source bytes holds none
    ++ of (in_three 0 (minus 13 ∷ []) ∷ []) ((0, is 0 (in_three 0 (minus 13 ∷ [])) 1 76 8) ∷ [])
    -- lengths that place a byte in no block, and sums that 64 bits do not hold: the entry alone
    ++ of (in_three 0 (minus 30 ∷ plus 50 ∷ []) ∷ []) ((24, in_entry 0 (in_three 0 (minus 30 ∷ plus 50 ∷ []))) ∷ (25, nowhere) ∷ [])
    ++ of (twenty ∷ added 20 ∷ []) ((9, is 0 twenty 0 50 7) ∷ (20, in_entry 1 (added 20)) ∷ [])
    -- in several entries: the first of them, also where only a later one has a block for it
    ++ of (twenty ∷ in_three 10 [] ∷ []) ((19, is 0 twenty 1 57 6) ∷ (20, is 1 (in_three 10 []) 1 76 8) ∷ [])
    ++ of (in_three 10 [] ∷ twenty ∷ []) ((19, is 0 (in_three 10 []) 0 70 6) ∷ (9, is 1 twenty 0 50 7) ∷ [])
    ++ of (added 10 ∷ twenty ∷ []) ((19, in_entry 0 (added 10)) ∷ [])
    -- no entries, and none that holds a byte
    ++ of [] ((0, nowhere) ∷ [])
    ++ of (entry (range 0 0) (range 0 7) [] [] ∷ []) ((0, nowhere) ∷ [])

-- the version's identifier plays no part in it
abbrev list_of : List Entry → PackList
list_of es = record { identifier = identity [] [] []; entries = es }

pub bytes_found : map (λ (r : Asked). find (list_of r.entries) r.byte) bytes ≡ map (λ (r : Asked). r.found) bytes
unfolding bytes stored_from stored_lengths finding.blocks deltas_of gains losses is_counted ceiling stride_for stride sources_from sources block_from block_in
    finding.holds holder_from find sum
bytes_found = refl
