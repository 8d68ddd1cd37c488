-- Entries with their blocks and strides, and parts that are read or refused; antt computes every answer.
use Rattle.std.specs.Prelude.{ℕ, ◌+◌, ◌-◌, List, [], ◌∷◌, ◌++◌, map, ◌≡◌, refl, length, replicate}
use Rattle.std.specs.Prelude.{None, Some}
use Rattle.slices.specs.Bytes.{same_bytes}
use Rattle.refusals.specs.Answers.{Answer, refused, granted}
use Rattle.endian.specs.Numbers.{little, big}
use Rattle.endian.specs.Places.{holds, number_at}
use Rattle.msgpack.specs.Formats.{formats, format_of}
use Rattle.msgpack.specs.Items.{head_of, pass_items, pass_head, pass_item}
use Rattle.msgpack.specs.Readers.{is_whole, content_at, Int, plus, minus, twos_complement, integer_of, read_integer, count_at}
use Rattle.msgpack.specs.Lookup.{key_at, last_where, last_value}
use Rattle.msgpack.specs.Pairs.{times_where, times_of}
use Rattle.msgpack.specs.Views.{repeats, text_at, items_from}
use Rattle.identifier.specs.Texts.{member, all, before}
use Rattle.identifier.specs.Ulid.{alphabet, is_character, is_ulid}
use Rattle.identifier.specs.Identity.{sized, is_bucket, is_object, identity, is_valid, identity_of}
use Rattle.identifier.specs.Composite.{composite_text, bucket_in, object_in, is_composite, identity_in}
use Rattle.value.specs.Fields.{natural_under}
use Rattle.primary.specs.Parts.{fills, text_under, texts_under, shape_at, shape_under, block_repeats}
use Rattle.pack_list.specs.Lists.{range, Entry, PackList, each_of, list_at, range_at, entry_at, entries_under, any_of, entry_repeats, list_repeats, all_of, sum, greatest, is_short, is_filled, pack_list}
use Rattle.pack_list.specs.declared.Range.{Range}
use Rattle.pack_list.specs.Blocks as finding
use Rattle.pack_list.specs.Blocks.{stored_from, stored_lengths, deltas_of, gains, losses, is_counted, ceiling, stride_for, stride, holder_from}

-- ---- entries

-- the pack's name plays no part in finding a block
abbrev pub entry : (source stored : Range) → List ℕ → List Int → Entry
entry source stored lengths deltas = record { pack = []; source = source; stored = stored; lengths = lengths; deltas = deltas }

-- document 001's printed entry
abbrev pub printed : Entry
printed = entry (range 0 36) (range 0 303) (101 ∷ 101 ∷ []) []

-- 20 bytes in 2 blocks
abbrev pub twenty : Entry
twenty = entry (range 0 20) (range 50 13) (7 ∷ []) []

-- the same with its last length listed too
abbrev pub all_listed : Entry
all_listed = entry (range 0 36) (range 0 303) (101 ∷ 101 ∷ 101 ∷ []) []

-- from a place on 25 bytes in 3 blocks
abbrev pub in_three : ℕ → List Int → Entry
in_three start deltas = entry (range start 25) (range 70 19) (6 ∷ 8 ∷ []) deltas

-- in a range of the pack of so many bytes, of which 6 and 8 are listed
abbrev pub stored_in : ℕ → List Int → Entry
stored_in len deltas = entry (range 0 25) (range 70 len) (6 ∷ 8 ∷ []) deltas

-- from a place on 25 bytes in no block: nothing is listed of a range of nothing
abbrev pub in_none : ℕ → Entry
in_none start = entry (range start 25) (range 70 0) [] []

-- from a place on: its sums exceed 64 bits by the deltas that are added, and by those that are subtracted
abbrev pub added : ℕ → Entry
added start = in_three start (plus greatest ∷ plus 1 ∷ [])

abbrev pub subtracted : ℕ → Entry
subtracted start = in_three start (plus 1 ∷ minus (greatest - 24) ∷ [])

-- ---- how many blocks: one more than are listed, where these leave a rest

pub blocks_counted : map finding.blocks (printed ∷ all_listed ∷ twenty ∷ stored_in 14 [] ∷ stored_in 15 [] ∷ in_none 0
    ∷ entry (range 0 25) (range 70 1) [] [] ∷ entry (range 0 25) (range 70 0) (0 ∷ []) [] ∷ entry (range 0 25) (range 70 1) (0 ∷ []) [] ∷ [])
    ≡ 3 ∷ 3 ∷ 2 ∷ 2 ∷ 3 ∷ 0 ∷ 1 ∷ 1 ∷ 2 ∷ []
unfolding finding.blocks stored_from stored_lengths
blocks_counted = refl

-- ---- the stride

-- of these entries
abbrev of : ℕ → List Entry → List Entry × ℕ
of n es = (es, n)

unfoldable pub strides : List (List Entry × ℕ)
strides =
    of 0 []
    ∷ of 12 (printed ∷ [])
    ∷ of 12 (all_listed ∷ [])
    ∷ of 10 (twenty ∷ in_three 20 [] ∷ [])
    ∷ of 13 (stored_in 14 [] ∷ [])
    ∷ of 9 (stored_in 15 [] ∷ [])
    -- deltas of either sign; past the last block they play no part
    ∷ of 7 (in_three 0 (plus 4 ∷ []) ∷ [])
    ∷ of 10 (in_three 0 (plus 0 ∷ minus 3 ∷ []) ∷ [])
    ∷ of 11 (stored_in 14 (plus 0 ∷ plus 3 ∷ minus 8 ∷ []) ∷ [])
    ∷ of 10 (stored_in 15 (plus 0 ∷ plus 3 ∷ minus 8 ∷ []) ∷ [])
    ∷ of 0 (in_three 0 (plus 0 ∷ plus 0 ∷ plus greatest ∷ []) ∷ [])
    -- without a block, and with sums that 64 bits do not hold, an entry takes no part
    ∷ of 10 (twenty ∷ in_none 20 ∷ [])
    ∷ of 10 (added 20 ∷ twenty ∷ subtracted 45 ∷ [])
    ∷ of greatest (entry (range 0 0) (range 0 1) [] (minus greatest ∷ []) ∷ [])
    ∷ []

pub strides_hold : map (λ (r : List Entry × ℕ). (r.0, stride r.0)) strides ≡ strides
unfolding strides stored_from stored_lengths finding.blocks deltas_of gains losses is_counted ceiling stride_for stride sum
strides_hold = refl

-- ---- the entry that holds a byte

pub holders : map (λ (byte : ℕ). holder_from byte 0 (twenty ∷ in_three 10 [] ∷ [])) (0 ∷ 19 ∷ 20 ∷ 34 ∷ 35 ∷ [])
    ≡ Some (0, twenty) ∷ Some (0, twenty) ∷ Some (1, in_three 10 []) ∷ Some (1, in_three 10 []) ∷ None ∷ []
unfolding finding.holds holder_from
holders = refl

-- ---- parts, their items in their shortest form

-- of fewer than 32 bytes
abbrev text : List ℕ → List ℕ
text t = (0xa0 + length t) ∷ t

abbrev nil : List ℕ
nil = 0xc0 ∷ []

abbrev joined : List (List ℕ) → List ℕ
joined [] = []
joined (p ∷ l) = p ++ joined l

-- of fewer than 16 items or pairs
abbrev listed : List (List ℕ) → List ℕ
listed items = (0x90 + length items) ∷ joined items

abbrev map_of : List (List ℕ) → List ℕ
map_of pairs = (0x80 + length pairs) ∷ joined pairs

-- a pair whose key has one byte
abbrev pair : ℕ → List ℕ → List ℕ
pair key value = text (key ∷ []) ++ value

-- below 128; below 256; -n, n at most 32; the greatest of 64 bits, and the one before it
abbrev small : ℕ → List ℕ
small n = n ∷ []

abbrev larger : ℕ → List ℕ
larger n = 0xcc ∷ n ∷ []

abbrev negative : ℕ → List ℕ
negative n = (256 - n) ∷ []

abbrev most : List ℕ
most = 0xcf ∷ replicate 8 0xff

abbrev one_less : List ℕ
one_less = 0xcf ∷ (replicate 7 0xff ++ (0xfe ∷ []))

abbrev ulid : List ℕ
ulid = replicate 26 0x30  -- 0

abbrev no_ulid : List ℕ
no_ulid = replicate 26 0x7a  -- z

abbrev herd : List ℕ
herd = 0x68 ∷ []  -- h

abbrev scan : List ℕ
scan = 0x73 ∷ []  -- s

-- the pairs of a list
abbrev I : List ℕ → List ℕ
I u = pair 0x49 (text (composite_text (identity u herd scan)))

abbrev P : List (List ℕ) → List ℕ
P entries = pair 0x50 (listed entries)

-- of an entry
abbrev p : List ℕ → List ℕ
p u = pair 0x70 (text u)

abbrev o : List ℕ → List ℕ
o value = pair 0x6f value

abbrev t : List ℕ → List ℕ
t value = pair 0x74 value

abbrev E : List ℕ → List ℕ
E value = pair 0x45 value

abbrev N : List ℕ → List ℕ
N value = pair 0x4e value

-- of a range
abbrev s : List ℕ → List ℕ
s value = pair 0x73 value

abbrev l : List ℕ → List ℕ
l value = pair 0x6c value

-- a range of 7 bytes from 3 on, and one of no bytes
abbrev seven : List ℕ
seven = map_of (s (small 3) ∷ l (small 7) ∷ [])

abbrev empty : List ℕ
empty = map_of []

-- a list with one entry more, of these pairs, after a good one
abbrev with : List (List ℕ) → List ℕ
with pairs = map_of (I ulid ∷ P (map_of (p ulid ∷ o seven ∷ t seven ∷ []) ∷ map_of pairs ∷ []) ∷ [])

-- ---- the table

pub record Row : Type 0 where
  pub part : List ℕ
  pub answer : Answer PackList

abbrev gives : Answer PackList → List ℕ → Row
gives answer part = record { part = part; answer = answer }

abbrev reads : List Entry → Answer PackList
reads es = granted (record { identifier = identity ulid herd scan; entries = es })

abbrev entry_of : Range → Range → List ℕ → List Int → Entry
entry_of source stored lengths deltas = record { pack = ulid; source = source; stored = stored; lengths = lengths; deltas = deltas }

-- with the good entry before it
abbrev reads_with : Entry → Answer PackList
reads_with e = reads (entry_of (range 3 7) (range 3 7) [] [] ∷ e ∷ [])

unfoldable pub rows : List Row
rows =
    -- document 001's printed entry, its pack range's length in 16 bits
    gives (reads (entry_of (range 0 36) (range 0 303) (101 ∷ 101 ∷ []) [] ∷ []))
    (map_of (I ulid
    ∷ P (map_of (p ulid ∷ o (map_of (s (small 0) ∷ l (small 36) ∷ [])) ∷ t (map_of (s (small 0) ∷ l (0xcd ∷ 1 ∷ 47 ∷ []) ∷ []))
    ∷ E (listed (small 101 ∷ small 101 ∷ [])) ∷ N (listed []) ∷ []) ∷ []) ∷ []))
    -- no `P`; an empty one; `U` twice; the identifier as a map
    ∷ gives (reads []) (map_of (I ulid ∷ []))
    ∷ gives (reads []) (map_of (P [] ∷ I ulid ∷ []))
    ∷ gives (reads []) (map_of (pair 0x55 nil ∷ I ulid ∷ pair 0x55 (text scan) ∷ []))
    ∷ gives (reads []) (map_of (pair 0x49 (map_of (pair 0x62 (text herd) ∷ pair 0x6f (text scan) ∷ pair 0x76 (text ulid) ∷ [])) ∷ []))
    -- ranges without their keys; lengths and deltas, these of either sign; unknown keys, which may repeat
    ∷ gives (reads_with (entry_of (range 0 0) (range 0 0) [] [])) (with (t empty ∷ o empty ∷ p ulid ∷ []))
    ∷ gives (reads_with (entry_of (range 0 200) (range 9 0) (0 ∷ 0 ∷ []) (minus 1 ∷ plus 200 ∷ [])))
    (with (N (listed (negative 1 ∷ larger 200 ∷ [])) ∷ E (listed (small 0 ∷ larger 0 ∷ [])) ∷ t (map_of (s (small 9) ∷ []))
    ∷ o (map_of (l (larger 200) ∷ [])) ∷ p ulid ∷ []))
    ∷ gives (reads_with (entry_of (range 0 0) (range 3 7) [] []))
    (with (l nil ∷ p ulid ∷ l nil ∷ o (map_of (o nil ∷ o nil ∷ [])) ∷ t seven ∷ []))
    -- 16: bytes left over, and one too few
    ∷ gives (refused 16) (map_of (I ulid ∷ []) ++ nil)
    ∷ gives (refused 16) (0x82 ∷ I ulid)
    -- 17: no map; no identifier; the list, an entry, a range, the arrays of another type
    ∷ gives (refused 17) (listed [])
    ∷ gives (refused 17) (map_of (P [] ∷ []))
    ∷ gives (refused 17) (map_of (I ulid ∷ pair 0x50 nil ∷ []))
    ∷ gives (refused 17) (map_of (I ulid ∷ P (nil ∷ []) ∷ []))
    ∷ gives (refused 17) (with (o seven ∷ t seven ∷ []))
    ∷ gives (refused 17) (with (pair 0x70 nil ∷ o seven ∷ t seven ∷ []))
    ∷ gives (refused 17) (with (p ulid ∷ t seven ∷ []))
    ∷ gives (refused 17) (with (p ulid ∷ o seven ∷ []))
    ∷ gives (refused 17) (with (p ulid ∷ o nil ∷ t seven ∷ []))
    ∷ gives (refused 17) (with (p ulid ∷ o seven ∷ t (listed []) ∷ []))
    ∷ gives (refused 17) (with (p ulid ∷ o (map_of (s nil ∷ [])) ∷ t seven ∷ []))
    ∷ gives (refused 17) (with (p ulid ∷ o seven ∷ t (map_of (l (negative 1) ∷ [])) ∷ []))
    ∷ gives (refused 17) (with (p ulid ∷ o seven ∷ t seven ∷ E nil ∷ []))
    ∷ gives (refused 17) (with (p ulid ∷ o seven ∷ t seven ∷ E (listed (small 0 ∷ negative 1 ∷ [])) ∷ []))
    ∷ gives (refused 17) (with (p ulid ∷ o seven ∷ t seven ∷ N (listed (small 0 ∷ nil ∷ [])) ∷ []))
    -- 22: a key twice in the part, in the identifier's map, in an entry, in a range; only the last value is looked into
    ∷ gives (refused 22) (map_of (I ulid ∷ I ulid ∷ []))
    ∷ gives (refused 22) (map_of (I ulid ∷ pair 0x50 nil ∷ P [] ∷ []))
    ∷ gives (refused 22)
    (map_of (pair 0x49 (map_of (pair 0x62 (text herd) ∷ pair 0x6f (text scan) ∷ pair 0x76 (text ulid) ∷ pair 0x6f (text scan) ∷ [])) ∷ []))
    ∷ gives (refused 22) (with (p no_ulid ∷ o seven ∷ t seven ∷ p ulid ∷ []))
    ∷ gives (refused 22) (with (p ulid ∷ o nil ∷ o seven ∷ t seven ∷ []))
    ∷ gives (refused 22) (with (p ulid ∷ o seven ∷ t nil ∷ t seven ∷ []))
    ∷ gives (refused 22) (with (p ulid ∷ o seven ∷ t seven ∷ E nil ∷ E (listed []) ∷ []))
    ∷ gives (refused 22) (with (p ulid ∷ o seven ∷ t seven ∷ N nil ∷ N (listed []) ∷ []))
    ∷ gives (refused 22) (with (p ulid ∷ o (map_of (s (small 3) ∷ s (small 3) ∷ [])) ∷ t seven ∷ []))
    ∷ gives (refused 22) (with (p ulid ∷ o seven ∷ t (map_of (l nil ∷ l (small 7) ∷ [])) ∷ []))
    -- 17 comes first, wherever it stands
    ∷ gives (refused 17) (with (p ulid ∷ p ulid ∷ o seven ∷ t seven ∷ N nil ∷ []))
    ∷ gives (refused 17) (map_of (I ulid ∷ I ulid ∷ P (nil ∷ []) ∷ []))
    -- 18: the identifier, and a pack's ULID; 22 comes first
    ∷ gives (refused 18) (map_of (I no_ulid ∷ []))
    ∷ gives (refused 18) (with (p no_ulid ∷ o seven ∷ t seven ∷ []))
    ∷ gives (refused 22) (map_of (I no_ulid ∷ P [] ∷ P [] ∷ []))
    ∷ gives (refused 22) (with (p no_ulid ∷ o (map_of (s (small 3) ∷ s (small 3) ∷ [])) ∷ t seven ∷ []))
    -- 21: ranges that end past 64 bits, and just within; lengths that exceed the pack range, and that fill it
    ∷ gives (refused 21) (with (p ulid ∷ o (map_of (s most ∷ l (small 1) ∷ [])) ∷ t seven ∷ []))
    ∷ gives (refused 21) (with (p ulid ∷ o seven ∷ t (map_of (s (small 1) ∷ l most ∷ [])) ∷ []))
    ∷ gives (reads_with (entry_of (range (greatest - 1) 1) (range 0 greatest) [] []))
    (with (p ulid ∷ o (map_of (s one_less ∷ l (small 1) ∷ [])) ∷ t (map_of (l most ∷ [])) ∷ []))
    ∷ gives (refused 21) (with (p ulid ∷ o seven ∷ t seven ∷ E (listed (small 7 ∷ small 1 ∷ [])) ∷ []))
    ∷ gives (refused 21) (with (p ulid ∷ o seven ∷ t seven ∷ E (listed (most ∷ small 1 ∷ [])) ∷ []))
    ∷ gives (reads_with (entry_of (range 3 7) (range 3 7) (6 ∷ 1 ∷ []) [])) (with (p ulid ∷ o seven ∷ t seven ∷ E (listed (small 6 ∷ small 1 ∷ [])) ∷ []))
    -- 18 comes first, also of a later entry
    ∷ gives (refused 18) (map_of (I no_ulid ∷ P (map_of (p ulid ∷ o (map_of (s most ∷ l (small 1) ∷ [])) ∷ t seven ∷ []) ∷ []) ∷ []))
    ∷ gives (refused 18)
    (map_of (I ulid ∷ P (map_of (p ulid ∷ o seven ∷ t empty ∷ E (listed (small 1 ∷ [])) ∷ []) ∷ map_of (p no_ulid ∷ o seven ∷ t seven ∷ []) ∷ []) ∷ []))
    ∷ []

pub rows_hold : map (λ (r : Row). pack_list r.part) rows ≡ map (λ (r : Row). r.answer) rows
unfolding rows pack_list each_of list_at range_at entry_at entries_under any_of entry_repeats list_repeats all_of sum is_short is_filled natural_under fills text_under
    texts_under shape_at shape_under block_repeats same_bytes little big holds number_at formats format_of head_of pass_items pass_head pass_item is_whole content_at
    twos_complement integer_of read_integer count_at key_at last_where last_value times_where times_of repeats text_at items_from member all before alphabet
    is_character is_ulid sized is_bucket is_object is_valid identity_of composite_text bucket_in object_in is_composite identity_in
rows_hold = refl
