-- Pack lists in words: six for each entry, and six for the block that holds a byte of the version.
use Rattle.std.specs.Prelude.{ℕ, ◌+◌, ◌-◌, ◌/◌, cond, List, [], ◌∷◌, ◌++◌, leb, length, get_or}
use Rattle.std.specs.Prelude.{Option, None, Some}
use Rattle.slices.specs.Overwriting.{overwritten}
use Rattle.slices.specs.declared.Place.{Place}
use Rattle.refusals.specs.Answers.{Answer, granted, refused}
use Rattle.pack_list.specs.Lists.{Entry, PackList}
use Rattle.pack_list.specs.Blocks.{blocks}
use Rattle.pack_list.specs.Answers.{pack_place, entry_items}
use Rattle.block_of_byte.specs.Finding.{Found, nowhere, in_entry, in_block}
use Rattle.words.specs.Words.{answer}

-- ---- where an entry's pack is named

abbrev pub start_of : Option Place → ℕ
start_of (Some p) = p.start
start_of None = 0

-- where the text under the last `p` of the entry with this number has its content. Its item goes on to the part's end, so that its length tells where it
-- stands
unfoldable pub pack_start : List ℕ → ℕ → ℕ
pack_start s number = start_of (pack_place s (length s - length (get_or (entry_items s) number [])))

-- ---- the entries

-- ULID, start and length of the source range and of the stored one, and how many blocks
abbrev pub entry_words : ℕ → Entry → List ℕ
entry_words start e = start ∷ e.source.start ∷ e.source.len ∷ e.stored.start ∷ e.stored.len ∷ blocks e ∷ []

-- of the entries from this number on
unfoldable pub list_words : List ℕ → ℕ → List Entry → List ℕ
list_words s number [] = []
list_words s number (e ∷ es) = entry_words (pack_start s number) e ++ list_words s (number + 1) es

-- the answer, with so many words lent: how many entries there are; a refusal of the list comes alone, and 19 after it
abbrev pub list_answer : Answer PackList → ℕ → ℕ
list_answer (granted l) room = cond (leb (length l.entries) (room / 6)) (answer 0 (length l.entries)) (answer 19 0)
list_answer (refused n) room = answer n 0

-- the lent words at exit
abbrev pub list_told : List ℕ → Answer PackList → List ℕ → List ℕ
list_told s (granted l) words = cond (leb (length l.entries) (length words / 6)) (overwritten words 0 (list_words s 0 l.entries)) words
list_told s (refused n) words = words

-- ---- a byte

-- kind, entry, block, ULID, start and length of the stored range
abbrev pub found_words : List ℕ → Found → List ℕ
found_words s nowhere = 0 ∷ 0 ∷ 0 ∷ 0 ∷ 0 ∷ 0 ∷ []
found_words s (in_entry k e) = 1 ∷ k ∷ 0 ∷ pack_start s k ∷ e.stored.start ∷ e.stored.len ∷ []
found_words s (in_block k e b) = 2 ∷ k ∷ b.number ∷ pack_start s k ∷ b.stored.start ∷ b.stored.len ∷ []

-- the answer, with so many words lent: a refusal of the list comes alone, and 19 after it
abbrev pub find_answer : Answer Found → ℕ → ℕ
find_answer (granted f) room = cond (leb 6 room) (answer 0 0) (answer 19 0)
find_answer (refused n) room = answer n 0

-- the lent words at exit
abbrev pub find_told : List ℕ → Answer Found → List ℕ → List ℕ
find_told s (granted f) words = cond (leb 6 (length words)) (overwritten words 0 (found_words s f)) words
find_told s (refused n) words = words
