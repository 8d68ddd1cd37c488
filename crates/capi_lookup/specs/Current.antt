-- The current version in words, with its ULID beside them.
use Rattle.std.specs.Prelude.{ℕ, Bool, cond, ◌&&◌, List, [], ◌∷◌, leb, length}
use Rattle.slices.specs.Overwriting.{overwritten}
use Rattle.current_version.specs.Current.{Version, Answer, nothing, found, refused_at, alone}
use Rattle.words.specs.Words.{answer, flag}

abbrev pub nothing_words : List ℕ
nothing_words = 0 ∷ 0 ∷ 0 ∷ 0 ∷ []

abbrev pub found_words : Version → List ℕ
found_words v = 1 ∷ v.start ∷ length v.value ∷ flag v.delete_flag ∷ []

-- whether there is room for four words and for a text
abbrev pub fits : (told ulid text : List ℕ) → Bool
fits told ulid text = leb 4 (length told) && leb (length text) (length ulid)

-- whether so many words, and so many bytes for a ULID, are enough for what is found
abbrev pub has_room : ℕ → ℕ → Bool
has_room words bytes = leb 4 words && leb 26 bytes

-- the answer, with so many words and bytes lent: refusals but 19 and 20 with their place, and 19 after all others
abbrev pub current_answer : Answer → ℕ → ℕ → ℕ
current_answer nothing words bytes = cond (leb 4 words) (answer 0 0) (answer 19 0)
current_answer (found v) words bytes = cond (has_room words bytes) (answer 0 0) (answer 19 0)
current_answer (refused_at n at) words bytes = answer n at
current_answer (alone n) words bytes = answer n 0

-- the lent words at exit, with so many bytes lent
abbrev pub current_told : Answer → List ℕ → ℕ → List ℕ
current_told nothing told bytes = cond (leb 4 (length told)) (overwritten told 0 nothing_words) told
current_told (found v) told bytes = cond (has_room (length told) bytes) (overwritten told 0 (found_words v)) told
current_told (refused_at n at) told bytes = told
current_told (alone n) told bytes = told

-- the lent bytes at exit, with so many words lent: only what is found has a ULID
abbrev pub current_ulid : Answer → ℕ → List ℕ → List ℕ
current_ulid nothing words ulid = ulid
current_ulid (found v) words ulid = cond (has_room words (length ulid)) (overwritten ulid 0 v.identifier.ulid) ulid
current_ulid (refused_at n at) words ulid = ulid
current_ulid (alone n) words ulid = ulid
