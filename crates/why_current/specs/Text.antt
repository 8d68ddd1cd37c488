-- Why a version is current, or why not, as change request 3 wants it told: the bytes that the program writes.
use Rattle.std.specs.Prelude.{ℕ, ◌+◌, List, [], ◌∷◌, ◌++◌, length, drop}
use Rattle.refusals.specs.Limit.{pack_limit}
use Rattle.identifier.specs.Texts.{before}
use Rattle.identifier.specs.Identity.{slash}
use Rattle.explanation.specs.Reasons.{Reason, current, current_marker, older, repeated, removed, Line, Answer, explained, refused_at, alone, explain}
use Rattle.console.specs.Text.{decimal, space, newline, refusal_line, refusal_alone}

-- `current`, `current marker`, `older `, `repeat `, `removed `
abbrev pub current_word : List ℕ
current_word = 0x63 ∷ 0x75 ∷ 0x72 ∷ 0x72 ∷ 0x65 ∷ 0x6E ∷ 0x74 ∷ []

abbrev pub marker_words : List ℕ
marker_words = 0x63 ∷ 0x75 ∷ 0x72 ∷ 0x72 ∷ 0x65 ∷ 0x6E ∷ 0x74 ∷ 0x20 ∷ 0x6D ∷ 0x61 ∷ 0x72 ∷ 0x6B ∷ 0x65 ∷ 0x72 ∷ []

abbrev pub older_word : List ℕ
older_word = 0x6F ∷ 0x6C ∷ 0x64 ∷ 0x65 ∷ 0x72 ∷ 0x20 ∷ []

abbrev pub repeat_word : List ℕ
repeat_word = 0x72 ∷ 0x65 ∷ 0x70 ∷ 0x65 ∷ 0x61 ∷ 0x74 ∷ 0x20 ∷ []

abbrev pub removed_word : List ℕ
removed_word = 0x72 ∷ 0x65 ∷ 0x6D ∷ 0x6F ∷ 0x76 ∷ 0x65 ∷ 0x64 ∷ 0x20 ∷ []

abbrev pub reason_words : Reason → List ℕ
reason_words current = current_word
reason_words current_marker = marker_words
reason_words (older c) = older_word ++ c.identifier.ulid
reason_words (repeated p) = repeat_word ++ decimal p
reason_words (removed p) = removed_word ++ decimal p

-- one line a version record: start and reason
unfoldable pub line : Line → List ℕ
line l = decimal l.start ++ space ++ reason_words l.reason ++ newline

unfoldable pub lines : List Line → List ℕ
lines [] = []
lines (l ∷ ls) = line l ++ lines ls

abbrev pub text_of : Answer → List ℕ
text_of (explained ls) = lines ls
text_of (refused_at n place) = refusal_line n place
text_of (alone n) = refusal_alone n

-- ---- the name is split at its first slash. One without a slash has no object, and so is refused as 20.

unfoldable pub bucket_of : List ℕ → List ℕ
bucket_of name = before slash name

unfoldable pub object_of : List ℕ → List ℕ
object_of name = drop (length (before slash name) + 1) name

-- the whole output for a name and a pack
unfoldable pub text : List ℕ → List ℕ → List ℕ
text name s = text_of (explain pack_limit s (bucket_of name) (object_of name))
