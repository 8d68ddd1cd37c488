-- The lines again, from the three words that the library tells for each.
use Rattle.std.specs.Prelude.{ℕ, zero, suc, cond, List, [], ◌++◌, eqb, get_or, drop, replicate}
use Rattle.console.specs.Text.{decimal, space, newline}
use Rattle.why_current.specs.Text.{current_word, marker_words, older_word, repeat_word, removed_word}

unfoldable pub no_rows : List ℕ
no_rows = replicate 6144 0

-- a reason by its number, with its place and the ULID of the current version
unfoldable pub reason_text : ℕ → ℕ → List ℕ → List ℕ
reason_text reason place ulid =
    cond (eqb reason 2) (older_word ++ ulid)
    (cond (eqb reason 3) (repeat_word ++ decimal place)
    (cond (eqb reason 4) (removed_word ++ decimal place)
    (cond (eqb reason 1) marker_words current_word)))

unfoldable pub row_text : ℕ → ℕ → ℕ → List ℕ → List ℕ
row_text start reason place ulid = decimal start ++ space ++ reason_text reason place ulid ++ newline

-- the first so many rows
unfoldable pub rows_text : ℕ → List ℕ → List ℕ → List ℕ
rows_text zero words ulid = []
rows_text (suc n) words ulid = row_text (get_or words 0 0) (get_or words 1 0) (get_or words 2 0) ulid ++ rows_text n (drop 3 words) ulid
