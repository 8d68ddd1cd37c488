-- The scan in words: four for each record.
use Rattle.std.specs.Prelude.{ℕ, ◌*◌, ◌/◌, cond, List, [], ◌∷◌, ◌++◌, ◌≡◌, refl, leb, length}
use Rattle.std.proofs.Common.{arith}
use Rattle.slices.specs.Overwriting.{overwritten}
use Rattle.pack.specs.Reading.{Reading, Ending, whole, refused, Outcome, counted, alone}
use Rattle.pack.specs.declared.Entry.{Entry}
use Rattle.words.specs.Words.{answer}

abbrev pub words_of : Entry → List ℕ
words_of e = e.start ∷ e.tag ∷ e.length ∷ e.hash ∷ []

unfoldable pub entry_words : List Entry → List ℕ
entry_words [] = []
entry_words (e ∷ es) = words_of e ++ entry_words es

pub length_words : (es : List Entry) → length (entry_words es) ≡ 4 * length es
unfolding entry_words
length_words [] = refl
length_words (e ∷ es) = omega (arith, length_words es)

-- the answer: the count, or a refusal with its place; 19 and 20 alone
abbrev pub outcome_answer : Outcome → ℕ
outcome_answer (counted n) = answer 0 n
outcome_answer (refused n at) = answer n at
outcome_answer (alone n) = answer n 0

-- the lent words at exit: those of an accepted pack in front, where there is room for all; a refusal leaves them as they were
abbrev pub scan_told_by : Ending → List Entry → List ℕ → List ℕ
scan_told_by whole es told = cond (leb (length es) (length told / 4)) (overwritten told 0 (entry_words es)) told
scan_told_by (refused n at) es told = told

abbrev pub scan_told : Reading → List ℕ → List ℕ
scan_told r told = scan_told_by r.ending r.entries told
