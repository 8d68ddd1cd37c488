-- What a value tells, in ten words.
use Rattle.std.specs.Prelude.{ℕ, cond, List, [], ◌∷◌, leb, length}
use Rattle.slices.specs.Overwriting.{overwritten}
use Rattle.refusals.specs.Answers.{Answer, granted, refused}
use Rattle.value.specs.declared.Told.{Told}
use Rattle.words.specs.Words.{answer, flag}

-- the primary part's place and length, the secondary part's with whether it is there, `c` and `z` of each, and `v`
abbrev pub told_words : Told → List ℕ
told_words t =
    t.primary.start
    ∷ t.primary.len
    ∷ flag t.present
    ∷ t.secondary.start
    ∷ t.secondary.len
    ∷ t.primary.compression
    ∷ flag t.primary.encrypted
    ∷ t.secondary.compression
    ∷ flag t.secondary.encrypted
    ∷ t.version
    ∷ []

-- the answer, with so many words lent: refusals 9 to 12, and 22, come alone, and 19 after them
abbrev pub value_answer : Answer Told → ℕ → ℕ
value_answer (granted t) room = cond (leb 10 room) (answer 0 0) (answer 19 0)
value_answer (refused n) room = answer n 0

-- the lent words at exit
abbrev pub value_told : Answer Told → List ℕ → List ℕ
value_told (granted t) words = cond (leb 10 (length words)) (overwritten words 0 (told_words t)) words
value_told (refused n) words = words
