-- An explanation in words: three for each line.
use Rattle.std.specs.Prelude.{ℕ, ◌/◌, cond, leb, length}
use Rattle.explanation.specs.Reasons.{Answer, explained, refused_at, alone}
use Rattle.words.specs.Words.{answer}

-- the answer, with so many words lent: how many lines there are, or a refusal, 19 and 20 without a place, and 19 after all others
abbrev pub explain_answer : Answer → ℕ → ℕ
explain_answer (explained ls) words = cond (leb (length ls) (words / 3)) (answer 0 (length ls)) (answer 19 0)
explain_answer (refused_at n at) words = answer n at
explain_answer (alone n) words = answer n 0
