-- The deposit check in one word.
use Rattle.std.specs.Prelude.{ℕ}
use Rattle.pack.specs.Reading.{Outcome, counted, refused, alone}
use Rattle.words.specs.Words.{answer}

-- the count, or a refusal with its place
abbrev pub deposit_answer : Outcome → ℕ
deposit_answer (counted n) = answer 0 n
deposit_answer (refused n at) = answer n at
deposit_answer (alone n) = answer n 0
