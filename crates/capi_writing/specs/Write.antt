-- What a call that writes answers, in one word, and a flag handed in as a number.
use Rattle.std.specs.Prelude.{ℕ, ◌≤◌, Bool, not, ◌≡◌, eqb, Result, Ok}
use Rattle.refusals.specs.Limit.{pack_limit}
use Rattle.refusals.specs.Answers.{Answer, granted, refused}
use Rattle.refusals.specs.declared.Unwritten.{Unwritten}
use Rattle.words.specs.Words.{answer}

abbrev pub written_word : Answer ℕ → ℕ
written_word (granted n) = answer 0 n
written_word (refused number) = answer number 0

-- a count is that of a pack within the limit
pub record CountWithin (w : Result ℕ Unwritten) : Type 0 where
  pub within : (n : ℕ) → w ≡ Ok n → n ≤ pack_limit

-- 0 is false, any other number true
abbrev pub is_set : ℕ → Bool
is_set n = not (eqb n 0)
