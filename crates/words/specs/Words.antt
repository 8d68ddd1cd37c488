-- Answers in words: a number and what goes with it in one, and flags.
use Rattle.std.specs.Prelude.{ℕ, ◌+◌, ◌*◌, ◌/◌, ◌%◌, ◌^◌, ◌<◌, Bool, true, false, ◌≡◌, refl}
use Rattle.std.proofs.Common.{arith}

-- a refusal's number, or 0, and 256 times a place or a count
abbrev pub answer : ℕ → ℕ → ℕ
answer number word = number + 256 * word

abbrev pub flag : Bool → ℕ
flag true = 1
flag false = 0

-- a byte and 56 bits fit into one word, so that nothing is cut off
pub answer_whole : (number word : ℕ) → number < 256 → word < 2 ^ 56 → answer number word % 2 ^ 64 ≡ answer number word
answer_whole number word h l = omega arith

-- and each can be taken out of it again
pub answer_number : (number word : ℕ) → number < 256 → answer number word % 256 ≡ number
answer_number number word h = omega arith

pub answer_word : (number word : ℕ) → number < 256 → answer number word / 256 ≡ word
answer_word number word h = omega arith

-- refusal 2 at 46, document 01's case E
answer_of_case_e : answer 2 46 ≡ 11778
answer_of_case_e = refl
