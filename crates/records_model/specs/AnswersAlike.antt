-- When two answers say the same: the conclusion of "two sites read alike".
use Rattle.std.specs.Prelude.{ℕ, ◌≡◌, refl}
use Rattle.refusals.specs.Answers.{Answer, refused, granted}
use Rattle.records_model.specs.Alike.{AlikeBytes}
use Rattle.records_model.specs.Header.{Held}
use Rattle.records_model.specs.Record.{RecordHeld}

-- the numbers that come before 22 in a header, and in a primary part: of a repeated key the last value counts for them, and which is last
-- depends on the order of pairs
pub data TypeFault : ℕ → Type 0 where
  in_header_lem : TypeFault 11
  in_part : TypeFault 17

-- both are refused with the same number; or, where a key repeats, one with 22 and the other with one of those; or both are read and related
pub data AnswersAlike {A : Type 0} (R : A → A → Type 0) : Answer A → Answer A → Type 0 where
  same_refusal : (n : ℕ) → AnswersAlike R (refused n) (refused n)
  first_22 : {n : ℕ} → TypeFault n → AnswersAlike R (refused 22) (refused n)
  second_22 : {n : ℕ} → TypeFault n → AnswersAlike R (refused n) (refused 22)
  both_read : {a b : A} → R a b → AnswersAlike R (granted a) (granted b)

-- numbers of refusals alike
abbrev pub NumbersAlike : ℕ → ℕ → Type 0
NumbersAlike n m = AnswersAlike {A = ⊥} (λ a b. ⊥) (refused n) (refused m)

pub same_answers : {A : Type 0} (a : Answer A) → AnswersAlike (λ b c. b ≡ c) a a
same_answers (granted a) = both_read refl
same_answers (refused n) = same_refusal n

-- ---- where a key repeats

pub data Refuses {A : Type 0} (n : ℕ) : Answer A → Type 0 where
  by_type : Refuses n (refused n)
  by_22 : Refuses n (refused 22)

pub both_refuse : {A : Type 0} {R : A → A → Type 0} {n : ℕ} {a b : Answer A} → TypeFault n → Refuses n a → Refuses n b → AnswersAlike R a b
both_refuse {n = n} t by_type by_type = same_refusal n
both_refuse t by_type by_22 = second_22 t
both_refuse t by_22 by_type = first_22 t
both_refuse t by_22 by_22 = same_refusal 22

-- ---- values and records

-- the primary parts are the same bytes or encodings of values alike; the secondary parts, `v`, and `c` and `z` of both parts are equal
pub record SameHeld (h g : Held) : Type 0 where
  pub primary : AlikeBytes h.primary g.primary
  pub secondary : h.secondary ≡ g.secondary
  pub told : h.told ≡ g.told

-- the same of the parts, and the same identifier, kind, delete flag, delete identifier or entries
pub record SameRecord (r q : RecordHeld) : Type 0 where
  pub held : SameHeld r.held q.held
  pub contents : r.contents ≡ q.contents
