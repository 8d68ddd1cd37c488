-- Answers: a result, or the number of a refusal.
use Rattle.std.specs.Prelude.{ℕ, Bool, true, false, cond}
use Rattle.std.specs.Prelude.{Option, None, Some}

pub data Answer (A : Type 0) : Type 0 where
  refused : ℕ → Answer A  -- with document 01's number
  granted : A → Answer A

abbrev pub is_result : {A : Type 0} → Answer A → Bool
is_result (granted a) = true
is_result (refused n) = false

-- what follows, where something is there; else the refusal with this number
abbrev pub or_refused : {A B : Type 0} → ℕ → Option A → (A → Answer B) → Answer B
or_refused number (Some a) next = next a
or_refused number None next = refused number

-- what follows, where no number of the sheet applies
abbrev pub unless : {A : Type 0} → Option ℕ → Answer A → Answer A
unless None next = next
unless (Some n) next = refused n

-- what follows, where no key repeats; else 22 (request 4)
abbrev pub if_once : {A : Type 0} → Bool → Answer A → Answer A
if_once repeated next = cond repeated (refused 22) next

-- the first, where it is there; else the other
abbrev pub or_else : {A : Type 0} → Option A → Option A → Option A
or_else (Some a) other = Some a
or_else None other = other
