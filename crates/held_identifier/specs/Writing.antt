-- The composite text written at a place of a lent buffer: what is answered, with document 01's numbers, and what the buffer then holds.
use Rattle.std.specs.Prelude.{ℕ, ◌+◌, ◌<◌, ◌≤◌, ◌≡◌, Bool, true, false, cond, List, leb, length}
use Rattle.std.specs.Prelude.{Option, None, Some, Result, Ok, Err}
use borrow.Author.Tests.{le-leb, lt-leb}
use Rattle.slices.specs.Overwriting.{overwritten}
use Rattle.identifier.specs.Identity.{Identity, is_valid}
use Rattle.identifier.specs.Composite.{composite_text}
use Rattle.held_identifier.specs.Held.{is_admitted}
use Rattle.refusals.specs.declared.Unwritten.{Unwritten}
use Rattle.refusals.specs.Unwritten.{number_of}

pub data Outcome : Type 0 where
  wrote : ℕ → Outcome
  refused : ℕ → Outcome

-- what each answer of a write says: how many bytes were written, or the number of document 01's refusal
abbrev pub outcome_of : Result ℕ Unwritten → Outcome
outcome_of (Ok n) = wrote n
outcome_of (Err e) = refused (number_of e)

-- the text has room in the buffer from a place on
unfoldable pub fits : Identity → List ℕ → ℕ → Bool
fits i out at = leb (at + length (composite_text i)) (length out)

-- what a write answers
unfoldable pub outcome : Option Identity → List ℕ → ℕ → Outcome
outcome None out at = refused 20
outcome (Some i) out at = cond (is_admitted (Some i)) (cond (fits i out at) (wrote (length (composite_text i))) (refused 19)) (refused 20)

-- and what it leaves in the buffer
unfoldable pub left : Option Identity → List ℕ → ℕ → List ℕ
left None out at = out
left (Some i) out at = cond (is_admitted (Some i)) (cond (fits i out at) (overwritten out at (composite_text i)) out) out

-- ---- by the tests: the rules first, then the room

module _ (i : Identity) (out : List ℕ) (at : ℕ) where
  pub write_inadmissible : is_valid i ≡ false → (outcome (Some i) out at ≡ refused 20) × (left (Some i) out at ≡ out)
  unfolding outcome left is_admitted
  write_inadmissible v = (rw v, rw v)

  pub write_short : is_valid i ≡ true → length out < at + length (composite_text i) → (outcome (Some i) out at ≡ refused 19) × (left (Some i) out at ≡ out)
  unfolding outcome left is_admitted fits
  write_short v h = (rw (v, lt-leb _ _ h), rw (v, lt-leb _ _ h))

  pub write_done : is_valid i ≡ true → at + length (composite_text i) ≤ length out
      → (outcome (Some i) out at ≡ wrote (length (composite_text i))) × (left (Some i) out at ≡ overwritten out at (composite_text i))
  unfolding outcome left is_admitted fits
  write_done v h = (rw (v, le-leb _ _ h), rw (v, le-leb _ _ h))
