-- The state of a pipe in lent words: what each of the 19 is, as include/vof.h tells it.
use Rattle.std.specs.Prelude.{ℕ, ◌+◌, cond, ◌&&◌, List, [], ◌∷◌, ◌≡◌, eqb, leb, ltb, length, get_or, drop, Option, Some, None, unwrap_or}
use Rattle.xxh64.specs.declared.State as hash
use Rattle.pipe.specs.Taking.{Progress}
use Rattle.pipe.specs.States.{progress_of}
use Rattle.pipe.specs.declared.Phase.{Phase}
use Rattle.pipe.specs.declared.Phase.TheVariants.{Header, Value, Refused, Ended}
use Rattle.pipe.specs.declared.State.{State}
use Rattle.capi_pipe.specs.Bytes.{unpacked}
use Rattle.capi_pipe.specs.declared.state.PhaseWords.{PhaseWords}

-- "VOF PIPE"
abbrev pub mark : ℕ
mark = 0x564F462050495045

-- ---- the state that words say

-- number i of them, 0 past their end
abbrev pub word : List ℕ → ℕ → ℕ
word w i = get_or w i 0

-- the 32 bytes that stand in four of them
abbrev pub bytes_in : List ℕ → ℕ → List ℕ
bytes_in w i = unpacked (word w i ∷ word w (i + 1) ∷ word w (i + 2) ∷ word w (i + 3) ∷ [])

-- by the number that says which it is; a refusal has a number and a place
abbrev pub phase_of : ℕ → ℕ → ℕ → Option Phase
phase_of kind n place =
    cond (eqb kind 0) (Some Header) (cond (eqb kind 1) (Some Value) (cond (eqb kind 3) (Some Ended) (cond (eqb kind 2 && ltb n 256) (Some (Refused n place)) None)))

unfoldable pub phase_in : List ℕ → Option Phase
phase_in w = cond (leb 19 (length w) && eqb (word w 0) mark) (phase_of (word w 1) (word w 4) (word w 2)) None

-- where they say none, a refusal of number 0, which no call leaves: each answers that it is malformed
abbrev pub no_phase : Phase
no_phase = Refused 0 0

unfoldable pub hash_in : List ℕ → hash.State
hash_in w = record { acc1 = word w 6; acc2 = word w 7; acc3 = word w 8; acc4 = word w 9; held = bytes_in w 15; count = word w 10 }

unfoldable pub state_in : List ℕ → State
state_in w = record { phase = unwrap_or (phase_in w) no_phase; start = word w 2; records = word w 3; header = bytes_in w 11; held = word w 5; hash = hash_in w }

abbrev pub progress_in : List ℕ → Progress
progress_in w = progress_of (state_in w)

-- ---- words that were written

-- they say this state, and those past the first 19 are kept
pub record Says (p : Progress) (before after : List ℕ) : Type 0 where
  pub state : progress_in after ≡ p
  pub rest : drop 19 after ≡ drop 19 before

-- what a phase is in words, of a record that starts here
abbrev pub phase_words : Phase → ℕ → PhaseWords
phase_words Header start = record { phase = 0; start = start; number = 0 }
phase_words Value start = record { phase = 1; start = start; number = 0 }
phase_words (Refused n place) start = record { phase = 2; start = place; number = n }
phase_words Ended start = record { phase = 3; start = start; number = 0 }
