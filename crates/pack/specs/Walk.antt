-- The walker: what a call answers at any place, and that successive calls answer the records of the reading, and then its ending for ever.
use Prim.Native.Nat.{ℕ, zero, suc, ◌+◌, ◌≤◌, ◌<◌}
use Rattle.std.specs.Prelude.{cond, List, [], ◌∷◌, ◌≡◌, ltb, length, drop}
use Rattle.std.specs.Prelude.{Option, Some, None, Result, Ok, Err}
use Rattle.std.proofs.Common.{lt-ltb, le-ltb}
use Rattle.tlv.specs.Found.{Found, end, found, fault, step}
use Rattle.pack.specs.declared.Entry.{Entry}
use Rattle.pack.specs.declared.Fault.{Fault}
use Rattle.pack.specs.declared.Turn.{Turn}
use Rattle.pack.specs.Reading.{Reading, Ending, whole, refused, fault_number, fault_place, entry_at}

pub data Yield : Type 0 where
  entry : Entry → Yield
  ended : Yield
  refusal : (number place : ℕ) → Yield

-- what each answer of the code says
abbrev pub yield_of : Result (Option Entry) Fault → Yield
yield_of (Ok (Some e)) = entry e
yield_of (Ok None) = ended
yield_of (Err f) = refusal (fault_number f) (fault_place f)

-- a call: its answer, and the place at which it leaves the walker
pub record Call : Type 0 where
  pub yield : Yield
  pub place : ℕ

abbrev pub call_for : Found → ℕ → Call
call_for end at = record { yield = ended; place = at }
call_for (found h) at = record { yield = entry (entry_at at h); place = at + 32 + h.length }
call_for (fault n) at = record { yield = refusal n at; place = at }

-- what a turn of the code says
abbrev pub call_of : Turn → Call
call_of t = record { yield = yield_of t.walked; place = t.at }

-- at any place, also in the middle of a record or past the end
unfoldable pub turn_at : ℕ → List ℕ → ℕ → Call
turn_at limit s at = cond (ltb limit (length s)) (record { yield = refusal 1 0; place = at }) (call_for (step (drop at s)) at)

-- the n-th answer of a reading, from 0: its entries, and then how it ends, again and again
abbrev pub ending_yield : Ending → Yield
ending_yield whole = ended
ending_yield (refused n at) = refusal n at

abbrev pub nth_of : List Entry → Ending → ℕ → Yield
nth_of [] ending n = ending_yield ending
nth_of (e ∷ es) ending zero = entry e
nth_of (e ∷ es) ending (suc n) = nth_of es ending n

abbrev pub nth_yield : Reading → ℕ → Yield
nth_yield r n = nth_of r.entries r.ending n

-- where a walker that stands at a place stands after n calls, and a new one before its call number n
unfoldable pub place_from : ℕ → List ℕ → ℕ → ℕ → ℕ
place_from limit s at zero = at
place_from limit s at (suc n) = (turn_at limit s (place_from limit s at n)).place

abbrev pub place_of : ℕ → List ℕ → ℕ → ℕ
place_of limit s n = place_from limit s 0 n

-- ---- a call, by the pack's length and by what stands at the place

module _ (limit : ℕ) (s : List ℕ) (at : ℕ) where
  pub turn_too_long : limit < length s → turn_at limit s at ≡ record { yield = refusal 1 0; place = at }
  unfolding turn_at
  turn_too_long l = rw (lt-ltb limit (length s) l)

  pub turn_found : length s ≤ limit → (f : Found) → step (drop at s) ≡ f → turn_at limit s at ≡ call_for f at
  unfolding turn_at
  turn_found l f e = rw (le-ltb limit (length s) l, e)
