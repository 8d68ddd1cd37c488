-- The walker's successive calls answer the records of the reading, and then its ending for ever.
use Prim.Native.Nat.{ℕ, zero, suc, ◌+◌, ◌≤◌}
use Rattle.std.specs.Prelude.{Bool, true, false, List, ◌≡◌, ltb, length, drop}
use Rattle.std.proofs.Math.Path.{refl, ap}
use Rattle.std.proofs.Common.{◌∙◌, ltb-true, ltb-false}
use Rattle.tlv.specs.Found.{Found, end, found, fault, step}
use Rattle.tlv.specs.declared.RecordHeader.{RecordHeader}
use Rattle.pack.specs.Reading.{records, reading, records_end, records_fault, records_on}
use Rattle.pack.specs.Walk.{Yield, ended, refusal, Call, turn_at, nth_yield, place_from, place_of, turn_too_long, turn_found}

-- ---- the answers of successive calls are the reading's, for accepted packs and for refused ones

module _ (limit : ℕ) (s : List ℕ) where
  -- the first of n + 1 calls, and the others
  place_next : (at n : ℕ) → place_from limit s (turn_at limit s at).place n ≡ place_from limit s at (suc n)
  unfolding place_from
  place_next at zero = refl
  place_next at (suc n) = ap (λ (p : ℕ). (turn_at limit s p).place) (place_next at n)

  -- a walker that a call leaves where it is stays there
  stays : (at n : ℕ) → (turn_at limit s at).place ≡ at → place_from limit s at n ≡ at
  unfolding place_from
  stays at zero e = refl
  stays at (suc n) e = ap (λ (p : ℕ). (turn_at limit s p).place) (stays at n e) ∙ e

  -- so its answer is the same at each later call
  same_answer : (at n : ℕ) (y : Yield) → turn_at limit s at ≡ record { yield = y; place = at } → (turn_at limit s (place_from limit s at n)).yield ≡ y
  same_answer at n y e = rw (stays at n (ap (λ (c : Call). c.place) e), e)

  module _ (within : length s ≤ limit) where
    -- from a place on, call number n answers what the reading from there has
    abbrev Yields : ℕ → ℕ → Type 0
    Yields at n = (turn_at limit s (place_from limit s at n)).yield ≡ nth_yield (records at 0 (drop at s)) n

    -- it is so where no record stands; where one does, it is to be shown
    by_step_lem : (at n : ℕ) → ((h : RecordHeader) → step (drop at s) ≡ found h → Yields at n) → Yields at n
    by_step_lem at n at-record = go (step (drop at s)) refl
      where
        go : (f : Found) → step (drop at s) ≡ f → Yields at n
        go end e = rw (records_end at (drop at s) e) (same_answer at n ended (turn_found limit s at within end e))
        go (fault k) e = rw (records_fault at (drop at s) k e) (same_answer at n (refusal k at) (turn_found limit s at within (fault k) e))
        go (found h) e = at-record h e

    yields_from : (n at : ℕ) → Yields at n
    unfolding place_from
    yields_from zero at = by_step_lem at 0 (λ h e. rw (records_on at s h e, turn_found limit s at within (found h) e))
    yields_from (suc n) at = by_step_lem at (suc n) (λ h e.
        let next : (turn_at limit s at).place ≡ at + 32 + h.length = ap (λ (c : Call). c.place) (turn_found limit s at within (found h) e) in
        rw (records_on at s h e, ← place_next at n, next) (yields_from n (at + 32 + h.length)))

-- call number n of a new walker, from 0
pub walk_yields : (limit : ℕ) (s : List ℕ) (n : ℕ) → (turn_at limit s (place_of limit s n)).yield ≡ nth_yield (reading limit s) n
unfolding reading
walk_yields limit s n = go (ltb limit (length s)) refl
  where
    go : (t : Bool) → ltb limit (length s) ≡ t → (turn_at limit s (place_of limit s n)).yield ≡ nth_yield (reading limit s) n
    go true e = rw e (same_answer limit s 0 n (refusal 1 0) (turn_too_long limit s 0 (ltb-true limit (length s) e)))
    go false e = rw e (yields_from limit s (ltb-false limit (length s) e) n 0)
