-- How the check of the pack ends, and what the deposit check then gives.
use Prim.Native.Nat.{ℕ}
use mathlib.Core.List.{List}
use mathlib.Core.Path.{◌≡◌, refl, sym, ap, ◌∙◌}
use lib.ListN.{length}
use Rattle.slices.specs.Logic.{absurd_numbers}
use Rattle.pack.specs.declared.Entry.{Entry}
use Rattle.pack.specs.Reading.{Reading, Ending, whole, refused, records, reading, counted, outcome}
use Rattle.pack.proofs.Acceptance.{accepted_reading}
use Rattle.deposit.specs.Packs.{first_fault, if_whole, outcome_by, deposit_reading, deposit}

counted_whole : (r : Reading) (n : ℕ) → counted n ≡ outcome r → (r.ending ≡ whole) × (n ≡ length r.entries)
counted_whole r n e = by r.entries r.ending e
  where
    by : (es : List Entry) (x : Ending) → counted n ≡ outcome (record { entries = es; ending = x }) → (x ≡ whole) × (n ≡ length es)
    by es whole q = (refl, cc)
    by es (refused m at) q = absurd_numbers (cc)

module _ (limit : ℕ) (s : List ℕ) where
  module _ (n : ℕ) (e : counted n ≡ outcome (reading limit s)) where
    is_reading : reading limit s ≡ records 0 0 s
    is_reading = accepted_reading limit s (counted_whole (reading limit s) n e).0

    pub ends_whole : (records 0 0 s).ending ≡ whole
    ends_whole = ap (λ (r : Reading). r.ending) (sym is_reading) ∙ (counted_whole (reading limit s) n e).0

    pub by_records : outcome_by n (first_fault limit s (records 0 0 s).entries) ≡ deposit limit s
    unfolding deposit_reading
    by_records =
        let c = counted_whole (reading limit s) n e in
        rw (c.0, c.1, ← is_reading) (ends (first_fault limit s (reading limit s).entries))
      where
        ends : (x : Ending) → outcome_by (length (reading limit s).entries) x ≡ outcome (record { entries = (reading limit s).entries; ending = x })
        ends whole = refl
        ends (refused m at) = refl

  pub by_refusal : (n at : ℕ) → refused n at ≡ outcome (reading limit s) → refused n at ≡ deposit limit s
  unfolding deposit_reading
  by_refusal n at e = by (reading limit s).ending refl
    where
      by : (x : Ending) → (reading limit s).ending ≡ x
          → refused n at ≡ outcome (record { entries = (reading limit s).entries; ending = if_whole (reading limit s).ending (first_fault limit s (reading limit s).entries) })
      by whole q = absurd_numbers (cc (e ∙ ap (λ x. outcome (record { entries = (reading limit s).entries; ending = x })) q))
      by (refused m p) q = e ∙ rw q
