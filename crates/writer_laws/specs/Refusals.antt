-- What is refused, and nothing else: 20 exactly where a record is not admitted or the pack would be above the limit, 19 exactly where the
-- buffer alone is too short. All else is written.
use Rattle.std.specs.Prelude.{ℕ, ◌+◌, ◌≤◌, ◌<◌, Bool, cond, ◌↔◌, ◌⊎◌, length}
use Rattle.std.proofs.Math.Bool.{true, false}
use Rattle.std.proofs.Math.Logic.{inl, inr, ⊎_elim}
use Rattle.std.specs.Prelude.{Some}
use Rattle.std.proofs.Math.Path.{◌≡◌, refl}
use Rattle.std.proofs.Common.{ap, arith}
use borrow.Author.Tests.{le-leb, lt-leb, leb-true, leb-false}
use Rattle.std.proofs.Math.Dec.{leb}
use Rattle.slices.specs.Logic.{absurd_numbers}
use Rattle.refusals.specs.Answers.{Answer, granted, refused}
use Rattle.writer.specs.Writing.{Item, item_bytes, admitted, counted, written}

module _ (limit room used : ℕ) (item : Item) where
  -- the pack with the record
  abbrev total : ℕ
  total = used + length (item_bytes item)

  -- the three tests, one after the other
  data Tested : Answer ℕ → Type 0 where
    not_admitted : admitted item ≡ false → Tested (refused 20)
    above_limit : admitted item ≡ true → limit < total → Tested (refused 20)
    no_room : admitted item ≡ true → total ≤ limit → room < total → Tested (refused 19)
    written_out : admitted item ≡ true → total ≤ limit → total ≤ room → Tested (granted total)

  tested : Tested (written limit room used (Some item))
  unfolding written counted
  tested = by_admission (admitted item) refl
    where
      by_room : (t : Bool) → leb total room ≡ t → admitted item ≡ true → total ≤ limit → Tested (cond t (granted total) (refused 19))
      by_room true e a l = written_out a l (leb-true _ _ e)
      by_room false e a l = no_room a l (leb-false _ _ e)

      by_limit : (t : Bool) → leb total limit ≡ t → admitted item ≡ true → Tested (cond t (cond (leb total room) (granted total) (refused 19)) (refused 20))
      by_limit true e a = by_room (leb total room) refl a (leb-true _ _ e)
      by_limit false e a = above_limit a (leb-false _ _ e)

      by_admission : (t : Bool) → admitted item ≡ t → Tested
          (cond t (cond (leb total limit) (cond (leb total room) (granted total) (refused 19)) (refused 20)) (refused 20))
      by_admission true e = by_limit (leb total limit) refl e
      by_admission false e = not_admitted e

  pub refused_20 : written limit room used (Some item) ≡ refused 20 ↔ ((admitted item ≡ false) ⊎ (limit < total))
  unfolding written counted
  refused_20 = (λ e. why tested e, ⊎_elim (λ a. rw a) (λ l. above (admitted item) l))
    where
      why : {r : Answer ℕ} → Tested r → r ≡ refused 20 → (admitted item ≡ false) ⊎ (limit < total)
      why (not_admitted a) e = inl a
      why (above_limit a l) e = inr l
      why (no_room a l m) e = absurd_numbers (let z : ◌≡◌ {A = ℕ} 19 20 = cc in absurd (omega arith))
      why (written_out a l m) e = absurd_numbers (cc)

      above : (t : Bool) → limit < total → cond t (cond (leb total limit) (cond (leb total room) (granted total) (refused 19)) (refused 20)) (refused 20)
          ≡ refused 20
      above true l = rw (lt-leb _ _ l)
      above false l = refl

  pub refused_19 : written limit room used (Some item) ≡ refused 19 ↔ ((admitted item ≡ true) × (total ≤ limit) × (room < total))
  unfolding written counted
  refused_19 = (λ e. why tested e, λ h. rw (h.0, le-leb _ _ h.1, lt-leb _ _ h.2))
    where
      why : {r : Answer ℕ} → Tested r → r ≡ refused 19 → (admitted item ≡ true) × (total ≤ limit) × (room < total)
      why (not_admitted a) e = absurd (let z : ◌≡◌ {A = ℕ} 20 19 = cc in omega arith)
      why (above_limit a l) e = absurd (let z : ◌≡◌ {A = ℕ} 20 19 = cc in omega arith)
      why (no_room a l m) e = (a, l, m)
      why (written_out a l m) e = absurd_numbers (cc)

  pub written_exactly : (n : ℕ) → written limit room used (Some item) ≡ granted n ↔ ((admitted item ≡ true) × (total ≤ limit) × (total ≤ room) × (total ≡ n))
  unfolding written counted
  written_exactly n = (λ e. why tested e, λ h. rw (h.0, le-leb _ _ h.1, le-leb _ _ h.2) (ap granted h.3))
    where
      why : {r : Answer ℕ} → Tested r → r ≡ granted n → (admitted item ≡ true) × (total ≤ limit) × (total ≤ room) × (total ≡ n)
      why (not_admitted a) e = absurd_numbers (cc)
      why (above_limit a l) e = absurd_numbers (cc)
      why (no_room a l m) e = absurd_numbers (cc)
      why (written_out a l m) e = (a, l, m, (cc))
