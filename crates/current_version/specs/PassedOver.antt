-- Records other than `vr` and `vd`, pack lists among them, are passed over: one of them more, wherever it stands and whatever its value, moves the records
-- behind it and changes nothing else.
use Prim.Native.Nat.{ℕ, ◌+◌, ◌≤◌}
use Rattle.std.specs.Prelude.{cond, ◌≡◌, ltb}
use mathlib.Core.List.{List, ◌∷◌, ◌++◌}
use Rattle.std.proofs.Math.ListN.{length}
use Rattle.tlv.specs.Layout.{Record, layout, layouts}
use Rattle.pack.specs.Acceptance.{AllFit}
use Rattle.current_version.specs.Current.{Placed, Answer, lookup}
use Rattle.current_version.specs.Alike.{AlikePlaced, AlikeAnswers}

-- ---- where a record stands when so many bytes more stand at a place

abbrev pub moved : (from by : ℕ) → ℕ → ℕ
moved from by at = cond (ltb at from) at (at + by)

-- the same answer, but for the places of records behind
abbrev pub MovedAnswers : (from by : ℕ) → Answer → Answer → Type 0
MovedAnswers from by = AlikeAnswers ◌≡◌ (λ p q. moved from by p ≡ q) ◌≡◌

module _ (limit from by : ℕ) where
  abbrev pub Moved : Placed → Placed → Type 0
  Moved = AlikePlaced ◌≡◌ (λ p q. moved from by p ≡ q) ◌≡◌

-- ---- one record more

module _ (limit : ℕ) (front back : List Record) (r : Record) (bucket object : List ℕ) where
  -- an accepted pack without the record, and with it
  abbrev pub PassedOver : Type 0
  PassedOver = AllFit (front ++ (r ∷ back)) → length (layouts (front ++ (r ∷ back))) ≤ limit
      → MovedAnswers (length (layouts front)) (length (layout r))
      (lookup limit (layouts (front ++ back)) bucket object) (lookup limit (layouts (front ++ (r ∷ back))) bucket object)
