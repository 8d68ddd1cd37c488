-- The answer of `vof_scan`, and the lent words at exit, from what the check answered: a count is that of a reading that ends whole, and like the place of a refusal within the limit.
use Prim.Native.Nat.{ℕ, ◌/◌, ◌%◌, ◌^◌, ◌≤◌, ◌<◌}
use mathlib.Core.List.{List}
use mathlib.Core.Path.{◌≡◌, refl, sym, ap, ◌∙◌}
use native.Mathlib.Omega.{arith}
use borrow.Author.Tests.{le-leb, lt-leb}
use lib.ListN.{length}
use Rattle.std.specs.Prelude.{Result, Ok}
use Rattle.slices.specs.Overwriting.{overwritten}
use Rattle.slices.specs.Logic.{absurd_numbers}
use Rattle.refusals.specs.Limit.{pack_limit}
use Rattle.pack.specs.Reading.{Reading, Ending, whole, refused, counted, outcome_of, outcome, reading}
use Rattle.pack.specs.Bounds.{reading_bounded}
use Rattle.pack.proofs.Acceptance.{accepted_reading}
use Rattle.pack.specs.Scan.{scanned, first_entries, first_entries_lem}
use Rattle.pack.specs.declared.Entry.{Entry}
use Rattle.pack.specs.declared.Fault.{Fault}
use Rattle.words.specs.Words.{answer, answer_whole}
use Rattle.capi_pack.specs.Scan.{entry_words, outcome_answer, scan_told}

-- ---- how the reading ends, by the outcome

refused_ending : (r : Reading) (n place : ℕ) → refused n place ≡ outcome r → r.ending ≡ refused n place
refused_ending r n place e = by r.entries r.ending e
  where
    by : (es : List Entry) (x : Ending) → refused n place ≡ outcome (record { entries = es; ending = x }) → x ≡ refused n place
    by es whole q = absurd_numbers (cc)
    by es (refused m at) q = cc

counted_whole : (r : Reading) (n : ℕ) → counted n ≡ outcome r → (r.ending ≡ whole) × (n ≡ length r.entries)
counted_whole r n e = by r.entries r.ending e
  where
    by : (es : List Entry) (x : Ending) → counted n ≡ outcome (record { entries = es; ending = x }) → (x ≡ whole) × (n ≡ length es)
    by es whole q = (refl, cc)
    by es (refused m at) q = absurd_numbers (cc)

-- `c` is what the check answered
module _ (s told : List ℕ) (c : Result ℕ Fault) (checked : outcome_of c ≡ outcome (reading pack_limit s)) where
  -- what the scan answers, and what it leaves
  abbrev Scans : ℕ → List ℕ → Type 0
  Scans r left = (r ≡ outcome_answer (scanned (reading pack_limit s) (length told / 4))) × (left ≡ scan_told (reading pack_limit s) told)

  pub scan_refused : (n place : ℕ) → outcome_of c ≡ refused n place → n < 256 → Scans (answer n place % 2 ^ 64) told
  scan_refused n place is small =
      let ends = refused_ending (reading pack_limit s) n place (sym is ∙ checked) in
      let within = (reading_bounded pack_limit s).place n place ends in
      rw (answer_whole n place small (omega arith), ends) (refl, refl)

  module _ (n : ℕ) (is : c ≡ Ok n) where
    counts : ((reading pack_limit s).ending ≡ whole) × (n ≡ length (reading pack_limit s).entries)
    counts = counted_whole (reading pack_limit s) n (sym (ap outcome_of is) ∙ checked)

    pub scan_short : length told / 4 < n → Scans (answer 19 0) told
    scan_short h = rw (counts.0, ← counts.1, lt-leb n (length told / 4) h) (refl, refl)

    entries_are : first_entries n s 0 ≡ (reading pack_limit s).entries
    entries_are =
        rw counts.1 (first_entries_lem (reading pack_limit s).entries s 0 (ap (λ (r : Reading). r.entries) (sym (accepted_reading pack_limit s counts.0))))

    pub scan_filled : n ≤ length told / 4 → Scans (answer 0 n % 2 ^ 64) (overwritten told 0 (entry_words (first_entries n s 0)))
    scan_filled h =
        let within : n ≤ pack_limit = omega (arith, counts.1, (reading_bounded pack_limit s).count) in
        rw (answer_whole 0 n (omega arith) (omega arith), counts.0, ← counts.1, le-leb n (length told / 4) h, entries_are) (refl, refl)
