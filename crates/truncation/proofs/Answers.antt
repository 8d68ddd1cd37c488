-- The check and the scan of a front answer as the reading of the front says.
use Rattle.std.specs.Prelude.{ℕ, ◌≤◌, List, ◌≡◌, length, take}
use Rattle.std.proofs.Common.{ap, ◌∙◌, le-leb}
use Rattle.std.proofs.lemmas.Bool.{lt-leb}
use Rattle.refusals.specs.Limit.{pack_limit}
use Rattle.pack.specs.declared.Entry.{Entry}
use Rattle.pack.specs.Reading.{whole, reading, Outcome, outcome}
use Rattle.pack.specs.Scan.{scanned, list_after}
use Rattle.truncation.specs.Cut.{BetweenRecords, cut_between}
use Rattle.truncation.proofs.Cut.{cut_inside}
use Rattle.truncation.specs.Answers.{CheckedCut, ScannedCut}

module _ (s : List ℕ) (n : ℕ) (answer : Outcome) (accepted : (reading pack_limit s).ending ≡ whole) (within : n ≤ length s) where
  pub checked_cut : answer ≡ outcome (reading pack_limit (take n s)) → CheckedCut (reading pack_limit s).entries n answer
  checked_cut e = record {
    between = λ c. e ∙ ap outcome (cut_between pack_limit s accepted n within c);
    inside = λ c. e ∙ ap outcome (cut_inside pack_limit s accepted n within c);
  }

  pub scanned_cut : (list after : List Entry) → answer ≡ scanned (reading pack_limit (take n s)) (length list)
      → after ≡ list_after (reading pack_limit (take n s)) list → ScannedCut (reading pack_limit s).entries n list answer after
  scanned_cut list after e f = record {
    between = λ c room. let fits = le-leb (length c.before) (length list) room in (rw (e, read c, fits), rw (f, read c, fits));
    short = λ c less. let fails = lt-leb (length c.before) (length list) less in (rw (e, read c, fails), rw (f, read c, fails));
    inside = λ c. let broken = cut_inside pack_limit s accepted n within c in (rw (e, broken), rw (f, broken));
  }
    where
      read : (c : BetweenRecords (reading pack_limit s).entries n) → reading pack_limit (take n s) ≡ record { entries = c.before; ending = whole }
      read c = cut_between pack_limit s accepted n within c
