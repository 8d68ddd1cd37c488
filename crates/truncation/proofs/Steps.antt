-- What a reader finds where something of a record is left, and not all.
use Rattle.std.specs.Prelude.{ℕ, ◌+◌, ◌<◌, Bool, true, false, cond, List, ◌++◌, ◌≡◌, refl, ltb}
use borrow.Author.Tests.{ltb-true, ltb-false}
use Rattle.std.proofs.Math.ListN.{length}
use Rattle.tlv.specs.Found.{fault, step}
use Rattle.tlv.specs.Stands.{Stands}
use Rattle.tlv.specs.declared.RecordHeader.{RecordHeader}
use Rattle.truncation.specs.Steps.{cut_number, value_cut, header_cut}

-- something of the record is left, and not all
pub record_cut : (x y : List ℕ) (h : RecordHeader) → Stands (x ++ y) h → 0 < length x → length x < 32 + h.length → step x ≡ fault (cut_number (length x))
record_cut x y h stands begun short = go (ltb (length x) 32) refl
  where
    go : (t : Bool) → ltb (length x) 32 ≡ t → step x ≡ fault (cond t 2 7)
    go true e = header_cut x begun (ltb-true (length x) 32 e)
    go false e = value_cut x y h stands (ltb-false (length x) 32 e) short
