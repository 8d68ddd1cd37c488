-- Bytes put one after the other into a buffer.
use Rattle.std.specs.Prelude.{ℕ, ◌+◌, List, ◌++◌, ◌≡◌, length}
use Rattle.std.specs.Prelude.{Option, None, Some}
use Rattle.slices.specs.Overwriting.{overwritten}
use Rattle.endian.specs.Numbers.{big_bytes}
use Rattle.tlv.specs.Layout.{magic}
use Rattle.tlv.specs.declared.RecordHeader.{RecordHeader}

-- e put at a place of s leaves t, and next is the place after it
pub record Puts (s : List ℕ) (at : ℕ) (e t : List ℕ) (next : ℕ) : Type 0 where
  pub left : t ≡ overwritten s at e
  pub place : next ≡ at + length e

-- the place that was told
abbrev pub told_place : Option ℕ → ℕ
told_place None = 0
told_place (Some n) = n

-- bytes 0..29 of a record with this header
unfoldable pub field_bytes : RecordHeader → List ℕ
field_bytes h = big_bytes 8 magic ++ big_bytes 8 h.length ++ big_bytes 8 h.hash ++ big_bytes 1 0 ++ big_bytes 2 h.tag ++ big_bytes 1 8 ++ big_bytes 2 0
