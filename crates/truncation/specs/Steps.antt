-- What a reader finds at the start of a record of which only a front is left: the bytes x, where x ++ y was there.
use Rattle.std.specs.Prelude.{ℕ, ◌+◌, ◌-◌, ◌%◌, ◌≤◌, ◌<◌, cond, List, ◌++◌, ◌≡◌, ltb, drop}
use Rattle.std.proofs.Common.{sym, ◌∙◌, length-drop}
use Rattle.std.proofs.Math.Path.{ap}
use native.Mathlib.Omega.{arith}
use borrow.Author.Tests.{lt-ltb, le-ltb, eq-eqb, ne_eqb}
use Rattle.std.proofs.Math.ListN.{length, take}
use Rattle.std.proofs.lemmas.List.{take-append-le, drop-append-le}
use Rattle.refusals.specs.Sheet.{lowest}
use Rattle.xxh64.specs.Xxh64.{xxh64}
use Rattle.tlv.specs.Layout.{field}
use Rattle.tlv.specs.Found.{header_rows, value_rows, header_of, found, fault, step}
use Rattle.tlv.specs.Stands.{Stands, stands_step}
use Rattle.tlv.specs.declared.RecordHeader.{RecordHeader}

-- 2 where fewer than 32 bytes of the record are left, 7 where 32 or more are
abbrev pub cut_number : ℕ → ℕ
cut_number left = cond (ltb left 32) 2 7

module _ (x y : List ℕ) where
  -- what lies in the front is there as before
  part_left : (at w : ℕ) → at + w ≤ length x → take w (drop at (x ++ y)) ≡ take w (drop at x)
  part_left at w inside =
      ap (take w) (drop-append-le at x y (omega arith)) ∙ take-append-le w (drop at x) y (rw length-drop (omega arith))

  field_left : (at w : ℕ) → at + w ≤ length x → field x at w ≡ field (x ++ y) at w
  unfolding field
  field_left at w inside = rw (part_left at w inside)

  module _ (h : RecordHeader) (stands : Stands (x ++ y) h) where
    length_is : field (x ++ y) 8 8 ≡ h.length
    unfolding header_of
    length_is = ap (λ (g : RecordHeader). g.length) stands.header

    module _ (header-left : 32 ≤ length x) where
      length_left : field x 8 8 ≡ h.length
      length_left = field_left 8 8 (omega arith) ∙ length_is

      hash_left : field x 30 2 ≡ xxh64 (take 30 x) % 65536
      hash_left =
          field_left 30 2 (omega arith) ∙ stands.header_hash ∙ ap (λ (t : List ℕ). xxh64 t % 65536) (take-append-le 30 x y (omega arith))

      -- all of the record is left: it stands as before
      pub record_left : 32 + h.length ≤ length x → step x ≡ found h
      unfolding header_of
      record_left long = stands_step x h (record {
        header = (λ i. record { tag = field_left 25 2 (omega arith) i; length = field_left 8 8 (omega arith) i; hash = field_left 16 8 (omega arith) i })
            ∙ stands.header;
        long = long;
        magic = field_left 0 8 (omega arith) ∙ stands.magic;
        version = field_left 24 1 (omega arith) ∙ stands.version;
        hash_type = field_left 27 1 (omega arith) ∙ stands.hash_type;
        header_hash = hash_left;
        value_hash =
            field_left 16 8 (omega arith) ∙ stands.value_hash
            ∙ ap xxh64 (ap (λ (n : ℕ). take n (drop 32 (x ++ y))) length_is ∙ part_left 32 h.length long
            ∙ ap (λ (n : ℕ). take n (drop 32 x)) (sym length_left));
      })

      -- its header is left, and less than its value
      pub value_cut : length x < 32 + h.length → step x ≡ fault 7
      unfolding step header_rows value_rows lowest
      value_cut short =
          let some : length x ≡ 0 → ⊥ = λ e. omega arith in
          rw (
            ne_eqb (length x) 0 some,
            le-ltb (length x) 32 header-left,
            field_left 0 8 (omega arith) ∙ stands.magic,
            field_left 24 1 (omega arith) ∙ stands.version,
            field_left 27 1 (omega arith) ∙ stands.hash_type,
            eq-eqb _ _ hash_left,
            length_left,
            lt-ltb (length x - 32) h.length (omega arith),
          )

-- less than a header is left
pub header_cut : (x : List ℕ) → 0 < length x → length x < 32 → step x ≡ fault 2
unfolding step header_rows value_rows lowest
header_cut x begun short =
    let some : length x ≡ 0 → ⊥ = λ e. omega arith in
    rw (ne_eqb (length x) 0 some, lt-ltb (length x) 32 short)
