-- A list written by one call after the other, each told the count that the one before it returned.
use Prim.Native.Nat.{ℕ, ◌+◌, ◌≤◌}
use Rattle.std.specs.Prelude.{true, ◌≡◌}
use mathlib.Core.List.{List, [], ◌∷◌, ◌++◌, map}
use Rattle.std.specs.Prelude.{Some}
use Rattle.std.proofs.Common.{◌∙◌, add-zero}
use native.Mathlib.Omega.{arith}
use borrow.Author.Tests.{le-leb}
use Rattle.std.proofs.Math.ListN.{length, length-append}
use Rattle.slices.specs.Overwriting.{overwritten, none_overwritten, length_overwritten, overwritten_more}
use Rattle.refusals.specs.Answers.{Answer, granted, refused}
use Rattle.tlv.specs.Layout.{Record, layouts}
use Rattle.writer.specs.Writing.{Item, tag_of, value_of, record_of, item_bytes, admitted, counted, written, buffer_after}

-- how the calls end: the last count and the buffer; or the number of the call that was refused
pub data Ending : Type 0 where
  all_written : (used : ℕ) → (buf : List ℕ) → Ending
  stopped : (number : ℕ) → Ending

abbrev pub after : Answer ℕ → (ℕ → Ending) → Ending
after (granted n) next = next n
after (refused n) next = stopped n

unfoldable pub write_all : ℕ → List Item → ℕ → List ℕ → Ending
write_all limit [] used buf = all_written used buf
write_all limit (item ∷ items) used buf = after (written limit (length buf) used (Some item))
    (λ n. write_all limit items n (buffer_after limit used (Some item) buf))

abbrev pub AllAdmitted : List Item → Type 0
AllAdmitted [] = Unit {0}
AllAdmitted (item ∷ items) = (admitted item ≡ true) × AllAdmitted items

abbrev pub record_for : Item → Record
record_for item = record_of (tag_of item) (value_of item)

abbrev pub records_of : List Item → List Record
records_of items = map record_for items

module _ (limit : ℕ) where
  one_call : (item : Item) (used : ℕ) (buf : List ℕ) → admitted item ≡ true → used + length (item_bytes item) ≤ limit
      → used + length (item_bytes item) ≤ length buf
      → (written limit (length buf) used (Some item) ≡ granted (used + length (item_bytes item)))
      × (buffer_after limit used (Some item) buf ≡ overwritten buf used (item_bytes item))
  unfolding written counted buffer_after
  one_call item used buf a l m = (rw (a, le-leb _ _ l, le-leb _ _ m), rw (a, le-leb _ _ l, le-leb _ _ m))

  -- from any count on
  pub calls_write : (items : List Item) (used : ℕ) (buf : List ℕ) → AllAdmitted items
      → used + length (layouts (records_of items)) ≤ limit → used + length (layouts (records_of items)) ≤ length buf
      → write_all limit items used buf ≡ all_written (used + length (layouts (records_of items))) (overwritten buf used (layouts (records_of items)))
  unfolding write_all layouts
  calls_write [] used buf a l m = rw (add-zero used, none_overwritten buf used)
  calls_write (item ∷ items) used buf a l m =
      let e : List ℕ = item_bytes item in
      let f : List ℕ = layouts (records_of items) in
      let total : length (e ++ f) ≡ length e + length f = length-append e f in
      let one = one_call item used buf a.0 (omega arith) (omega arith) in
      let room : length (overwritten buf used e) ≡ length buf = length_overwritten buf used e (omega arith) in
      let more = calls_write items (used + length e) (overwritten buf used e) a.1 (omega arith) (omega arith) in
      let sum : used + length e + length f ≡ used + length (e ++ f) = omega arith in
      rw (one.0, one.1) (more ∙ rw (sum, overwritten_more buf used e f (omega arith)))
