-- A list of such items, written one record a call, makes a deposited pack.
use Prim.Native.Nat.{ℕ, ◌+◌, ◌^◌, ◌≤◌, ◌<◌}
use mathlib.Core.List.{List, [], ◌∷◌, ◌++◌, append_assoc}
use Rattle.std.specs.Prelude.{◌≡◌, drop}
use Rattle.std.proofs.Math.Path.{refl, ap}
use Rattle.std.proofs.Common.{◌∙◌, take_at}
use Rattle.std.proofs.Math.Nat.{zero-add}
use native.Mathlib.Omega.{arith}
use Rattle.std.proofs.Math.ListN.{length, take, length-append}
use Rattle.slices.specs.Overwriting.{overwritten}
use Rattle.tlv.specs.Layout.{Record, Fits, layout, layouts, length_layout}
use Rattle.pack.specs.Reading.{whole, counted}
use Rattle.pack.specs.Acceptance.{entry_of, entries_of}
use Rattle.pack.proofs.Acceptance.{layouts_accepted}
use Rattle.writer.specs.Writing.{Item, value_of, item_bytes}
use Rattle.writer_laws.specs.ReadBack.{AllBytesOf, fits, all_fit}
use Rattle.writer_laws.specs.Calls.{AllAdmitted, record_for, records_of, calls_write}
use Rattle.deposit.specs.Profile.{fault_of}
use Rattle.deposit.specs.Packs.{entry_fault, first_fault, deposit_reading, deposit}
use Rattle.deposit_laws.specs.Written.{AllDepositable}
use Rattle.deposit_laws.proofs.Written.{item_passes}
use Rattle.deposit_laws.specs.Calls.{spare_there, value_at_lem, DepositedCalls}

-- the record at a place is the one that stands there
module _ (front rest : List ℕ) (r : Record) (fit : Fits r) where
  fault_there : (limit : ℕ) → entry_fault limit (front ++ (layout r ++ rest)) (entry_of (length front) r) ≡ fault_of limit r.tag r.spare r.value
  unfolding entry_fault
  fault_there limit = rw (spare_there front rest r fit, value_at_lem front rest r fit)

module _ (limit : ℕ) (small : limit < 2 ^ 32) where
  none_at_fault : (items : List Item) (front : List ℕ) → AllBytesOf items → AllAdmitted items → AllDepositable items
      → length (front ++ layouts (records_of items)) ≤ limit
      → first_fault limit (front ++ layouts (records_of items)) (entries_of (length front) (records_of items)) ≡ whole
  unfolding layouts entries_of first_fault
  none_at_fault [] front b a d l = refl
  none_at_fault (item ∷ items) front b a d l =
      let rest : List ℕ = layouts (records_of items) in
      let n : length (front ++ (item_bytes item ++ rest)) ≡ length front + (length (item_bytes item) + length rest)
      = length-append front (item_bytes item ++ rest) ∙ ap (λ k. length front + k) (length-append (item_bytes item) rest) in
      let m = length_layout (record_for item) in
      let within : length (value_of item) ≤ limit = omega arith in
      let grouped : (front ++ item_bytes item) ++ rest ≡ front ++ (item_bytes item ++ rest) = append_assoc front (item_bytes item) rest in
      let here = fault_there front rest (record_for item) (fits limit small item b.0 a.0 within) limit
      ∙ item_passes limit small item b.0 a.0 within d.0 in
      let later : first_fault limit (front ++ (item_bytes item ++ rest)) (entries_of (length front + length (item_bytes item)) (records_of items)) ≡ whole
      = rw (← length-append front (item_bytes item), ← grouped) (none_at_fault items (front ++ item_bytes item) b.1 a.1 d.1 (rw grouped l)) in
      rw here later

  entries_count : (at : ℕ) (items : List Item) → length (entries_of at (records_of items)) ≡ length items
  unfolding entries_of
  entries_count at [] = refl
  entries_count at (item ∷ items) = omega (arith, entries_count (at + length (layout (record_for item))) items)

  -- the records of such items, end to end, are a deposited pack
  pub records_deposited : (items : List Item) → AllBytesOf items → AllAdmitted items → AllDepositable items
      → length (layouts (records_of items)) ≤ limit → deposit limit (layouts (records_of items)) ≡ counted (length items)
  unfolding deposit_reading
  records_deposited items b a d l =
      let read = layouts_accepted limit (layouts (records_of items)) l (records_of items) (all_fit limit small items b a l) refl in
      rw (read, none_at_fault items [] b a d l, entries_count 0 items)

  pub calls_deposited : (items : List Item) (buf : List ℕ) → AllAdmitted items → AllBytesOf items → AllDepositable items
      → length (layouts (records_of items)) ≤ limit → length (layouts (records_of items)) ≤ length buf → DepositedCalls limit small items buf
  unfolding overwritten
  calls_deposited items buf a b d l m =
      let e : List ℕ = layouts (records_of items) in
      let sum : 0 + length e ≡ length e = zero-add (length e) in
      let wrote = calls_write limit items 0 buf a (omega arith) (omega arith) in
      let front : take (0 + length e) (overwritten buf 0 e) ≡ e = rw sum (take_at e (drop (length e) buf) (length e) refl) in
      record {
        count = 0 + length e;
        exit = overwritten buf 0 e;
        written = wrote;
        deposited = rw front (records_deposited items b a d l);
      }
