-- Demand 2: each list of records that document 01 admits, that makes a pack within the limit and that the buffer holds, is written and reads back as that list.
use Prim.Native.Nat.{ℕ, ◌^◌, ◌≤◌, ◌<◌}
use Rattle.std.specs.Prelude.{true, ◌≡◌, refl, take, drop}
use mathlib.Core.List.{List, [], ◌∷◌}
use Rattle.std.proofs.Common.{arith}
use Rattle.std.proofs.Math.ListN.{length, length-append}
use Rattle.slices.specs.Logic.{absurd_numbers}
use Rattle.refusals.specs.Answers.{Answer, refused, granted, is_result}
use Rattle.tlv.specs.Layout.{Fits, layouts, length_layout}
use Rattle.pack.specs.declared.Entry.{Entry}
use Rattle.pack.specs.Reading.{whole, reading}
use Rattle.pack.specs.Acceptance.{AllFit}
use Rattle.primary.specs.Parts as primary
use Rattle.pack_list.specs.Lists as list
use Rattle.records.specs.Record.{Record, there, record_at, of_version, of_version_delete, of_pack_list}
use Rattle.records_model.specs.Record.{RecordHeld, record_in, with_held}
use Rattle.records_model.specs.Written.{held_alone}
use Rattle.writer.specs.Writing.{Item, block, version, version_delete, pack_list, deletion, tag_of, value_of, item_bytes, admitted}
use Rattle.writer_laws.specs.Meaning.{held_of, AreBytes, item_bytes_lem}
use Rattle.writer_laws.specs.Calls.{all_written, write_all, AllAdmitted, record_for, records_of}

abbrev pub AllBytesOf : List Item → Type 0
AllBytesOf [] = Unit {0}
AllBytesOf (item ∷ items) = AreBytes item × AllBytesOf items

-- the record at the place reads as the item means: tag, value's bytes, primary part, data, identifier, and delete flag or delete identifier
pub record Means (limit : ℕ) (s : List ℕ) (item : Item) (e : Entry) : Type 0 where
  pub tag : e.tag ≡ tag_of item
  pub found : Record
  pub there_is : record_at limit s e.start ≡ there (value_of item) found
  pub holds : record_in (value_of item) (granted found) ≡ held_of item

-- one entry for each item, in order
pub data AllMean (limit : ℕ) (s : List ℕ) : List Item → List Entry → Type 0 where
  no_items : AllMean limit s [] []
  next : {item : Item} {e : Entry} {items : List Item} {es : List Entry} → Means limit s item e → AllMean limit s items es
      → AllMean limit s (item ∷ items) (e ∷ es)

pub record ReadsBack (limit : ℕ) (items : List Item) (buf : List ℕ) : Type 0 where
  pub count : ℕ
  pub exit : List ℕ
  -- no call is refused
  pub written : write_all limit items 0 buf ≡ all_written count exit
  -- the bytes behind the pack are as they were
  pub behind : drop count exit ≡ drop count buf
  pub accepted : (reading limit (take count exit)).ending ≡ whole
  pub reads : AllMean limit (take count exit) items (reading limit (take count exit)).entries

-- ---- each item by itself

pub means : (item : Item) → admitted item ≡ true → (h : RecordHeld) × (held_of item ≡ granted h)
means (block i d) a = (_, refl)
means (version p) a = by (primary.version p) a
  where
    by : (r : Answer primary.Version) → is_result r ≡ true → (h : RecordHeld) × (with_held (held_alone p) (of_version r) ≡ granted h)
    by (granted v) t = (_, refl)
    by (refused n) t = absurd_numbers (cc)
means (version_delete p) a = by (primary.version_delete p) a
  where
    by : (r : Answer primary.VersionDelete) → is_result r ≡ true → (h : RecordHeld) × (with_held (held_alone p) (of_version_delete r) ≡ granted h)
    by (granted v) t = (_, refl)
    by (refused n) t = absurd_numbers (cc)
means (pack_list p) a = by (list.pack_list p) a
  where
    by : (r : Answer list.PackList) → is_result r ≡ true → (h : RecordHeld) × (with_held (held_alone p) (of_pack_list r) ≡ granted h)
    by (granted l) t = (_, refl)
    by (refused n) t = absurd_numbers (cc)
means (deletion i u) a = (_, refl)

tag_fits : (item : Item) → tag_of item < 2 ^ 16
tag_fits (block i d) = omega arith
tag_fits (version p) = omega arith
tag_fits (version_delete p) = omega arith
tag_fits (pack_list p) = omega arith
tag_fits (deletion i u) = omega arith

module _ (limit : ℕ) (small : limit < 2 ^ 32) where
  pub fits : (item : Item) → AreBytes item → admitted item ≡ true → length (value_of item) ≤ limit → Fits (record_for item)
  fits item b a l = record { spare = omega arith; tag = tag_fits item; value = omega arith; bytes = item_bytes_lem limit small item b a l }

  pub all_fit : (items : List Item) → AllBytesOf items → AllAdmitted items → length (layouts (records_of items)) ≤ limit → AllFit (records_of items)
  unfolding layouts
  all_fit [] b a l = tt
  all_fit (item ∷ items) b a l =
      let n = length-append (item_bytes item) (layouts (records_of items)) in
      let m = length_layout (record_for item) in
      (fits item b.0 a.0 (omega arith), all_fit items b.1 a.1 (omega arith))
