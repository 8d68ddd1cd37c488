-- Demand 2: each list of records that document 01 admits, that makes a pack within the limit and that the buffer holds, is written and reads back as that list.
use Prim.Native.Nat.{ℕ, ◌+◌, ◌^◌, ◌≤◌, ◌<◌}
use Rattle.std.specs.Prelude.{true, ◌≡◌, refl, take, drop}
use mathlib.Core.List.{List, [], ◌∷◌, ◌++◌, append_assoc}
use Rattle.std.proofs.Common.{sym, ◌∙◌, arith, take_at, drop_at}
use Rattle.std.proofs.Math.Path.{ap}
use Rattle.std.proofs.Math.Nat.{zero-add}
use Rattle.std.proofs.Math.ListN.{length, length-append}
use Rattle.slices.specs.Overwriting.{overwritten}
use Rattle.tlv.specs.Layout.{layouts, length_layout}
use Rattle.pack.specs.Acceptance.{entry_of, entries_of}
use Rattle.pack.proofs.Acceptance.{layouts_accepted}
use Rattle.records.specs.Record.{read_record, at_place}
use Rattle.records.specs.Laws.{tag_and_value}
use Rattle.records_model.specs.Record.{record_in, is_held}
use Rattle.writer.specs.Writing.{Item, tag_of, value_of, item_bytes, admitted}
use Rattle.writer_laws.specs.Meaning.{AreBytes}
use Rattle.writer_laws.proofs.Meaning.{item_reads}
use Rattle.writer_laws.specs.Calls.{AllAdmitted, record_for, records_of, calls_write}
use Rattle.writer_laws.specs.ReadBack.{AllBytesOf, Means, AllMean, no_items, next, ReadsBack, means, fits, all_fit}

-- ---- the records one after the other, behind any bytes

module _ (limit : ℕ) (small : limit < 2 ^ 32) where
  pub means_there : (item : Item) (front rest : List ℕ) → AreBytes item → admitted item ≡ true
      → length (front ++ (item_bytes item ++ rest)) ≤ limit → length (value_of item) ≤ limit
      → Means limit (front ++ (item_bytes item ++ rest)) item (entry_of (length front) (record_for item))
  means_there item front rest b a l m =
      let h = means item a in
      let held = is_held (value_of item) (read_record limit (tag_of item) (value_of item)) h.0 (item_reads limit small item b a m ∙ h.1) in
      let at = tag_and_value limit front rest (record_for item) (fits limit small item b a m) l in
      record {
        tag = refl;
        found = held.found;
        there_is = cc (at ∙ ap (at_place (value_of item)) held.is);
        holds = cc (ap (record_in (value_of item)) (sym held.is) ∙ item_reads limit small item b a m);
      }

  all_mean : (items : List Item) (front : List ℕ) → AllBytesOf items → AllAdmitted items → length (front ++ layouts (records_of items)) ≤ limit
      → AllMean limit (front ++ layouts (records_of items)) items (entries_of (length front) (records_of items))
  unfolding layouts entries_of
  all_mean [] front b a l = no_items
  all_mean (item ∷ items) front b a l =
      let rest : List ℕ = layouts (records_of items) in
      let n : length (front ++ (item_bytes item ++ rest)) ≡ length front + (length (item_bytes item) + length rest)
      = length-append front (item_bytes item ++ rest) ∙ ap (λ k. length front + k) (length-append (item_bytes item) rest) in
      let m = length_layout (record_for item) in
      let grouped : (front ++ item_bytes item) ++ rest ≡ front ++ (item_bytes item ++ rest) = append_assoc front (item_bytes item) rest in
      let later : AllMean limit (front ++ (item_bytes item ++ rest)) items (entries_of (length front + length (item_bytes item)) (records_of items))
      = rw (← length-append front (item_bytes item), ← grouped) (all_mean items (front ++ item_bytes item) b.1 a.1 (rw grouped l)) in
      next (means_there item front rest b.0 a.0 l (omega arith)) later

  -- ---- the theorem

  front_written : (e buf : List ℕ) → overwritten buf 0 e ≡ e ++ drop (length e) buf
  unfolding overwritten
  front_written e buf = rw zero-add

  pub reads_back : (items : List Item) (buf : List ℕ) → AllAdmitted items → AllBytesOf items
      → length (layouts (records_of items)) ≤ limit → length (layouts (records_of items)) ≤ length buf → ReadsBack limit items buf
  reads_back items buf a b l m =
      let e : List ℕ = layouts (records_of items) in
      let n : ℕ = 0 + length e in
      let sum : 0 + length e ≡ length e = zero-add (length e) in
      let wrote = calls_write limit items 0 buf a (omega arith) (omega arith) in
      let is : overwritten buf 0 e ≡ e ++ drop (length e) buf = front_written e buf in
      let front : take n (overwritten buf 0 e) ≡ e = rw (sum, is) (take_at e (drop (length e) buf) (length e) refl) in
      let read_all = layouts_accepted limit e l (records_of items) (all_fit limit small items b a l) refl in
      record {
        count = n;
        exit = overwritten buf 0 e;
        written = cc (wrote);
        behind = rw (sum, is) (drop_at e (drop (length e) buf) (length e) refl);
        accepted = rw (front, read_all);
        reads = rw (front, read_all) (all_mean items [] b a l);
      }
