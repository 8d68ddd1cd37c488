-- The relations that the read-back is said with tell things apart: what differs in one respect alone is not related.
use Rattle.std.specs.Prelude.{ℕ, ◌≡◌, length}
use mathlib.Core.List.{List, [], ◌∷◌, ◌++◌, Memᴰ}
use Rattle.std.specs.Prelude.{None, Result, Ok}
use Rattle.std.proofs.Common.{sym, ap, ◌∙◌}
use Rattle.slices.specs.Logic.{absurd_numbers}
use Rattle.slices.specs.Places.{part_at}
use Rattle.slices.specs.declared.Place.{Place}
use Rattle.refusals.specs.Answers.{granted}
use Rattle.pack.specs.declared.Entry.{Entry}
use Rattle.pack.specs.Reading.{Reading, whole, reading}
use Rattle.pack.specs.Acceptance.{entry_of}
use Rattle.records.specs.Record.{Record, there, record_at}
use Rattle.records.specs.Answers as told
use Rattle.records.specs.declared.Record as declared-record
use Rattle.records.specs.declared.Placed.{Placed}
use Rattle.records.specs.declared.PlaceFault.{PlaceFault}
use Rattle.records_model.specs.Record.{record_in}
use Rattle.writer.specs.Writing.{Item, tag_of, value_of}
use Rattle.writer_laws.specs.Meaning.{held_of}
use Rattle.writer_laws.specs.Calls.{stopped, write_all, record_for}
use Rattle.writer_laws.specs.ReadBack.{Means, AllMean, next, ReadsBack}
use Rattle.writer_laws.specs.Added.{Extends, Tells, IsAdded}

-- ---- what was written

module _ (limit : ℕ) (s : List ℕ) (item : Item) (e : Entry) where
  pub tags_differ : (tag : ℕ) → (tag ≡ tag_of item → ⊥) → Means limit s item (record { start = e.start; tag = tag; length = e.length; hash = e.hash }) → ⊥
  tags_differ tag d x = d x.tag

  -- the record r with this value stands there
  module _ (value : List ℕ) (r : Record) (is : record_at limit s e.start ≡ there value r) where
    pub values_differ : (value ≡ value_of item → ⊥) → Means limit s item e → ⊥
    values_differ d x = let same = sym is ∙ x.there_is in d (cc)

    pub meanings_differ : (record_in value (granted r) ≡ held_of item → ⊥) → Means limit s item e → ⊥
    meanings_differ d x =
        let same = sym is ∙ x.there_is in
        let v : value ≡ value_of item = cc in
        let f : r ≡ x.found = cc in
        d (rw (v, f) x.holds)

pub first_item_differs : (limit : ℕ) (s : List ℕ) (item : Item) (e : Entry) (items : List Item) (es : List Entry) → (Means limit s item e → ⊥)
    → AllMean limit s (item ∷ items) (e ∷ es) → ⊥
first_item_differs limit s item e items es d (next x more) = d x

module _ (limit : ℕ) (items : List Item) (buf : List ℕ) where
  pub call_is_refused : (n : ℕ) → write_all limit items 0 buf ≡ stopped n → ReadsBack limit items buf → ⊥
  call_is_refused n is x = let e = sym is ∙ x.written in absurd_numbers (cc)

-- ---- a record added

module _ (s : List ℕ) (item : Item) where
  pub no_record_is_told : (p : Result Placed PlaceFault) → ((found : declared-record.Record) (value : Place) → p ≡ Ok (record { «record» = found; value = value }) → ⊥)
      → Tells s item p → ⊥
  no_record_is_told p d x = d x.found x.value x.is

  module _ (found : declared-record.Record) (value : Place) (x : Tells s item (Ok (record { «record» = found; value = value }))) where
    same_place : ◌≡◌ {A = Placed} (record { «record» = found; value = value }) (record { «record» = x.found; value = x.value })
    same_place = let is = x.is in cc

    pub told_values_differ : (part_at s value ≡ value_of item → ⊥) → ⊥
    told_values_differ d = d (rw (ap (λ (p : Placed). p.value) same_place) x.value_is)

    pub told_meanings_differ : (record_in s (granted (told.record_in s found)) ≡ held_of item → ⊥) → ⊥
    told_meanings_differ d = d (rw (ap (λ (p : Placed). p.«record») same_place) x.holds)

module _ (limit : ℕ) (before : List ℕ) (item : Item) (extended : List ℕ) (x : Extends limit before item extended) where
  pub extended_is_refused : ((reading limit extended).ending ≡ whole → ⊥) → ⊥
  extended_is_refused d = d (ap (λ (y : Reading). y.ending) x.reads)

  pub other_entries : ((reading limit extended).entries ≡ (reading limit before).entries ++ (entry_of (length before) (record_for item) ∷ []) → ⊥) → ⊥
  other_entries d = d (ap (λ (y : Reading). y.entries) x.reads)

  pub records_before_differ : (e : Entry) → Memᴰ e (reading limit before).entries
      → (record_at limit extended e.start ≡ record_at limit before e.start → ⊥) → ⊥
  records_before_differ e m d = d (x.same e m)

module _ (before front : List ℕ) (p : Result Placed PlaceFault) where
  pub nothing_is_asked : IsAdded None before front p → ⊥
  nothing_is_asked x = let e = x.is_asked_lem in absurd_numbers (cc)
