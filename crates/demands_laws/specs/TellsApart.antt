-- The relations of these theorems tell things apart: what differs in one respect alone is not related.
use Rattle.std.specs.Prelude.{ℕ, suc, List, ◌∷◌, ◌≡◌, refl, length}
use Rattle.std.specs.Prelude.{Option, None}
use Rattle.std.proofs.Common.{sym, ap, ◌∙◌}
use Rattle.slices.specs.Logic.{absurd_numbers}
use Rattle.pack.specs.declared.Entry.{Entry}
use Rattle.pack.specs.Reading.{whole, reading}
use Rattle.msgpack.specs.Views.{Each, no_more, and_each}
use Rattle.records.specs.Record.{record_at}
use Rattle.records_model.specs.Alike.{AlikeRecordValues}
use Rattle.records_model.specs.AnswersAlike.{AnswersAlike, NumbersAlike, SameRecord}
use Rattle.writer.specs.Writing.{Item}
use Rattle.current_version.specs.Current as current
use Rattle.current_version.specs.Current.{Version, Answer, refused_at, lookup}
use Rattle.current_version.specs.TellsApart as answers
use Rattle.demands_laws.specs.Deletion.{deleted_by, TakesOut}
use Rattle.demands_laws.specs.Sites.{AlikeEntries, AlikePacks, held_at, AllAnswersAlike, next_entry_lem, SameIndex, AlikeLookups}

-- ---- a deletion

module _ (limit : ℕ) (asked : Option Item) (before bucket object : List ℕ) (answer : Answer) where
  abbrev pub Taken : Type 0
  Taken = TakesOut limit asked before bucket object answer

  pub nothing_is_deleted : deleted_by asked ≡ None → Taken → ⊥
  nothing_is_deleted is x = let e = sym is ∙ x.is_deleted_lem in absurd_numbers (cc)

-- ---- packs of two sites

module _ (s t : List ℕ) (d e : Entry) (x : AlikeEntries s t d e) where
  pub tags_are_unlike : (d.tag ≡ e.tag → ⊥) → ⊥
  tags_are_unlike f = f x.tag

  pub values_are_unlike : (AlikeRecordValues (current.value_of s d) (current.value_of t e) → ⊥) → ⊥
  values_are_unlike f = f x.value

module _ (limit : ℕ) (s t : List ℕ) (x : AlikePacks limit s t) where
  pub first_is_refused : ((reading limit s).ending ≡ whole → ⊥) → ⊥
  first_is_refused d = d x.first_accepted

  pub second_is_refused : ((reading limit t).ending ≡ whole → ⊥) → ⊥
  second_is_refused d = d x.second_accepted

  pub counts_differ : (length (reading limit s).entries ≡ length (reading limit t).entries → ⊥) → ⊥
  counts_differ d = d (each x.entries)
    where
      each : {ds es : List Entry} → Each (AlikeEntries s t) ds es → length ds ≡ length es
      each no_more = refl
      each (and_each y ys) = ap suc (each ys)

  pub first_records_are_unlike : (d e : Entry) (ds es : List Entry) → (reading limit s).entries ≡ d ∷ ds → (reading limit t).entries ≡ e ∷ es
      → (AlikeEntries s t d e → ⊥) → ⊥
  first_records_are_unlike d e ds es p q f = first (rw (p, q) at x.entries)
    where
      first : Each (AlikeEntries s t) (d ∷ ds) (e ∷ es) → ⊥
      first (and_each y ys) = f y

pub first_answers_are_unlike : (limit : ℕ) (s t : List ℕ) (d e : Entry) (ds es : List Entry)
    → (AnswersAlike SameRecord (held_at (record_at limit s d.start)) (held_at (record_at limit t e.start)) → ⊥)
    → AllAnswersAlike limit s t (d ∷ ds) (e ∷ es) → ⊥
first_answers_are_unlike limit s t d e ds es f (next_entry_lem y ys) = f y

-- in one pack two places are of two indexes
pub places_differ : (es : List Entry) (p q : ℕ) → (p ≡ q → ⊥) → SameIndex es es p q → ⊥
places_differ es p q d x = let e = sym x.first_start ∙ x.second_start in d (cc)

module _ (limit : ℕ) (s t : List ℕ) where
  abbrev AtOneIndex : ℕ → ℕ → Type 0
  AtOneIndex = SameIndex (reading limit s).entries (reading limit t).entries

  module _ (v w : Version) (x : AlikeLookups limit s t (current.found v) (current.found w)) where
    pub found_with_values_unlike : (AlikeRecordValues v.value w.value → ⊥) → ⊥
    found_with_values_unlike d = answers.values_are_unlike NumbersAlike AtOneIndex AlikeRecordValues v w d x

    pub found_at_another_index : (AtOneIndex v.start w.start → ⊥) → ⊥
    found_at_another_index d = answers.found_elsewhere NumbersAlike AtOneIndex AlikeRecordValues v w d x

  module _ (n m p q : ℕ) (x : AlikeLookups limit s t (refused_at n p) (refused_at m q)) where
    pub refused_with_another_number : (NumbersAlike n m → ⊥) → ⊥
    refused_with_another_number d = answers.numbers_are_unlike NumbersAlike AtOneIndex AlikeRecordValues n m p q d x

    pub refused_at_another_index : (AtOneIndex p q → ⊥) → ⊥
    refused_at_another_index d = answers.refused_elsewhere NumbersAlike AtOneIndex AlikeRecordValues n m p q d x
