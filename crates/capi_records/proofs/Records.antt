-- The answer of `vof_record`, and lent memory at exit, from what stands at the place: the outcome is the same for the words and for the text, so that nothing is told of one without the other.
use Prim.Native.Nat.{ℕ, ◌+◌, ◌%◌, ◌^◌, ◌≤◌, ◌<◌}
use mathlib.Core.Bool.{Bool, true, false}
use mathlib.Core.List.{List}
use Rattle.std.specs.Prelude.{Some, Result, Ok, Err}
use mathlib.Core.Path.{◌≡◌, refl, sym, ap, subst, ◌∙◌}
use native.Mathlib.Omega.{arith}
use borrow.Author.Tests.{le-leb, lt-leb, leb-true, leb-false}
use lib.Dec.{leb}
use lib.ListN.{length, get_or}
use Rattle.slices.specs.Overwriting.{overwritten, written_bytes, written_within}
use Rattle.slices.specs.Logic.{absurd_numbers}
use Rattle.slices.specs.Places.{part_at, Inside, Within, length_part, within_inside}
use Rattle.slices.specs.declared.Place.{Place}
use Rattle.refusals.specs.Limit.{pack_limit}
use Rattle.refusals.specs.declared.Unwritten.{Unwritten}
use Rattle.identifier.specs.Composite.{composite_text}
use Rattle.identifier.specs.Identity.{Identity, is_valid}
use Rattle.held_identifier.specs.Writing.{wrote, refused, outcome_of, outcome as written, left, write_short, write_done}
use Rattle.value.specs.declared.Told.{Told}
use Rattle.primary.specs.Answers.{texts_in}
use Rattle.records.specs.Record.{version_delete, Record, primary_in, AtPlace, there, refused_at, alone, record_at, told_from, record_from, there_from}
use Rattle.records.specs.Answers.{kind_in, contents_in, record_in, place_of, PlaceInside}
use Rattle.records.specs.declared.Kind as declared-kind
use Rattle.records.specs.declared.Kind.TheVariants.{Block, Version, VersionDelete, PackList}
use Rattle.records.specs.declared.Record as declared-record
use Rattle.records.specs.declared.Placed.{Placed}
use Rattle.records.specs.declared.PlaceFault.{PlaceFault}
use Rattle.words.specs.Words.{answer, answer_whole}
use Rattle.capi_records.specs.Record.{outcome, kind_words, record_words, TextAt, RecordHolds, kind_told, IsRecord}
use Rattle.capi_records.specs.declared.record.KindWords.{KindWords}
use Rattle.capi_records.proofs.Places.{record_valid, place_within}

-- ---- refusals, which tell no part

module _ (by n : ℕ) where
  refused_there : (place : ℕ) (a : AtPlace) → there_from by a ≡ refused_at n place → a ≡ refused_at n place
  refused_there place (there value r) e = absurd_numbers (cc)
  refused_there place (refused_at m p) e = e
  refused_there place (alone m) e = e

  alone_there : (a : AtPlace) → there_from by a ≡ alone n → a ≡ alone n
  alone_there (there value r) e = absurd_numbers (cc)
  alone_there (refused_at m p) e = e
  alone_there (alone m) e = e

module _ (pack : List ℕ) (at : ℕ) (words bytes : List ℕ) where
  refused_outcome : (n place : ℕ) → outcome pack at (length words) (length bytes) ≡ refused_at n place → RecordHolds pack at words bytes (answer n place) words bytes
  refused_outcome n place e =
      record { answers = rw e; words_told = rw e; text_told = rw e; delete_id_lem = rw e (record { text = λ value r id p q. absurd_numbers (cc) }) }

  alone_outcome : (n : ℕ) → outcome pack at (length words) (length bytes) ≡ alone n → RecordHolds pack at words bytes (answer n 0) words bytes
  alone_outcome n e =
      record { answers = rw e; words_told = rw e; text_told = rw e; delete_id_lem = rw e (record { text = λ value r id p q. absurd_numbers (cc) }) }

  pub refused_holds : (n place : ℕ) → there_from (at + 32) (record_at pack_limit pack at) ≡ refused_at n place → n < 256 → RecordHolds pack at words bytes (answer n place % 2 ^ 64) words bytes
  unfolding outcome
  refused_holds n place e small =
      let is = refused_there (at + 32) n place (record_at pack_limit pack at) e in
      let within = place_within pack_limit pack at n place is in
      rw (answer_whole n place small (omega arith)) (refused_outcome n place (rw is))

  pub alone_holds : (n : ℕ) → there_from (at + 32) (record_at pack_limit pack at) ≡ alone n → n < 256 → RecordHolds pack at words bytes (answer n 0 % 2 ^ 64) words bytes
  unfolding outcome
  alone_holds n e small = rw (answer_whole n 0 small (omega arith)) (alone_outcome n (rw (alone_there (at + 32) n (record_at pack_limit pack at) e)))

  module _ (value : List ℕ) (r : Record) (is : record_at pack_limit pack at ≡ there value r) where
    pub few_words : length words < 16 → RecordHolds pack at words bytes (answer 19 0) words bytes
    unfolding outcome
    few_words h = alone_outcome 19 (rw (is, lt-leb 16 (length words) h))

    pub few_bytes : 16 ≤ length words → length bytes < length (composite_text r.contents.identifier) → RecordHolds pack at words bytes (answer 19 0) words bytes
    unfolding outcome
    few_bytes h l = alone_outcome 19 (rw (is, le-leb 16 (length words) h, lt-leb _ _ l))

-- ---- the text of an identifier that keeps the rules, written at the front

pub record TextWritten (i : Identity) (bytes : List ℕ) (n : ℕ) (after : List ℕ) : Type 0 where
  pub room : length (composite_text i) ≤ length bytes
  pub size : n ≡ length (composite_text i)
  pub is : after ≡ overwritten bytes 0 (composite_text i)

pub record TextShort (i : Identity) (bytes after : List ℕ) : Type 0 where
  pub room : length bytes < length (composite_text i)
  pub is : after ≡ bytes

module _ (i : Identity) (bytes : List ℕ) (valid : is_valid i ≡ true) (w : Result ℕ Unwritten) (told : outcome_of w ≡ written (Some i) bytes 0) (after : List ℕ) (holds : after ≡ left (Some i) bytes 0) where
  pub text_written : (n : ℕ) → w ≡ Ok n → TextWritten i bytes n after
  text_written n is = by (leb (length (composite_text i)) (length bytes)) refl
    where
      by : (t : Bool) → leb (length (composite_text i)) (length bytes) ≡ t → TextWritten i bytes n after
      by true e =
          let d = write_done i bytes 0 valid (omega (arith, leb-true (length (composite_text i)) (length bytes) e)) in
          let same : wrote n ≡ wrote (length (composite_text i)) = sym (ap outcome_of is) ∙ told ∙ d.0 in
          record { room = leb-true _ _ e; size = cc; is = holds ∙ d.1 }
      by false e =
          let d = write_short i bytes 0 valid (omega (arith, leb-false (length (composite_text i)) (length bytes) e)) in
          let same : wrote n ≡ refused 19 = sym (ap outcome_of is) ∙ told ∙ d.0 in
          absurd_numbers (cc)

  pub text_short : ((n : ℕ) → w ≡ Ok n → ⊥) → TextShort i bytes after
  text_short other = by (leb (length (composite_text i)) (length bytes)) refl
    where
      never : (v : Result ℕ Unwritten) (n : ℕ) → ((m : ℕ) → v ≡ Ok m → ⊥) → outcome_of v ≡ wrote n → ⊥
      never (Ok m) n k e = k m refl
      never (Err f) n k e = absurd_numbers (cc)

      by : (t : Bool) → leb (length (composite_text i)) (length bytes) ≡ t → TextShort i bytes after
      by true e =
          let d = write_done i bytes 0 valid (omega (arith, leb-true (length (composite_text i)) (length bytes) e)) in
          absurd (never w _ other (told ∙ d.0))
      by false e =
          let d = write_short i bytes 0 valid (omega (arith, leb-false (length (composite_text i)) (length bytes) e)) in
          record { room = leb-false _ _ e; is = holds ∙ d.1 }

-- ---- the words of a kind, whose delete identifier lies within a place of the pack

module _ (pack : List ℕ) (p : Place) (inside : Inside pack p) where
  words_told : (k : declared-kind.Kind) → ((id : Place) → k ≡ VersionDelete id → Within p id)
      → kind_words (kind_told k).start (kind_in pack (part_at pack p) k) ≡ kind_told k
  words_told Block w = refl
  words_told (Version deleted) w = refl
  words_told (VersionDelete id) w = rw (length_part pack id (within_inside pack inside (w id refl)))
  words_told PackList w = refl

  delete_text_lem : (k : declared-kind.Kind) → ((id : Place) → k ≡ VersionDelete id → Within p id) → (text : List ℕ)
      → kind_in pack (part_at pack p) k ≡ version_delete text
      → TextAt pack text p.start (kind_told k).start (p.start + p.len)
  delete_text_lem Block w text e = absurd_numbers (cc)
  delete_text_lem (Version deleted) w text e = absurd_numbers (cc)
  delete_text_lem (VersionDelete id) w text e =
      let is : part_at pack id ≡ text = cc in
      let within = w id refl in
      let long = length_part pack id (within_inside pack inside within) in
      subst (λ u. TextAt pack u p.start id.start (p.start + p.len)) is (record { after = within.after; inside = omega arith; is = rw long })
  delete_text_lem PackList w text e = absurd_numbers (cc)

-- ---- a record that was read at a place

pub is_record : (pack : List ℕ) (at : ℕ) (a : Result Placed PlaceFault) → place_of pack a ≡ there_from (at + 32) (record_at pack_limit pack at) → PlaceInside pack at a
    → (p : Placed) → a ≡ Ok p → IsRecord pack at p.value p.«record»
is_record pack at a told inside p is =
    record { is = sym (ap (place_of pack) is) ∙ told; value = inside.value p is; places = inside.places p is }

module _ (pack : List ℕ) (at : ℕ) (value : Place) (r : declared-record.Record) (h : IsRecord pack at value r) where
  abbrev read : Told → Record
  read t = record { told = t; contents = contents_in pack (primary_in pack r.told) r.identifier r.kind }

  -- what the value tells by itself
  pub record Here : Type 0 where
    pub told : Told
    pub is : record_at pack_limit pack at ≡ there (part_at pack value) (read told)
    pub from : r.told ≡ told_from value.start told

  start_is : value.start ≡ at + 32
  start_is = ap (λ (p : Place). p.start) h.value.is

  pub here : Here
  here = by (record_at pack_limit pack at) refl h.is
    where
      by : (a : AtPlace) → record_at pack_limit pack at ≡ a → there (part_at pack value) (record_in pack r) ≡ there_from (at + 32) a → Here
      by (there v x) e f =
          let same_value : part_at pack value ≡ v = cc in
          let same : record_in pack r ≡ record_from (at + 32) x = cc in
          let same_contents : contents_in pack (primary_in pack r.told) r.identifier r.kind ≡ x.contents = ap (λ (y : Record). y.contents) same in
          record { told = x.told; is = rw (same_value, same_contents) e; from = rw start_is (ap (λ (y : Record). y.told) same) }
      by (refused_at n place) e f = absurd_numbers (cc)
      by (alone n) e f = absurd_numbers (cc)

  pub rules : is_valid (texts_in pack r.identifier) ≡ true
  rules = record_valid pack_limit pack at _ _ here.is

  -- ---- the words

  word_14 : (words : List ℕ) (t : Told) (k : KindWords) (n : ℕ) → get_or (overwritten words 0 (record_words (at + 32) value.len t k n)) 14 0 ≡ k.start
  unfolding overwritten record_words
  word_14 words t k n = refl

  all_stored : (words : List ℕ) (t : Told) (k : KindWords) (n : ℕ) → 16 ≤ length words
      → written_bytes words 0 (record_words (at + 32) value.len t k n) ≡ overwritten words 0 (record_words (at + 32) value.len t k n)
  unfolding record_words
  all_stored words t k n enough = written_within words 0 _ enough

  pub told_holds : (words bytes : List ℕ) (n : ℕ) → 16 ≤ length words
      → (list : List ℕ) → list ≡ record_words value.start value.len here.told (kind_told r.kind) n
      → (told id : List ℕ) → told ≡ written_bytes words 0 list → TextWritten (texts_in pack r.identifier) bytes n id → RecordHolds pack at words bytes (answer 0 0) told id
  unfolding outcome
  told_holds words bytes n enough list are told id put w =
      let t = here.told in
      let k = kind_told r.kind in
      let stored : told ≡ overwritten words 0 (record_words (at + 32) value.len t k n)
      = put ∙ ap (written_bytes words 0) (are ∙ ap (λ start. record_words start value.len t k n) start_is) ∙ all_stored words t k n enough in
      let is : outcome pack at (length words) (length bytes) ≡ there (part_at pack value) (read t)
      = rw (here.is, le-leb 16 (length words) enough, le-leb (length (composite_text (texts_in pack r.identifier))) (length bytes) w.room) in
      let place : get_or told 14 0 ≡ k.start = ap (λ l. get_or l 14 0) stored ∙ word_14 words t k n in
      let kind-is = words_told pack _ h.places.told.primary r.kind h.places.contents.delete_id_lem in
      record {
        answers = rw is;
        words_told = rw (is, length_part pack value h.value.inside, place, kind-is, ← w.size) stored;
        text_told = rw is w.is;
        delete_id_lem = rw (is, place) (record { text = by_kind });
      }
    where
      by_kind : (v : List ℕ) (x : Record) (u : List ℕ) → there (part_at pack value) (read here.told) ≡ there v x → x.contents.kind ≡ version_delete u
          → TextAt pack u (at + 32 + x.told.primary.start) (kind_told r.kind).start (at + 32 + x.told.primary.start + x.told.primary.len)
      by_kind v x u p q =
          let same : read here.told ≡ x = cc in
          let from : r.told ≡ told_from (at + 32) here.told = subst (λ n. r.told ≡ told_from n here.told) start_is here.from in
          rw (← same) (rw from at (delete_text_lem pack _ h.places.told.primary r.kind h.places.contents.delete_id_lem u (ap (λ (y : Record). y.contents.kind) same ∙ q)))
