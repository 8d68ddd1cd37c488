-- The definitions of the readings, from the answers that their steps gave.
use Prim.Native.Nat.{ℕ, ◌+◌, ◌-◌, ◌≤◌, ◌<◌}
use mathlib.Core.Bool.{true, false, not, ◌||◌}
use mathlib.Core.List.{List}
use Rattle.std.specs.Prelude.{Option, None, Some, Result, Ok, Err}
use mathlib.Core.Path.{◌≡◌, refl, sym, ap, ◌∙◌}
use native.Mathlib.Omega.{arith}
use borrow.Author.Tests.{eq-eqb, ne_eqb, le-leb, lt-leb, le-ltb, lt-ltb}
use lib.Dec.{eqb}
use lib.ListN.{length, take, drop, length-take, length-drop}
use lib.Seq.{drop-drop}
use Rattle.slices.specs.Places.{part_at, shifted_part}
use Rattle.slices.specs.declared.Place.{Place}
use Rattle.refusals.specs.Sheet.{lowest}
use Rattle.refusals.specs.Answers.{Answer, refused, granted, unless}
use Rattle.tlv.specs.Found.{Found, found, step}
use Rattle.tlv.specs.Stands.{step_stands}
use Rattle.tlv.specs.declared.RecordHeader.{RecordHeader}
use Rattle.msgpack.specs.Items.{depth_allowed}
use Rattle.msgpack.specs.PassingLaws.{bounded}
use Rattle.value.specs.Header.{Telling, telling_of}
use Rattle.value.specs.Reading.{reading}
use Rattle.value.specs.ReadingLaws.{is_told, parts_inside}
use Rattle.value.specs.declared.Told.{Told}
use Rattle.primary.specs.declared.Texts.{Texts}
use Rattle.pack_list.specs.Lists.{pack_list}
use Rattle.pack_list.specs.Answers.{list_in}
use Rattle.pack_list.specs.Answers as list
use Rattle.pack_list.specs.declared.Fault.{Fault as ListFault}
use Rattle.pack_list.specs.declared.Fault.TheVariants as list-fault
use Rattle.pack_list.specs.declared.PackList as listed
use Rattle.records.specs.Record.{is_known, Contents, of_pack_list, contents, Record, told_rows, primary_in, with_told, read_record, alone, refused_at, at_place, by_step, record_at, told_from, answer_from, there_from}
use Rattle.records.specs.Answers.{number_of, of_list_fault, contents_in, part_of, record_in, shift_texts, shift_kind, ContentsInside, PartInside, place_of_part, ToldInside, PlacesInside, IsValue}
use Rattle.records.specs.declared.Kind.{Kind}
use Rattle.records.specs.declared.Kind.TheVariants as kind-answer
use Rattle.records.specs.declared.Fault.{Fault}
use Rattle.records.specs.declared.Record as declared-record
use Rattle.records.proofs.Places.{contents_shifted, contents_within}

-- ---- a value at a place of the pack

module _ (limit : ℕ) (s : List ℕ) (v : Place) (t : Told) (e : reading limit (part_at s v) ≡ granted t) where
  -- no value that is told is empty, so it starts inside the pack
  pub told_inside : ToldInside s (told_from v.start t)
  told_inside =
      let i = parts_inside limit (part_at s v) t e in
      let first = bounded depth_allowed (part_at s v) _ (is_told limit (part_at s v) t e).first_item in
      let long = length-take v.len (drop v.start s) in
      let rest = length-drop v.start s in
      record {
        primary = record { end = omega (arith, i.primary_first, i.secondary_last, first.some_byte) };
        secondary = record { end = omega (arith, i.secondary_last, first.some_byte) };
      }

  primary_there : primary_in s (told_from v.start t) ≡ primary_in (part_at s v) t
  primary_there =
      let i = parts_inside limit (part_at s v) t e in
      shifted_part s v (place_of_part t.primary) (record { end = omega (arith, i.primary_first, i.secondary_last) })

  -- a: what is answered to u, which is told of the pack
  pub value_read : (tag : ℕ) (u : Told) → u ≡ told_from v.start t → (a : Answer Record)
      → a ≡ unless (lowest (told_rows tag (telling_of u))) (with_told u (contents tag (primary_in s u))) → a ≡ answer_from v.start (read_record limit tag (part_at s v))
  unfolding read_record told_rows
  value_read tag u is a f = f ∙ rw (is, e, primary_there) (by (lowest (told_rows tag (telling_of t))) (contents tag (primary_in (part_at s v) t)))
    where
      by : (o : Option ℕ) (c : Answer Contents) → unless o (with_told (told_from v.start t) c) ≡ answer_from v.start (unless o (with_told t c))
      by None (granted c) = refl
      by None (refused n) = refl
      by (Some n) c = refl

-- ---- the primary part of a pack list, whose entries the part tells

pub list_read : (part : List ℕ) (l : listed.PackList) → granted (list_in part l) ≡ pack_list part
    → granted (contents_in part part l.identifier kind-answer.PackList) ≡ of_pack_list (pack_list part)
list_read part l e = rw (← e)

pub list_fault_number : (f : ListFault) → number_of (of_list_fault f) ≡ list.number_of f
list_fault_number (list-fault.Part f) = refl
list_fault_number list-fault.Unfilled = refl

-- ---- the primary part, as it is lent

module _ (s : List ℕ) (told : Told) where
  abbrev lent : List ℕ
  lent = take (told.primary.start + told.primary.len - told.primary.start) (drop told.primary.start s)

  lent_is : lent ≡ primary_in s told
  lent_is = let e : told.primary.start + told.primary.len - told.primary.start ≡ told.primary.len = omega arith in ap (λ n. take n (drop told.primary.start s)) e

  module _ (tag : ℕ) (r : Result (Texts × Kind) Fault) (answer : (part_of lent r ≡ contents tag lent) × PartInside lent r) where
    answered : part_of (primary_in s told) r ≡ contents tag (primary_in s told)
    answered = rw lent_is at answer.0

    pub part_refused : (f : Fault) → r ≡ Err f → refused (number_of f) ≡ with_told told (contents tag (primary_in s told))
    part_refused f e = ap (with_told told) (sym (ap (part_of (primary_in s told)) e) ∙ answered)

    module _ (t : Texts) (k : Kind) (e : r ≡ Ok (t, k)) where
      abbrev shifted : declared-record.Record
      shifted = record { told = told; identifier = shift_texts told.primary.start t; kind = shift_kind told.primary.start k }

      inside : ContentsInside (primary_in s told) t k
      inside = rw lent_is at (answer.1.contents t k e)

      pub record_read : granted (record_in s shifted) ≡ with_told told (contents tag (primary_in s told))
      record_read = ap (λ c. with_told told (granted c)) (contents_shifted s (place_of_part told.primary) t k inside)
          ∙ ap (with_told told) (sym (ap (part_of (primary_in s told)) e) ∙ answered)

      pub record_places : ToldInside s told → PlacesInside s shifted
      record_places i = record { told = i; contents = contents_within s (place_of_part told.primary) t k inside }

-- ---- refusals 13 to 15

module _ {A : Type 0} (tag : ℕ) (t : Telling) (next : Answer A) where
  abbrev tested : Answer A
  tested = unless (lowest (told_rows tag t)) next

  pub unknown_tag_lem : is_known tag ≡ false → refused 13 ≡ tested
  unfolding told_rows lowest
  unknown_tag_lem k = rw k

  module _ (k : is_known tag ≡ true) where
    pub later_version : (t.version ≡ 0 → ⊥) → refused 14 ≡ tested
    unfolding told_rows lowest
    later_version v = rw (k, ne_eqb t.version 0 v)

    module _ (v : t.version ≡ 0) where
      pub encoded : (t.primary.encrypted || not (eqb t.primary.compression 0)) ≡ true → refused 15 ≡ tested
      unfolding told_rows lowest
      encoded e = rw (k, eq-eqb t.version 0 v, e)

      pub untouched : (t.primary.encrypted || not (eqb t.primary.compression 0)) ≡ false → next ≡ tested
      unfolding told_rows lowest
      untouched e = rw (k, eq-eqb t.version 0 v, e)

-- ---- the record at a place

module _ (limit : ℕ) (s : List ℕ) (at by : ℕ) where
  pub outside : length s ≤ at → alone 20 ≡ there_from by (record_at limit s at)
  unfolding record_at
  outside h = rw (le-leb (length s) at h)

  module _ (h : at < length s) where
    pub too_long : limit < length s → refused_at 1 0 ≡ there_from by (record_at limit s at)
    unfolding record_at
    too_long l = rw (lt-leb (length s) at h, lt-ltb limit (length s) l)

    pub stepped : length s ≤ limit → (f : Found) → step (drop at s) ≡ f → there_from by (by_step limit s at f) ≡ there_from by (record_at limit s at)
    unfolding record_at
    stepped l f e = rw (lt-leb (length s) at h, le-ltb limit (length s) l, e)

-- behind its header stands its value
module _ (s : List ℕ) (at : ℕ) (h : RecordHeader) (e : step (drop at s) ≡ found h) where
  abbrev value : Place
  value = record { start = at + 32; len = h.length }

  pub is_value : IsValue s at value
  is_value =
      let i = step_stands (drop at s) h e in
      record { is = rw i.header; inside = record { end = omega (arith, i.long, length-drop at s) } }

  pub found_there : (limit : ℕ) → at < length s → length s ≤ limit → (a : Answer Record) → a ≡ answer_from (at + 32) (read_record limit h.tag (part_at s value))
      → at_place (part_at s value) a ≡ there_from (at + 32) (record_at limit s at)
  found_there limit below within a f =
      ap (at_place (part_at s value)) f
      ∙ from (read_record limit h.tag (part_at s value))
      ∙ rw drop-drop at (stepped limit s at (at + 32) below within (found h) e)
    where
      from : (b : Answer Record) → at_place (part_at s value) (answer_from (at + 32) b) ≡ there_from (at + 32) (at_place (part_at s value) b)
      from (granted r) = refl
      from (refused n) = refl
