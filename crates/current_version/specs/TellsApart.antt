-- The relations that demand 3, and the lookups of two sites, are said with tell things apart: what differs in one respect alone is not related.
use Rattle.std.specs.Prelude.{ℕ, ◌+◌, Bool, true, false, ◌≡◌, refl, length, get_or}
use mathlib.Core.List.{List, [], ◌∷◌, Memᴰ}
use Rattle.std.proofs.Common.{sym, ap, ◌∙◌, arith}
use Rattle.slices.specs.Bytes.{same_bytes, same_bytes_refl}
use Rattle.slices.specs.Logic.{absurd_numbers, clash}
use Rattle.refusals.specs.Sheet.{lowest}
use Rattle.refusals.specs.Limit.{pack_limit}
use Rattle.endian.specs.Numbers.{little, big, little_bytes, big_bytes}
use Rattle.endian.specs.Places.{holds, number_at}
use Rattle.xxh64.specs.Xxh64.{add, mul, rotl, fold_high, lane, taken, round, merge_accumulator, converge, stripes, consume8, consume4, consume1, consume, avalanche, xxh64}
use Rattle.tlv.specs.Layout.{Record, bytes_of, fields, head, layout, layouts, field}
use Rattle.tlv.specs.Found.{header_rows, value_rows, header_of, step}
use Rattle.pack.specs.Reading.{Reading, whole, refused, records, reading}
use Rattle.pack.specs.declared.Entry.{Entry}
use Rattle.pack.specs.Acceptance.{entry_of, entries_of}
use Rattle.msgpack.specs.Formats.{formats, format_of}
use Rattle.msgpack.specs.Items.{head_of, pass_items, pass_head, pass_item}
use Rattle.msgpack.specs.Readers.{is_whole, content_at, integer_of, read_integer, count_at}
use Rattle.msgpack.specs.Lookup.{key_at, last_where, last_value}
use Rattle.msgpack.specs.Pairs.{times_where, times_of}
use Rattle.msgpack.specs.Views.{repeats, text_at, items_from}
use Rattle.identifier.specs.Texts.{member, all}
use Rattle.identifier.specs.Ulid.{alphabet, is_character, is_ulid}
use Rattle.identifier.specs.Identity.{Identity, sized, is_bucket, is_object, is_valid, identity_of}
use Rattle.value.specs.Fields.{natural_under, bytes_under, is_there}
use Rattle.value.specs.Header.{with_map, with_list, header}
use Rattle.value.specs.Header as value-header
use Rattle.value.specs.Reading as value
use Rattle.primary.specs.Parts as primary
use Rattle.primary.specs.Parts.{fills, text_under, texts_under, deleted_under}
use Rattle.records.specs.Record.{version_tag, is_known, contents, told_rows, read_record, can_be_read}
use Rattle.current_version.specs.Current.{version, is_looked_at, role, value_of, Version, Answer, nothing, found, refused_at, alone, is_name}
use Rattle.current_version.specs.Packs.{value_standing, rest_standing, ReadablePack, SameAnswer}
use Rattle.current_version.specs.Alike.{AlikeAnswers, both_nothing, both_found, both_refused, both_alone}
use Rattle.current_version.specs.Order.{how_often}
use Rattle.current_version.specs.Bytes.{times_in, SameRecordsIn, OneValueIn, times_standing}
use Rattle.current_version.specs.Examples.{herd, scan, one, two, plain, another, vr, told}

-- ---- answers

module _ (v : Version) where
  abbrev but : Identity → Bool → List ℕ → Answer
  but i f value = found (record { identifier = i; delete_flag = f; value = value; start = v.start })

  pub identifiers_differ : (i : Identity) → (v.identifier ≡ i → ⊥) → SameAnswer (found v) (but i v.delete_flag v.value) → ⊥
  identifiers_differ i d same = d same.identifier

  pub delete_flags_differ : (f : Bool) → (v.delete_flag ≡ f → ⊥) → SameAnswer (found v) (but v.identifier f v.value) → ⊥
  delete_flags_differ f d same = d same.delete_flag

  pub values_differ : (value : List ℕ) → (v.value ≡ value → ⊥) → SameAnswer (found v) (but v.identifier v.delete_flag value) → ⊥
  values_differ value d same = d same.value

  pub found_is_not_nothing : (SameAnswer (found v) nothing → ⊥) × (SameAnswer nothing (found v) → ⊥)
  found_is_not_nothing = (λ same. same, λ same. same)

-- a refusal is the same as no answer, not even as itself
pub refusals_are_no_answers : (a : Answer) (n place : ℕ) → (SameAnswer (refused_at n place) a → ⊥) × (SameAnswer (alone n) a → ⊥)
    × (SameAnswer a (refused_at n place) → ⊥) × (SameAnswer a (alone n) → ⊥)
refusals_are_no_answers nothing n place = (λ s. s, λ s. s, λ s. s, λ s. s)
refusals_are_no_answers (found v) n place = (λ s. s, λ s. s, λ s. s, λ s. s)
refusals_are_no_answers (refused_at m p) n place = (λ s. s, λ s. s, λ s. s, λ s. s)
refusals_are_no_answers (alone m) n place = (λ s. s, λ s. s, λ s. s, λ s. s)

-- ---- answers alike: what `same-outline` does not show

abbrev has_place : Answer → Bool
has_place nothing = false
has_place (found v) = false
has_place (refused_at n place) = true
has_place (alone n) = false

module _ (Number Place : ℕ → ℕ → Type 0) (Bytes : List ℕ → List ℕ → Type 0) where
  abbrev AreAlike : Answer → Answer → Type 0
  AreAlike = AlikeAnswers Number Place Bytes

  pub values_are_unlike : (v w : Version) → (Bytes v.value w.value → ⊥) → AreAlike (found v) (found w) → ⊥
  values_are_unlike v w d (both_found x) = d x.value

  pub found_elsewhere : (v w : Version) → (Place v.start w.start → ⊥) → AreAlike (found v) (found w) → ⊥
  found_elsewhere v w d (both_found x) = d x.start

  pub numbers_alone_differ : (n m : ℕ) → (n ≡ m → ⊥) → AreAlike (alone n) (alone m) → ⊥
  numbers_alone_differ n m d (both_alone k) = d refl

  same_places : {a b : Answer} → AreAlike a b → has_place a ≡ has_place b
  same_places both_nothing = refl
  same_places (both_found x) = refl
  same_places (both_refused x y) = refl
  same_places (both_alone n) = refl

  module _ (n m p q : ℕ) where
    pub numbers_are_unlike : (Number n m → ⊥) → AreAlike (refused_at n p) (refused_at m q) → ⊥
    numbers_are_unlike d (both_refused x y) = d x

    pub refused_elsewhere : (Place p q → ⊥) → AreAlike (refused_at n p) (refused_at m q) → ⊥
    refused_elsewhere d (both_refused x y) = d y

    pub one_place_only : (AreAlike (refused_at n p) (alone m) → ⊥) × (AreAlike (alone n) (refused_at m q) → ⊥)
    one_place_only = (λ x. let e = same_places x in absurd_numbers (cc), λ x. let e = same_places x in absurd_numbers (cc))

-- ---- packs

-- two versions with one identifier, and an unknown key in one of them, in either order
abbrev pub plain_first : List Record
plain_first = vr (plain herd one) ∷ vr (another one) ∷ []

abbrev pub plain_last : List Record
plain_last = vr (another one) ∷ vr (plain herd one) ∷ []

-- two identifiers
abbrev pub one_first : List Record
one_first = vr (plain herd one) ∷ vr (plain herd two) ∷ []

abbrev pub two_first : List Record
two_first = vr (plain herd two) ∷ vr (plain herd one) ∷ []

abbrev pub identifier : ℕ → Identity
identifier x = (told x false [] 0).identifier

-- a `vr` that cannot be read
abbrev unread : Record
unread = vr []

abbrev pub reading_of : List Record → Reading
reading_of rs = record { entries = entries_of 0 rs; ending = whole }

pub record Computed : Type 0 where
  pub plain_first_lem : reading pack_limit (layouts plain_first) ≡ reading_of plain_first
  pub plain_last_lem : reading pack_limit (layouts plain_last) ≡ reading_of plain_last
  pub one_first_lem : reading pack_limit (layouts one_first) ≡ reading_of one_first
  pub two_first_lem : reading pack_limit (layouts two_first) ≡ reading_of two_first
  pub one_unread : reading pack_limit (layouts (unread ∷ [])) ≡ reading_of (unread ∷ [])
  pub two_unread : reading pack_limit (layouts (unread ∷ unread ∷ [])) ≡ reading_of (unread ∷ unread ∷ [])
  pub one_byte : reading pack_limit (0x00 ∷ []) ≡ record { entries = []; ending = refused 2 0 }
  pub plain_reads : can_be_read pack_limit version_tag (plain herd one) ≡ true
  pub another_reads : can_be_read pack_limit version_tag (another one) ≡ true
  pub two_reads : can_be_read pack_limit version_tag (plain herd two) ≡ true
  pub unread_is : can_be_read pack_limit version_tag [] ≡ false
  pub plain_is : role pack_limit version_tag (plain herd one) ≡ version (identifier one) false
  pub another_is : role pack_limit version_tag (another one) ≡ version (identifier one) false
  pub two_is : role pack_limit version_tag (plain herd two) ≡ version (identifier two) false
  pub last_byte_first : get_or (layouts one_first) 74 0 ≡ one
  pub last_byte_second : get_or (layouts two_first) 74 0 ≡ two
  pub name : is_name herd scan ≡ true

pub computed : Computed
unfolding layouts layout head fields bytes_of big_bytes little_bytes little big add mul rotl fold_high lane taken round
    merge_accumulator converge stripes consume8 consume4 consume1 consume avalanche xxh64 field header_rows value_rows
    lowest header_of step records reading entries_of pass_item pass_head pass_items head_of is_whole content_at integer_of
    read_integer count_at key_at same_bytes last_where last_value repeats times_of times_where items_from format_of formats
    number_at holds natural_under bytes_under is_there value-header.alone value-header.telling value-header.header_repeats
    with_map with_list header value.reading fills text_at text_under texts_under deleted_under primary.version is_ulid
    is_character alphabet is_bucket is_object is_valid identity_of sized member all is_known contents told_rows read_record
    can_be_read is_looked_at role is_name
computed = record {
  plain_first_lem = refl;
  plain_last_lem = refl;
  one_first_lem = refl;
  two_first_lem = refl;
  one_unread = refl;
  two_unread = refl;
  one_byte = refl;
  plain_reads = refl;
  another_reads = refl;
  two_reads = refl;
  unread_is = refl;
  plain_is = refl;
  another_is = refl;
  two_is = refl;
  last_byte_first = refl;
  last_byte_second = refl;
  name = refl;
}

-- nothing in it but one byte too few of a record
pub refused_is_not_readable : ReadablePack pack_limit (0x00 ∷ []) → ⊥
refused_is_not_readable a = let e = sym a.accepted ∙ ap (λ (r : Reading). r.ending) computed.one_byte in absurd_numbers (cc)

-- accepted, and its one record is a `vr` that cannot be read
pub unread_is_not_readable : ReadablePack pack_limit (layouts (unread ∷ [])) → ⊥
unfolding entries_of is_looked_at
unread_is_not_readable a = clash (a.all_read (entry_of 0 unread) (rw computed.one_unread (Memᴰ.head refl)) refl) computed.unread_is

-- ---- the same records, each as often

pub times : (rs : List Record) → reading pack_limit (layouts rs) ≡ reading_of rs → (bytes : List ℕ)
    → times_in bytes (layouts rs) (reading pack_limit (layouts rs)).entries ≡ how_often bytes rs
times rs e bytes = ap (λ (r : Reading). times_in bytes (layouts rs) r.entries) e ∙ times_standing bytes 0 rs (layouts rs) refl

-- a record twice is not that record once
pub often_is_told_apart : SameRecordsIn pack_limit (layouts (unread ∷ unread ∷ [])) (layouts (unread ∷ [])) → ⊥
unfolding how_often
often_is_told_apart same =
    let bytes : List ℕ = layout unread in
    let n : how_often bytes (unread ∷ unread ∷ []) ≡ how_often bytes (unread ∷ []) =
    sym (times (unread ∷ unread ∷ []) computed.two_unread bytes) ∙ same bytes ∙ times (unread ∷ []) computed.one_unread bytes in
    let m : ◌≡◌ {A = ℕ} 2 1 = rw (same_bytes_refl (layout unread)) at n in omega arith

-- ---- ORDER: its premises but the last hold of every two records that are read, in either order

pub record InEitherOrder (s t bucket object : List ℕ) : Type 0 where
  pub first_readable : ReadablePack pack_limit s
  pub second_readable : ReadablePack pack_limit t
  pub same : SameRecordsIn pack_limit s t
  pub name : is_name bucket object ≡ true

-- ---- ORDER without that premise: two answers that are not the same

pub values : plain herd one ≡ another one → ⊥
values e = let n : ◌≡◌ {A = ℕ} 43 46 = ap length e in omega arith

pub values_are_told_apart : OneValueIn pack_limit (layouts plain_first) → ⊥
unfolding layouts entries_of
values_are_told_apart one_value =
    let s : List ℕ = layouts plain_first in
    let a : Record = vr (plain herd one) in
    let b : Record = vr (another one) in
    let d : Entry = entry_of 0 a in
    let e : Entry = entry_of (0 + length (layout a)) b in
    let first : value_of s d ≡ plain herd one = value_standing 0 a (b ∷ []) s refl in
    let second : value_of s e ≡ another one = value_standing (0 + length (layout a)) b [] s (rest_standing 0 a (b ∷ []) s refl) in
    values (sym first ∙ one_value d e (identifier one) false false (rw computed.plain_first_lem (Memᴰ.head refl))
    (rw computed.plain_first_lem (Memᴰ.tail (Memᴰ.head refl))) (rw first computed.plain_is) (rw second computed.another_is) ∙ second)
