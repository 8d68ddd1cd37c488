-- Which number is given: of the rows of the refusal sheet for one record, in their order, the first that applies; and a record is read exactly when
-- none does. So "can be read" is what the sheet says.
use Prim.Native.Nat.{ℕ, ◌+◌}
use Rattle.std.specs.Prelude.{Bool, ◌||◌, ◌⊎◌, ◌≡◌, length, take, drop}
use Rattle.std.proofs.Math.Bool.{true, false}
use mathlib.Core.List.{List, [], ◌∷◌, map, Memᴰ}
use Rattle.std.proofs.Math.Logic.{inr, ⊎_elim}
use Rattle.std.specs.Prelude.{None, Some}
use Rattle.std.proofs.Math.Path.{refl}
use Rattle.std.proofs.Math.Dec.{eqb}
use Rattle.slices.specs.Logic.{absurd_numbers}
use Rattle.refusals.specs.Sheet.{lowest}
use Rattle.refusals.specs.Answers.{Answer, refused, granted, unless}
use Rattle.msgpack.specs.Items.{whole, cut, too_deep, pass_over}
use Rattle.msgpack.specs.Views.{repeats, byte_view}
use Rattle.identifier.specs.Ulid.{is_ulid}
use Rattle.identifier.specs.Identity.{Identity, is_valid}
use Rattle.value.specs.Header.{header_repeats, header, telling_of}
use Rattle.value.specs.declared.Told.{Told}
use Rattle.primary.specs.Parts.{fills, version_keys, version_delete_keys, text_under, texts_under, deleted_under, delete_id_key, Shape, shape_under, identity_by, block_repeats}
use Rattle.pack_list.specs.Lists.{Entry, entries_under, list_repeats, is_filled}
use Rattle.records.specs.Record.{block_tag, version_tag, version_delete_tag, pack_list_tag, is_known, contents, Record, told_rows, primary_in, with_told, read_record}
use Rattle.current_version.specs.Current.{is_looked_at}

-- ---- the rows: each presupposes what its own words need, and not that rows before it do not apply

-- the first item is the header, and tells t
pub record HeaderTells (limit : ℕ) (s : List ℕ) (t : Told) : Type 0 where
  pub size : ℕ
  pub item : pass_over s ≡ whole size
  pub described : header limit (take size s) ≡ Some t

-- the tags whose primary part has the identifier under `I`, in either shape
abbrev pub HasShape : ℕ → Type 0
HasShape tag = (tag ≡ block_tag) ⊎ (tag ≡ pack_list_tag)

-- 17, of a primary part
pub data NotDescribed (tag : ℕ) (part : List ℕ) : Type 0 where
  no_shape : HasShape tag → shape_under byte_view part ≡ None → NotDescribed tag part
  no_texts : is_looked_at tag ≡ true → texts_under byte_view part ≡ None → NotDescribed tag part
  no_boolean : tag ≡ version_tag → deleted_under byte_view part ≡ None → NotDescribed tag part
  no_delete_identifier : tag ≡ version_delete_tag → text_under byte_view delete_id_key part ≡ None → NotDescribed tag part
  no_entries_lem : tag ≡ pack_list_tag → entries_under byte_view part ≡ None → NotDescribed tag part

-- 22, of a primary part
pub data KeyRepeats (tag : ℕ) (part : List ℕ) : Type 0 where
  in_identifier : HasShape tag → block_repeats byte_view part ≡ true → KeyRepeats tag part
  in_version : tag ≡ version_tag → repeats byte_view version_keys part ≡ true → KeyRepeats tag part
  in_version_delete : tag ≡ version_delete_tag → repeats byte_view version_delete_keys part ≡ true → KeyRepeats tag part
  in_entries : tag ≡ pack_list_tag → list_repeats byte_view part ≡ true → KeyRepeats tag part

-- 18
pub data BreaksRules (tag : ℕ) (part : List ℕ) : Type 0 where
  shape_breaks : HasShape tag → (i : Shape) → shape_under byte_view part ≡ Some i → identity_by i ≡ None → BreaksRules tag part
  texts_break : is_looked_at tag ≡ true → (i : Identity) → texts_under byte_view part ≡ Some i → is_valid i ≡ false → BreaksRules tag part
  delete_identifier_breaks : tag ≡ version_delete_tag → (t : List ℕ) → text_under byte_view delete_id_key part ≡ Some t → is_ulid t ≡ false
      → BreaksRules tag part
  pack_breaks : tag ≡ pack_list_tag → (es : List Entry) → entries_under byte_view part ≡ Some es → (e : Entry) → Memᴰ e es → is_ulid e.pack ≡ false
      → BreaksRules tag part

-- 21
pub record NotFilled (tag : ℕ) (part : List ℕ) : Type 0 where
  pub is_list : tag ≡ pack_list_tag
  pub entries : List Entry
  pub there : entries_under byte_view part ≡ Some entries
  pub entry : Entry
  pub stands : Memᴰ entry entries
  pub not_filled : is_filled entry ≡ false

-- 22 is two of them
pub data Row : Type 0 where
  no_whole_item : Row
  depth_17 : Row
  header_not_described : Row
  header_key_repeats : Row
  value_not_filled : Row
  tag_unknown : Row
  version_not_0 : Row
  part_encoded : Row
  part_not_filled : Row
  part_not_described : Row
  part_key_repeats : Row
  rules_broken : Row
  range_not_filled : Row

abbrev pub number : Row → ℕ
number no_whole_item = 9
number depth_17 = 10
number header_not_described = 11
number header_key_repeats = 22
number value_not_filled = 12
number tag_unknown = 13
number version_not_0 = 14
number part_encoded = 15
number part_not_filled = 16
number part_not_described = 17
number part_key_repeats = 22
number rules_broken = 18
number range_not_filled = 21

-- to a record with this tag and the value s; of 9 and 10, passing over an item tells the first met from the left
abbrev pub Applies : ℕ → ℕ → List ℕ → Row → Type 0
Applies limit tag s no_whole_item = pass_over s ≡ cut
Applies limit tag s depth_17 = pass_over s ≡ too_deep
Applies limit tag s header_not_described = (n : ℕ) × (pass_over s ≡ whole n) × (header limit (take n s) ≡ None)
Applies limit tag s header_key_repeats = (n : ℕ) × (pass_over s ≡ whole n) × (header_repeats byte_view (take n s) ≡ true)
Applies limit tag s value_not_filled = (t : Told) × (h : HeaderTells limit s t) × (h.size + t.secondary.len ≡ length s → ⊥)
Applies limit tag s tag_unknown = is_known tag ≡ false
Applies limit tag s version_not_0 = (t : Told) × HeaderTells limit s t × (t.version ≡ 0 → ⊥)
Applies limit tag s part_encoded = (t : Told) × HeaderTells limit s t × ((t.primary.encrypted ≡ true) ⊎ (t.primary.compression ≡ 0 → ⊥))
Applies limit tag s part_not_filled = (t : Told) × HeaderTells limit s t × (fills (primary_in s t) ≡ false)
Applies limit tag s part_not_described = (t : Told) × HeaderTells limit s t × NotDescribed tag (primary_in s t)
Applies limit tag s part_key_repeats = (t : Told) × HeaderTells limit s t × KeyRepeats tag (primary_in s t)
Applies limit tag s rules_broken = (t : Told) × HeaderTells limit s t × BreaksRules tag (primary_in s t)
Applies limit tag s range_not_filled = (t : Told) × HeaderTells limit s t × NotFilled tag (primary_in s t)

-- ---- their order

abbrev pub sheet : List Row
sheet =
    no_whole_item ∷ depth_17 ∷ header_not_described ∷ header_key_repeats ∷ value_not_filled ∷ tag_unknown ∷ version_not_0 ∷ part_encoded
    ∷ part_not_filled ∷ part_not_described ∷ part_key_repeats ∷ rules_broken ∷ range_not_filled ∷ []

pub numbers_in_order : map number sheet ≡ 9 ∷ 10 ∷ 11 ∷ 22 ∷ 12 ∷ 13 ∷ 14 ∷ 15 ∷ 16 ∷ 17 ∷ 22 ∷ 18 ∷ 21 ∷ []
numbers_in_order = refl

-- from a row on
abbrev pub from_header : List Row
from_header = drop 2 sheet

abbrev pub from_header_keys : List Row
from_header_keys = drop 3 sheet

abbrev pub from_filling : List Row
from_filling = drop 4 sheet

abbrev pub from_tag : List Row
from_tag = drop 5 sheet

abbrev pub from_version : List Row
from_version = drop 6 sheet

abbrev pub from_encoding : List Row
from_encoding = drop 7 sheet

abbrev pub from_part : List Row
from_part = drop 8 sheet

abbrev pub from_description : List Row
from_description = drop 9 sheet

abbrev pub from_keys : List Row
from_keys = drop 10 sheet

abbrev pub from_rules : List Row
from_rules = drop 11 sheet

abbrev pub from_ranges : List Row
from_ranges = drop 12 sheet

-- the first of these rows that applies
pub data First (P : Row → Type 0) : List Row → Row → Type 0 where
  here : {r : Row} {rs : List Row} → P r → First P (r ∷ rs) r
  later : {q r : Row} {rs : List Row} → (P q → ⊥) → First P rs r → First P (q ∷ rs) r

-- ---- what the rows of a list say of an answer

pub data Outcome (P : Row → Type 0) (a : Answer Record) (rs : List Row) : Type 0 where
  refuses : (r : Row) → First P rs r → a ≡ refused (number r) → Outcome P a rs
  reads : ((r : Row) → Memᴰ r rs → P r → ⊥) → (x : Record) → a ≡ granted x → Outcome P a rs

-- ---- 16, 17, 22, 18 and 21: of the primary part, by the tag

-- of a test that not all pass, one that does not
module _ {A : Type 0} (test : A → Bool) where
  abbrev pub OneFails : List A → Type 0
  OneFails xs = (x : A) × Memᴰ x xs × (test x ≡ false)

abbrev pub is_named : Entry → Bool
is_named e = is_ulid e.pack

-- no tag has its identifier in both ways
pub not_looked_at : {C : Type 0} (tag : ℕ) → HasShape tag → is_looked_at tag ≡ true → C
unfolding is_looked_at
not_looked_at tag has e = absurd (⊎_elim (λ is. let f = rw is at e in absurd_numbers (cc)) (λ is. let f = rw is at e in absurd_numbers (cc)) has)

module _ (limit tag : ℕ) (s : List ℕ) (t : Told) (tells : HeaderTells limit s t) where
  abbrev pub Here : Row → Type 0
  Here = Applies limit tag s

  abbrev pub part : List ℕ
  part = primary_in s t

  abbrev pub answer : Answer Record
  answer = with_told t (contents tag part)

  abbrev pub AtPart : List Row → Type 0
  AtPart rows = Outcome Here answer rows

  -- ---- 13 to 15

  abbrev pub told_answer : Answer Record
  told_answer = unless (lowest (told_rows tag (telling_of t))) answer

-- ---- 9 to 12, and 22

module _ (limit tag : ℕ) (s : List ℕ) where
  abbrev pub AtValue : List Row → Type 0
  AtValue rows = Outcome (Applies limit tag s) (read_record limit tag s) rows

-- ---- the theorems

module _ (limit tag : ℕ) (s : List ℕ) where
  abbrev pub FirstFor : ℕ → Type 0
  FirstFor n = (r : Row) × First (Applies limit tag s) sheet r × (number r ≡ n)

pub looked_at_is_known : (limit tag : ℕ) (s : List ℕ) → is_looked_at tag ≡ true → Applies limit tag s tag_unknown → ⊥
unfolding is_looked_at is_known
looked_at_is_known limit tag s looked unknown =
    by (eqb tag block_tag) (eqb tag version_tag) (eqb tag version_delete_tag) (eqb tag pack_list_tag) looked unknown
  where
    by : (a b c d : Bool) → (b || c) ≡ true → (a || b || c || d) ≡ false → ⊥
    by true b c d p q = absurd_numbers (cc)
    by false true c d p q = absurd_numbers (cc)
    by false false true d p q = absurd_numbers (cc)
    by false false false d p q = absurd_numbers (cc)

pub looked_at_has_no_ranges : (limit tag : ℕ) (s : List ℕ) → is_looked_at tag ≡ true → Applies limit tag s range_not_filled → ⊥
looked_at_has_no_ranges limit tag s looked x = not_looked_at tag (inr x.2.is_list) looked
