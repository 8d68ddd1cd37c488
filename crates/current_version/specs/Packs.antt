-- A pack as a list of records: the lookup's answer depends on their tags and values and on their order; where they stand shows only in the place told.
use Rattle.std.specs.Prelude.{ℕ, ◌+◌, ◌≤◌, Bool, true, false, cond, ◌≡◌, refl, length, take, drop}
use mathlib.Core.List.Memᴰ
use mathlib.Core.List.{List, [], ◌∷◌, ◌++◌, map, Memᴰ}
use Rattle.std.specs.Prelude.{Option, None, Some}
use Rattle.std.proofs.Common.{sym, ap, subst, ◌∙◌, drop_at, drop-drop}
use Rattle.slices.specs.Bytes.{AllBytes}
use Rattle.slices.specs.Logic.{absurd_numbers}
use Rattle.refusals.specs.Answers as refusals
use Rattle.refusals.specs.Answers.{is_result}
use Rattle.tlv.specs.Layout.{Record, layout, layouts}
use Rattle.pack.specs.Reading.{Reading, Ending, whole, reading}
use Rattle.pack.specs.declared.Entry.{Entry}
use Rattle.pack.specs.Acceptance.{AllFit, entry_of, entries_of}
use Rattle.pack.proofs.Acceptance.{layouts_accepted, accepted_exactly, accepted_within}
use Rattle.identifier.specs.Identity.{Identity}
use Rattle.records.specs.Record as records
use Rattle.records.specs.Record.{read_record, can_be_read}
use Rattle.records.specs.Laws.{value_there}
use Rattle.current_version.specs.Current.{other, role_by, role_of, is_looked_at, role, Placed, placed_by, value_of, placed, Version, Answer, nothing, found, refused_at, alone, unreadable_first, readability, answer_in, is_name, lookup}

-- ---- records that stand end to end, from a place on

unfoldable pub standing : ℕ → ℕ → List Record → List Placed
standing limit at [] = []
standing limit at (r ∷ rs) = placed_by limit at r.tag r.value ∷ standing limit (at + length (layout r)) rs

pub value_standing : (at : ℕ) (r : Record) (rs : List Record) (s : List ℕ) → drop at s ≡ layout r ++ layouts rs → value_of s (entry_of at r) ≡ r.value
value_standing at r rs s e = ap (λ t. take (length r.value) (drop 32 t)) e ∙ value_there r (layouts rs)

pub rest_standing : (at : ℕ) (r : Record) (rs : List Record) (s : List ℕ) → drop at s ≡ layout r ++ layouts rs → drop (at + length (layout r)) s ≡ layouts rs
rest_standing at r rs s e = sym (drop-drop (length (layout r)) at s) ∙ ap (drop (length (layout r))) e
    ∙ drop_at (layout r) (layouts rs) (length (layout r)) refl

placed_standing : (limit at : ℕ) (rs : List Record) (s : List ℕ) → drop at s ≡ layouts rs → map (placed limit s) (entries_of at rs) ≡ standing limit at rs
unfolding layouts entries_of standing
placed_standing limit at [] s e = refl
placed_standing limit at (r ∷ rs) s e = rw (value_standing at r rs s e, placed_standing limit (at + length (layout r)) rs s (rest_standing at r rs s e))

pub lookup_layouts : (limit : ℕ) (rs : List Record) (bucket object : List ℕ) → AllFit rs → length (layouts rs) ≤ limit → is_name bucket object ≡ true
    → lookup limit (layouts rs) bucket object ≡ answer_in (standing limit 0 rs) bucket object
unfolding lookup
lookup_layouts limit rs bucket object fit within name =
    rw (name, layouts_accepted limit (layouts rs) within rs fit refl, placed_standing limit 0 rs (layouts rs) refl)

-- ---- packs whose `vr` and `vd` records can all be read

abbrev pub AllRead : ℕ → List Record → Type 0
AllRead limit rs = (r : Record) → Memᴰ r rs → is_looked_at r.tag ≡ true → can_be_read limit r.tag r.value ≡ true

-- the records make a pack that is accepted, and such
pub record Readable (limit : ℕ) (rs : List Record) : Type 0 where
  pub fit : AllFit rs
  pub within : length (layouts rs) ≤ limit
  pub all_read : AllRead limit rs

read_first : (limit tag : ℕ) (value : List ℕ) (p : Placed) (next : Ending)
    → (is_looked_at tag ≡ true → can_be_read limit tag value ≡ true) → unreadable_first p (role limit tag value) next ≡ next
unfolding role can_be_read
read_first limit tag value p next h = go (is_looked_at tag) (read_record limit tag value) h
  where
    by : (i : Identity) (k : records.Kind) → unreadable_first p (role_by i k) next ≡ next
    by i records.block = refl
    by i (records.version f) = refl
    by i (records.version_delete d) = refl
    by i (records.pack_list l) = refl

    go : (t : Bool) (a : refusals.Answer records.Record) → (t ≡ true → is_result a ≡ true) → unreadable_first p (cond t (role_of a) other) next ≡ next
    go true (refusals.granted r) h = by r.contents.identifier r.contents.kind
    go true (refusals.refused n) h = let e = h refl in absurd_numbers (cc)
    go false a h = refl

pub all_readable : (limit at : ℕ) (rs : List Record) → AllRead limit rs → readability (standing limit at rs) ≡ whole
unfolding readability standing
all_readable limit at [] h = refl
all_readable limit at (r ∷ rs) h =
    read_first limit r.tag r.value (placed_by limit at r.tag r.value)
    (readability (standing limit (at + length (layout r)) rs)) (h r (Memᴰ.head refl))
    ∙ all_readable limit (at + length (layout r)) rs (λ s m. h s (Memᴰ.tail m))

-- ---- the same said of a pack's bytes

pub record ReadablePack (limit : ℕ) (s : List ℕ) : Type 0 where
  pub accepted : (reading limit s).ending ≡ whole
  pub all_read : (e : Entry) → Memᴰ e (reading limit s).entries → is_looked_at e.tag ≡ true → can_be_read limit e.tag (value_of s e) ≡ true

-- tag and value, by an entry and by a record
abbrev pub of_entry : List ℕ → Entry → ℕ × List ℕ
of_entry s e = (e.tag, value_of s e)

abbrev pub of_record : Record → ℕ × List ℕ
of_record r = (r.tag, r.value)

pub tags_and_values : (at : ℕ) (rs : List Record) (s : List ℕ) → drop at s ≡ layouts rs → map (of_entry s) (entries_of at rs) ≡ map of_record rs
unfolding layouts entries_of
tags_and_values at [] s e = refl
tags_and_values at (r ∷ rs) s e = rw (value_standing at r rs s e, tags_and_values (at + length (layout r)) rs s (rest_standing at r rs s e))

abbrev Reads : ℕ → ℕ × List ℕ → Type 0
Reads limit x = is_looked_at x.0 ≡ true → can_be_read limit x.0 x.1 ≡ true

module _ (limit : ℕ) (s : List ℕ) where
  -- the pack of such records
  pub pack_of_read : (rs : List Record) → layouts rs ≡ s → reading limit s ≡ record { entries = entries_of 0 rs; ending = whole } → AllRead limit rs
      → ReadablePack limit s
  pack_of_read rs is read all =
      let same : map of_record rs ≡ map (of_entry s) (entries_of 0 rs) = sym (tags_and_values 0 rs s (sym is)) in
      record {
        accepted = rw read;
        all_read = λ e m looked.
            let o = Memᴰ.of_map of_record rs
            (subst (Memᴰ (of_entry s e)) (sym same) (Memᴰ.map (of_entry s) (subst (λ (r : Reading). Memᴰ e r.entries) read m))) in
            let can_be : can_be_read limit e.tag (value_of s e) ≡ true = subst (Reads limit) o.2 (all o.0 o.1) looked in
            cc;
      }

  pub readable_pack : (rs : List Record) → Readable limit rs → layouts rs ≡ s → ReadablePack limit s
  readable_pack rs a is =
      pack_of_read rs is (layouts_accepted limit s (subst (λ t. length t ≤ limit) is a.within) rs a.fit is) a.all_read

  -- and every such pack is one of those
  pub pack_readable : AllBytes s → ReadablePack limit s → (rs : List Record) × Readable limit rs × (layouts rs ≡ s)
  pack_readable bytes a =
      let within = accepted_within limit s a.accepted in
      let l = (accepted_exactly limit s within bytes).0 a.accepted in
      let read = layouts_accepted limit s within l.0 l.1 l.2 in
      let same = tags_and_values 0 l.0 s (sym l.2) in (
        l.0,
        record {
          fit = l.1;
          within = subst (λ t. length t ≤ limit) (sym l.2) within;
          all_read = λ r m.
              let o = Memᴰ.of_map (of_entry s) (entries_of 0 l.0) (subst (Memᴰ (of_record r)) (sym same) (Memᴰ.map of_record m)) in
              subst (Reads limit) o.2 (a.all_read o.0 (subst (λ (r : Reading). Memᴰ o.0 r.entries) (sym read) o.1));
        },
        l.2,
      )

-- ---- answers compared: where the record stands is not

pub record SameVersion (v w : Version) : Type 0 where
  pub identifier : v.identifier ≡ w.identifier
  pub delete_flag : v.delete_flag ≡ w.delete_flag
  pub value : v.value ≡ w.value

-- both are answers and no refusals, and the same
abbrev pub SameAnswer : Answer → Answer → Type 0
SameAnswer nothing nothing = Unit {0}
SameAnswer nothing (found w) = ⊥
SameAnswer nothing (refused_at m q) = ⊥
SameAnswer nothing (alone m) = ⊥
SameAnswer (found v) nothing = ⊥
SameAnswer (found v) (found w) = SameVersion v w
SameAnswer (found v) (refused_at m q) = ⊥
SameAnswer (found v) (alone m) = ⊥
SameAnswer (refused_at n p) b = ⊥
SameAnswer (alone n) b = ⊥

-- ---- the records, told without their places

abbrev pub unplaced : ℕ → Record → Placed
unplaced limit r = placed_by limit 0 r.tag r.value

abbrev pub forget : Option Version → Option Version
forget None = None
forget (Some v) = Some (record { identifier = v.identifier; delete_flag = v.delete_flag; value = v.value; start = 0 })
