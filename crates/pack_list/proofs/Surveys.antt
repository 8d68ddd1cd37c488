-- What the entries of a list tell together, and the list by that: what all of them tell is what those from a place on tell, after those before it.
use Prim.Native.Nat.{ℕ, suc, ◌+◌, ◌-◌, ◌≤◌, ◌<◌}
use mathlib.Core.Bool.{Bool, true, false, cond, ◌&&◌, ◌||◌}
use mathlib.Core.List.{List, [], ◌∷◌}
use Rattle.std.specs.Prelude.{Option, None, Some}
use mathlib.Core.Path.{◌≡◌, refl, sym, ap, subst, ◌∙◌}
use native.Mathlib.Numerals.{add-one}
use native.Mathlib.Omega.{arith}
use borrow.Author.Tests.{le-leb, lt-leb, leb-true, leb-false}
use lib.Dec.{leb}
use lib.ListN.{length, drop, get_or, length-drop}
use lib.Seq.{drop-drop}
use Rattle.slices.specs.Logic.{absurd_numbers, both, or_false, or_assoc}
use Rattle.msgpack.specs.Items.{depth_allowed, pass_over, WholeItem}
use Rattle.msgpack.specs.PassingLaws.{bounded}
use Rattle.msgpack.specs.Lookup.{if_there, over}
use Rattle.msgpack.specs.Views.{size_of, items_from, byte_view}
use Rattle.identifier.specs.Ulid.{is_ulid}
use Rattle.pack_list.specs.Lists.{Entry, each_of, entry_at, any_of, entry_repeats, all_of, is_filled}
use Rattle.pack_list.specs.Blocks.{is_counted, stride_for, larger, stride, is_in, holds, holder_from}
use Rattle.pack_list.specs.declared.Numbers.{Numbers}
use Rattle.pack_list.specs.declared.Entry as placed
use Rattle.pack_list.specs.declared.Tests.{Tests}
use Rattle.pack_list.specs.declared.Survey.{Survey}
use Rattle.pack_list.specs.declared.Held.{Held}
use Rattle.refusals.specs.Answers.{or_else}
use Rattle.pack_list.specs.Answers.{items_in, WholeItems, entry_of, told_of, told_in, entry_told, EntryHere, with_tests, holder_with, holder_of, held_by, survey_from, no_entry, surveyed, survey_of, HeldHere, HolderInside, SurveyedInside}
use Rattle.pack_list.specs.Walks.{items_on, first_whole, others_whole, entry_is}
use Rattle.pack_list.proofs.Entries.{told_entry, tests_tell}

-- ---- the survey of all entries

-- an entry of a number that stands at a place, with what is told of it
abbrev pub held_here : (number at : ℕ) → placed.Entry → Tests → Held
held_here number at e t = record { number = number; at = at; entry = e; blocks = t.blocks; counted = t.counted }

-- with one entry more
module _ (s : List ℕ) (h : Held) where
  holder_more : (holder : Option Held) (held : Bool)
      → holder_of s (holder_with holder held h) ≡ or_else (holder_of s holder) (cond held (Some (h.number, drop h.at s)) None)
  holder_more None true = refl
  holder_more None false = refl
  holder_more (Some x) held = refl

  inside_more : (holder : Option Held) (held : Bool) → HolderInside s holder → HeldHere s h → HolderInside s (holder_with holder held h)
  inside_more None true i w = record { held = λ x e. let same : h ≡ x = cc in subst (HeldHere s) same w }
  inside_more None false i w = i
  inside_more (Some x) held i w = i

module _ (s : List ℕ) (n : Numbers) (byte : ℕ) where
  pub record SurveyedTo (at k : ℕ) (all : Survey) (holder : Option Held) : Type 0 where
    pub most : k ≤ n.count
    pub rest : surveyed byte (items_in s n) ≡ survey_from byte k all (holder_of s holder) (items_from (n.count - k) (drop at s))
    pub whole : WholeItems (n.count - k) (drop at s)
    pub inside : HolderInside s holder

  pub none_surveyed : WholeItems n.count (drop n.first s) → SurveyedTo n.first 0 no_entry None
  unfolding surveyed
  none_surveyed w =
      let same : n.count - 0 ≡ n.count = omega arith in
      record {
        most = omega arith;
        rest = rw same;
        whole = rw same w;
        inside = record { held = λ x e. absurd_numbers (cc) };
      }

  module _ (at k : ℕ) (all : Survey) (holder : Option Held) (t : SurveyedTo at k all holder) where
    pub surveyed_all : n.count ≤ k
        → (survey_of s (Some (all, holder)) ≡ surveyed byte (items_in s n)) × SurveyedInside s (Some (all, holder))
    unfolding survey_from items_from
    surveyed_all h =
        let last : n.count - k ≡ 0 = omega arith in (
          sym (t.rest ∙ rw last),
          record {
            holder = λ x y z.
                let same : ◌≡◌ {A = Survey × Option Held} (all, holder) (x, y) = cc in
                subst (HolderInside s) (ap (λ (r : Survey × Option Held). r.1) same) t.inside;
          },
        )

    module _ (h : k < n.count) where
      pub entry_whole : WholeItem (drop at s)
      entry_whole = first_whole (n.count - k) (drop at s) (omega arith) t.whole

      pub entry_missing : None ≡ entry_told (drop at s) → (None ≡ surveyed byte (items_in s n)) × SurveyedInside s None
      unfolding survey_from
      entry_missing e = (
        sym (t.rest ∙ rw (items_on s at (n.count - k) _ (omega arith) refl, ← e)),
        record { holder = λ x y z. absurd_numbers (cc) },
      )

      -- the item ends within the part
      pub entry_ends : (e : placed.Entry) (x : Tests) → told_in s (Some (e, x)) ≡ entry_told (drop at s) → (entry_of s e ≡ None → ⊥)
          → at + x.size ≤ length s
      entry_ends e x told there = go (entry_of s e) refl
        where
          go : (o : Option Entry) → entry_of s e ≡ o → at + x.size ≤ length s
          go None q = absurd (there q)
          go (Some y) q =
              let w = entry_whole in
              let taken = bounded depth_allowed (drop at s) w.size w.is in
              let size : x.size ≡ w.size = (tests_tell s (drop at s) e x y told q).size ∙ ap size_of w.is in
              omega (arith, size, taken.some_byte, taken.within, length-drop at s)

      pub one_surveyed : (e : placed.Entry) (x : Tests) → told_in s (Some (e, x)) ≡ entry_told (drop at s) → EntryHere s at e
          → (noted : Survey) → noted ≡ with_tests all x
          → (held : Option Held) → held ≡ holder_with holder (is_in e.source byte) (held_here k at e x)
          → (next : ℕ) → next ≡ at + x.size → SurveyedTo next (k + 1) noted held
      unfolding survey_from holds
      one_surveyed e x told here noted a held b next c = go (entry_of s e) refl
        where
          left : n.count - k - 1 ≡ n.count - (k + 1)
          left = omega arith

          go : (o : Option Entry) → entry_of s e ≡ o → SurveyedTo next (k + 1) noted held
          go None q = absurd (here.there q)
          go (Some y) q =
              let tells : entry_told (drop at s) ≡ Some (record { entry = y; tests = x }) = sym (rw q at told) in
              let source = (entry_is s e y q).source in
              let tests = tests_tell s (drop at s) e x y told q in
              let behind : next ≡ at + size_of (pass_over (drop at s)) = c ∙ ap (λ (m : ℕ). at + m) tests.size in
              let holding : holder_of s held ≡ or_else (holder_of s holder) (held_by byte k (drop at s) y)
              = ap (holder_of s) b ∙ holder_more s (held_here k at e x) holder (is_in e.source byte) ∙ rw source in
              let is_held : HeldHere s (held_here k at e x) = record {
                whole = entry_whole;
                entry = y;
                is = q;
                item = sym (told_entry s (drop at s) e x told) ∙ q;
                as_many = tests.blocks;
                counted = tests.counted;
                here = here;
              } in
              record {
                most = omega arith;
                rest = t.rest ∙ rw (items_on s at (n.count - k) next (omega arith) behind, tells, left, a, holding, add-one k);
                whole = rw (← left, behind, ← drop-drop (size_of (pass_over (drop at s))) at s)
                    (others_whole (n.count - k) (drop at s) (omega arith) t.whole);
                inside = rw b (inside_more s (held_here k at e x) holder (is_in e.source byte) t.inside is_held);
              }

-- ---- what it tells

larger_assoc : (a b c : ℕ) → larger (larger a b) c ≡ larger a (larger b c)
larger_assoc a b c = go (leb a b) refl (leb b c) refl
  where
    go : (t : Bool) → leb a b ≡ t → (u : Bool) → leb b c ≡ u → larger (larger a b) c ≡ larger a (larger b c)
    go true p true q = rw (p, q, le-leb a c (omega (arith, leb-true a b p, leb-true b c q)))
    go true p false q = rw (p, q, p)
    go false p true q = rw (p, q)
    go false p false q = rw (p, q, p, lt-leb a c (omega (arith, leb-false a b p, leb-false b c q)))

larger_zero : (a : ℕ) → a ≡ larger a 0
larger_zero a = go (leb a 0) refl
  where
    go : (t : Bool) → leb a 0 ≡ t → a ≡ cond t 0 a
    go true l = omega (arith, leb-true a 0 l)
    go false l = refl

and_assoc : (a b c : Bool) → ((a && b) && c) ≡ (a && (b && c))
and_assoc true b c = refl
and_assoc false b c = refl

and_true : (a : Bool) → (a && true) ≡ a
and_true true = refl
and_true false = refl

some_pair : {A B : Type 0} (a c : A) (b d : B) → ◌≡◌ {A = Option (A × B)} (Some (a, b)) (Some (c, d)) → (a ≡ c) × (b ≡ d)
some_pair {A} {B} a c b d e = let pair : ◌≡◌ {A = A × B} (a, b) (c, d) = cc in (ap (λ (x : A × B). x.0) pair, ap (λ (x : A × B). x.1) pair)

-- of items the first of which has a number, the one of the number k: an entry that holds the byte, and is filled where all of these are
pub record HeldAmong (byte number : ℕ) (items : List (List ℕ)) (entries : List Entry) (k : ℕ) (m : List ℕ) : Type 0 where
  pub index : ℕ
  pub counted : k ≡ number + index
  pub item : m ≡ get_or items index []
  pub entry : Entry
  pub is : entry_at byte_view m ≡ Some entry
  pub holds : holds entry byte ≡ true
  pub filled : all_of is_filled entries ≡ true → is_filled entry ≡ true

-- the entry that an item is
abbrev pub entry_held : Option (ℕ × List ℕ) → Option (ℕ × Entry)
entry_held None = None
entry_held (Some h) = over (λ e. (h.0, e)) (entry_at byte_view h.1)

module _ (byte : ℕ) where
  -- by the entries that these items are, after those that were surveyed
  pub record Tells (number : ℕ) (before : Survey) (holder : Option (ℕ × List ℕ)) (items : List (List ℕ)) (all : Survey)
      (held : Option (ℕ × List ℕ)) : Type 0 where
    pub entries : List Entry
    pub are : each_of (entry_at byte_view) items ≡ Some entries
    pub repeated : all.repeated ≡ (before.repeated || any_of (entry_repeats byte_view) items)
    pub named : all.named ≡ (before.named && all_of (λ (e : Entry). is_ulid e.pack) entries)
    pub filled : all.filled ≡ (before.filled && all_of is_filled entries)
    pub strided : all.stride ≡ larger before.stride (stride entries)
    pub kept : (h : ℕ × List ℕ) → holder ≡ Some h → held ≡ Some h
    pub first : holder ≡ None → holder_from byte number entries ≡ entry_held held
    pub holding : holder ≡ None → (k : ℕ) (m : List ℕ) → held ≡ Some (k, m) → HeldAmong byte number items entries k m

  module _ (number : ℕ) (before : Survey) (holder : Option (ℕ × List ℕ)) (m : List ℕ) (ms : List (List ℕ)) (all : Survey) (held : Option (ℕ × List ℕ))
      (y : Entry) (is : entry_at byte_view m ≡ Some y)
      (r : Tells (suc number) (with_tests before (told_of y (entry_repeats byte_view m) (size_of (pass_over m))).tests) (or_else holder (held_by byte number m y)) ms all held) where
    -- the first of them holds the byte, and is kept
    first_held : holder ≡ None → holds y byte ≡ true → held ≡ Some (number, m)
    first_held q h = r.kept (number, m) (rw (q, h))

    first_not : holder ≡ None → holds y byte ≡ false → or_else holder (held_by byte number m y) ≡ None
    first_not q h = rw (q, h)

    one_tells : Tells number before holder (m ∷ ms) all held
    unfolding each_of any_of all_of stride holder_from with_tests told_of
    one_tells =
        record {
          entries = y ∷ r.entries;
          are = rw (is, r.are);
          repeated = r.repeated ∙ or_assoc before.repeated (entry_repeats byte_view m) (any_of (entry_repeats byte_view) ms);
          named = r.named ∙ and_assoc before.named (is_ulid y.pack) (all_of (λ (e : Entry). is_ulid e.pack) r.entries);
          filled = r.filled ∙ and_assoc before.filled (is_filled y) (all_of is_filled r.entries);
          strided = r.strided ∙ larger_assoc before.stride (cond (is_counted y) (stride_for y) 0) (stride r.entries);
          kept = λ h q. r.kept h (rw q);
          first = λ q. found_first q (holds y byte) refl;
          holding = λ q k x z. held_first q k x z (holds y byte) refl;
        }
      where
        found_first : holder ≡ None → (t : Bool) → holds y byte ≡ t
            → cond t (Some (number, y)) (holder_from byte (suc number) r.entries) ≡ entry_held held
        found_first q true h = rw (first_held q h, is)
        found_first q false h = r.first (first_not q h)

        held_first : holder ≡ None → (k : ℕ) (x : List ℕ) → held ≡ Some (k, x) → (t : Bool) → holds y byte ≡ t
            → HeldAmong byte number (m ∷ ms) (y ∷ r.entries) k x
        held_first q k x z true h =
            let same = some_pair number k m x (sym (first_held q h) ∙ z) in
            let counted = same.0 in
            rw (← same.1)
            (record {
              index = 0;
              counted = omega arith;
              item = refl;
              entry = y;
              is = is;
              holds = h;
              filled = λ f. (both (is_filled y) (all_of is_filled r.entries) f).0;
            })
        held_first q k x z false h =
            let i = r.holding (first_not q h) k x z in
            let counted = i.counted in
            record {
              index = suc i.index;
              counted = omega arith;
              item = i.item;
              entry = i.entry;
              is = i.is;
              holds = i.holds;
              filled = λ f. i.filled (both (is_filled y) (all_of is_filled r.entries) f).1;
            }

  survey_tells : (number : ℕ) (before : Survey) (holder : Option (ℕ × List ℕ)) (items : List (List ℕ)) (all : Survey) (held : Option (ℕ × List ℕ))
      → survey_from byte number before holder items ≡ Some (all, held) → Tells number before holder items all held
  unfolding survey_from each_of any_of all_of stride holder_from entry_told told_of
  survey_tells number before holder [] all held e =
      let same = some_pair before all holder held e in
      subst (λ a. Tells number before holder [] a held) same.0
      (subst (λ h. Tells number before holder [] before h) same.1
      (record {
        entries = [];
        are = refl;
        repeated = sym (or_false before.repeated);
        named = sym (and_true before.named);
        filled = sym (and_true before.filled);
        strided = larger_zero before.stride;
        kept = λ h q. q;
        first = λ q. rw q;
        holding = λ q k m z. absurd_numbers (cc);
      }))
  survey_tells number before holder (m ∷ ms) all held e =
      by (entry_at byte_view m) refl (λ b h f. survey_tells (suc number) b h ms all held f)
    where
      by : (o : Option Entry) → entry_at byte_view m ≡ o
          → ((b : Survey) (h : Option (ℕ × List ℕ)) → survey_from byte (suc number) b h ms ≡ Some (all, held) → Tells (suc number) b h ms all held)
          → Tells number before holder (m ∷ ms) all held
      by None q rest = let nothing = rw q at e in absurd_numbers (cc)
      by (Some y) q rest = one_tells number before holder m ms all held y q (rest _ _ (rw q at e))

  none_tells : (number : ℕ) (before : Survey) (holder : Option (ℕ × List ℕ)) (items : List (List ℕ))
      → survey_from byte number before holder items ≡ None → each_of (entry_at byte_view) items ≡ None
  unfolding survey_from each_of entry_told
  none_tells number before holder [] e = absurd_numbers (cc)
  none_tells number before holder (m ∷ ms) e = by (entry_at byte_view m) refl (λ b h f. none_tells (suc number) b h ms f)
    where
      by : (o : Option Entry) → entry_at byte_view m ≡ o
          → ((b : Survey) (h : Option (ℕ × List ℕ)) → survey_from byte (suc number) b h ms ≡ None → each_of (entry_at byte_view) ms ≡ None)
          → (if_there o λ y. over (λ ys. y ∷ ys) (each_of (entry_at byte_view) ms)) ≡ None
      by None q rest = refl
      by (Some y) q rest = rw (rest _ _ (rw q at e))

  pub all_surveyed : (items : List (List ℕ)) (all : Survey) (held : Option (ℕ × List ℕ)) → Some (all, held) ≡ surveyed byte items
      → Tells 0 no_entry None items all held
  unfolding surveyed
  all_surveyed items all held e = survey_tells 0 no_entry None items all held (sym e)

  pub not_surveyed : (items : List (List ℕ)) → None ≡ surveyed byte items → each_of (entry_at byte_view) items ≡ None
  unfolding surveyed
  not_surveyed items e = none_tells 0 no_entry None items (sym e)
