-- The words of a list's entries, filled in entry by entry: what the whole leaves is what the rest leaves from here. With it the answer of
-- `vof_pack_list`, and the lent words at exit, from what was read.
use Prim.Native.Nat.{ℕ, ◌+◌, ◌-◌, ◌*◌, ◌/◌, ◌%◌, ◌^◌, ◌≤◌, ◌<◌}
use mathlib.Core.List.{List, [], ◌∷◌, ◌++◌}
use Rattle.std.specs.Prelude.{Option, None, Some, Result, Ok}
use mathlib.Core.Path.{◌≡◌, refl, sym, ap, ◌∙◌}
use native.Mathlib.Omega.{arith}
use borrow.Author.Tests.{le-leb, lt-leb}
use lib.ListN.{length, drop}
use Rattle.slices.specs.Bytes.{AllBytes}
use Rattle.slices.specs.Logic.{absurd_numbers}
use Rattle.slices.specs.Overwriting.{overwritten, written_bytes, written_within, length_overwritten, overwritten_more, none_overwritten}
use Rattle.refusals.specs.Answers.{granted, refused}
use Rattle.msgpack.specs.Views.{byte_view}
use Rattle.pack_list.specs.Lists.{Entry, entry_at, pack_list}
use Rattle.pack_list.specs.Blocks.{blocks}
use Rattle.pack_list.specs.Answers.{entry_of, entries_in, list_in, ListInside, next_entry, next_of, NextInside, reading_of, ReadingInside}
use Rattle.pack_list.specs.Walks.{items_count, each_count, entry_is, EntriesFrom, walk_end, Walked, walk_on}
use Rattle.pack_list.specs.Counts.{entries_few}
use Rattle.pack_list.specs.declared.Numbers.{Numbers}
use Rattle.pack_list.specs.declared.Entry as placed
use Rattle.pack_list.specs.declared.PackList as listed
use Rattle.pack_list.specs.declared.NextEntry.{NextEntry}
use Rattle.pack_list.specs.declared.Fault.{Fault}
use Rattle.words.specs.Words.{answer, answer_whole}
use Rattle.capi_pack_list.specs.PackLists.{pack_start, entry_words, list_words, list_answer, list_told}
use Rattle.capi_pack_list.proofs.PackLists.{start_told}

length_words : (s : List ℕ) (number : ℕ) (es : List Entry) → length (list_words s number es) ≡ 6 * length es
unfolding list_words
length_words s number [] = refl
length_words s number (e ∷ es) = omega (arith, length_words s (number + 1) es)

-- as many entries as are counted
entries_count : (s : List ℕ) (l : listed.PackList) → ListInside s l → length (entries_in s l.entries) ≡ l.entries.count
entries_count s l i = each_count (entry_at byte_view) _ _ i.are ∙ items_count l.entries.count (drop l.entries.first s)

pub count_few : (s : List ℕ) → AllBytes s → (l : listed.PackList) → ListInside s l → l.entries.count < 2 ^ 33
count_few s bytes l i =
    omega (arith, items_count l.entries.count (drop l.entries.first s), ap length i.items, entries_few s bytes)

module _ (s : List ℕ) (n : Numbers) where
  abbrev all : List Entry
  all = entries_in s n

  -- i entries have been passed, and the next stands at `at`
  pub record FilledTo (before told : List ℕ) (i at : ℕ) : Type 0 where
    pub passed : i ≤ n.count
    pub long : length told ≡ length before
    pub others : List Entry
    pub left : EntriesFrom s i at (n.count - i) others
    pub count : length others ≡ n.count - i
    pub goes : overwritten before 0 (list_words s 0 all) ≡ overwritten told (6 * i) (list_words s i others)

  pub starts : EntriesFrom s 0 n.first n.count all → (told : List ℕ) → FilledTo told told 0 n.first
  starts left told =
      let same : n.count - 0 ≡ n.count = omega arith in
      record {
        passed = omega arith;
        long = refl;
        others = all;
        left = rw same left;
        count = rw same (each_count (entry_at byte_view) _ _ left.are ∙ items_count n.count (drop n.first s));
        goes = refl;
      }

  module _ (before : List ℕ) (fits : 6 * n.count ≤ length before) (told : List ℕ) (i at : ℕ) (f : FilledTo before told i at) where
    pub ends : n.count ≤ i → told ≡ overwritten before 0 (list_words s 0 all)
    unfolding list_words
    ends h =
        let none_left : n.count - i ≡ 0 = omega arith in
        let empty : f.others ≡ [] = walk_end s i at f.others (rw none_left at f.left) in
        sym (f.goes ∙ rw (empty, none_overwritten))

    module _ (h : i < n.count) (r : Option NextEntry) (told-next : next_of s r ≡ next_entry s at) (here : NextInside s at r) where
      walked : Walked s i at (n.count - i) f.others r
      walked = walk_on s i at (n.count - i) f.others f.left (omega arith) r told-next here

      -- there is an entry
      pub not_missing : r ≡ None → ⊥
      not_missing e = let is = walked.is in absurd_numbers (cc)

      module _ (g : NextEntry) (is : r ≡ Some g) where
        same_given : walked.given ≡ g
        same_given = let w = walked.is in cc

        abbrev e : placed.Entry
        e = g.entry

        reads : entry_of s e ≡ Some walked.first
        reads = rw (← same_given) walked.reads

        as_many : g.blocks ≡ blocks walked.first
        as_many = rw (← same_given) walked.as_many

        -- its words, as the code has them
        abbrev here_words : List ℕ
        here_words = e.pack.start ∷ e.source.start ∷ e.source.len ∷ e.stored.start ∷ e.stored.len ∷ g.blocks ∷ []

        words_are : here_words ≡ entry_words (pack_start s i) walked.first
        words_are =
            let w = entry_is s e walked.first reads in
            rw (start_told s i e (rw (← same_given) walked.stands), w.source, w.stored, as_many)

        pub goes_on : (now : List ℕ) → now ≡ written_bytes told (6 * i) here_words → FilledTo before now (i + 1) g.next
        unfolding list_words
        goes_on now put =
            let room : 6 * i + 6 ≤ length told = omega (arith, f.long) in
            let e : now ≡ overwritten told (6 * i) here_words = put ∙ written_within told (6 * i) here_words room in
            let rest = walked.others in
            let left : n.count - i - 1 ≡ n.count - (i + 1) = omega arith in
            let cut = walked.are in
            let fewer : length rest ≡ n.count - (i + 1) = omega (arith, ap length cut, f.count) in
            let long = length_words s (i + 1) rest in
            let place : 6 * i + 6 ≡ 6 * (i + 1) = omega arith in
            record {
              passed = omega arith;
              long = ap length e ∙ length_overwritten told (6 * i) here_words room ∙ f.long;
              others = rest;
              left = rw (← same_given, ← left) walked.rest;
              count = fewer;
              goes = f.goes ∙ ap (λ (es : List Entry). overwritten told (6 * i) (list_words s i es)) cut
                  ∙ ap (λ (ws : List ℕ). overwritten told (6 * i) (ws ++ list_words s (i + 1) rest)) (sym words_are)
                  ∙ rw (e, ← place) (sym (overwritten_more told (6 * i) here_words (list_words s (i + 1) rest) (omega (arith, f.long))));
            }

-- ---- the answer

-- `r` is what the code read
module _ (s : List ℕ) (bytes : AllBytes s) (words : List ℕ) (r : Result listed.PackList Fault) (reads : reading_of s r ≡ pack_list s) (inside : ReadingInside s r) where
  -- what is answered, and what is left
  abbrev Tells : ℕ → List ℕ → Type 0
  Tells x left = (x ≡ list_answer (pack_list s) (length words)) × (left ≡ list_told s (pack_list s) words)

  pub list_refused : (n : ℕ) → reading_of s r ≡ refused n → n < 256 → Tells (answer n 0 % 2 ^ 64) words
  list_refused n is small = rw (answer_whole n 0 small (omega arith), sym reads ∙ is) (refl, refl)

  module _ (l : listed.PackList) (is : r ≡ Ok l) where
    pub list_inside : ListInside s l
    list_inside = inside.list l is

    list_is : pack_list s ≡ granted (list_in s l)
    list_is = sym reads ∙ ap (reading_of s) is

    pub list_short : length words / 6 < l.entries.count → Tells (answer 19 0) words
    list_short h = rw (list_is, entries_count s l list_inside, lt-leb l.entries.count (length words / 6) h) (refl, refl)

    pub list_filled : l.entries.count ≤ length words / 6
        → Tells (answer 0 l.entries.count % 2 ^ 64) (overwritten words 0 (list_words s 0 (entries_in s l.entries)))
    list_filled h =
        let few = count_few s bytes l list_inside in
        rw (answer_whole 0 l.entries.count (omega arith) (omega arith), list_is, entries_count s l list_inside, le-leb l.entries.count (length words / 6) h) (refl, refl)
