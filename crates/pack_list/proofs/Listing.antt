-- The list, from what its parts gave: the identifier, the entries that stand under their key, and what the survey of them told.
use Prim.Native.Nat.{ℕ, ◌≤◌}
use mathlib.Core.Bool.{Bool, true, false, cond, ◌||◌, not}
use mathlib.Core.List.{List, []}
use Rattle.std.specs.Prelude.{Option, None, Some, Result, Ok, Err}
use mathlib.Core.Path.{◌≡◌, refl, sym, ap, subst, ◌∙◌}
use native.Mathlib.Omega.{arith}
use borrow.Author.Tests.{le-leb}
use lib.ListN.{length, drop}
use Rattle.slices.specs.Logic.{absurd_numbers}
use Rattle.refusals.specs.Answers.{refused}
use Rattle.msgpack.specs.Lookup.{ValuePlace, found, missing, broken, last_value, at_place, if_there}
use Rattle.msgpack.specs.Pairs.{place_told}
use Rattle.msgpack.specs.Views.{repeats, front_of, byte_view}
use Rattle.identifier.specs.Ulid.{is_ulid}
use Rattle.primary.specs.Parts.{fills, Shape, shape_under, block_repeats, block}
use Rattle.primary.specs.Answers.{BlockInside, block_of}
use Rattle.primary.specs.declared.Texts.{Texts}
use Rattle.primary.specs.declared.Fault.{Fault as IdentifierFault}
use Rattle.primary.specs.declared.Fault.TheVariants as identifier-fault
use Rattle.pack_list.specs.Lists.{entries_key, list_keys, Entry, each_of, list_at, entry_at, entries_under, any_of, items_repeat, entries_repeat, list_repeats, all_of, is_filled, pack_list_by, pack_list}
use Rattle.pack_list.specs.Blocks.{stride}
use Rattle.pack_list.specs.Laws.{combined, list_together}
use Rattle.pack_list.specs.declared.Fault.{Fault}
use Rattle.pack_list.specs.declared.Fault.TheVariants as fault
use Rattle.pack_list.specs.declared.Numbers.{Numbers}
use Rattle.pack_list.specs.declared.Survey.{Survey}
use Rattle.pack_list.specs.declared.Held.{Held}
use Rattle.pack_list.specs.declared.PackList as listed
use Rattle.pack_list.specs.Answers.{number_of, numbers_place, items_in, WholeItems, no_entry, holder_of, holder_in, HolderInside, or_none, entry_items, entries_in, ListRead, list_by, ListInside, read_for, ReadFor, reading_of, ReadingInside}
use Rattle.pack_list.proofs.Surveys.{Tells, entry_held}

-- ---- the entries

module _ (s : List ℕ) where
  pub entries_broken : last_value entries_key s ≡ broken → entries_under byte_view s ≡ None
  unfolding entries_under
  entries_broken e = rw e

  module _ (place : ℕ) (told : last_value entries_key s ≡ place_told place) (items : Option (List (List ℕ)))
      (are : items ≡ at_place (Some []) (λ p. byte_view.items (drop p (drop 0 s))) (place_told place)) where
    pub entries_told : entries_under byte_view s ≡ if_there items (each_of (entry_at byte_view))
    unfolding entries_under list_at each_of
    entries_told = rw (told, are) (go (place_told place))
      where
        go : (u : ValuePlace) → at_place (Some []) (list_at byte_view (entry_at byte_view)) (front_of s u)
            ≡ if_there (at_place (Some []) (λ p. byte_view.items (drop p (drop 0 s))) u) (each_of (entry_at byte_view))
        go (found p) = refl
        go missing = refl
        go broken = refl

    pub items_told : or_none items ≡ entry_items s
    unfolding entry_items
    items_told = rw (told, are) (go (place_told place))
      where
        go : (u : ValuePlace)
            → or_none (at_place (Some []) (λ p. byte_view.items (drop p (drop 0 s))) u) ≡ or_none (at_place (Some []) byte_view.items (front_of s u))
        go (found p) = refl
        go missing = refl
        go broken = refl

    pub repeats_told : list_repeats byte_view s ≡ (repeats byte_view list_keys s || items_repeat byte_view items)
    unfolding list_repeats any_of
    repeats_told = ap (λ t. repeats byte_view list_keys s || t) (rw (told, are) (go (place_told place)))
      where
        go : (u : ValuePlace) → entries_repeat byte_view (front_of s u) ≡ items_repeat byte_view (at_place (Some []) (λ p. byte_view.items (drop p (drop 0 s))) u)
        go (found p) = refl
        go missing = refl
        go broken = refl

-- ---- refusals

module _ (s : List ℕ) (byte : ℕ) where
  pub refused_for : (f : Fault) → refused (number_of f) ≡ pack_list s → ReadFor s byte (Err f)
  refused_for f e =
      record {
        reads = e;
        inside = λ l n h q. absurd_numbers (cc);
        stride = λ l n h q. absurd_numbers (cc);
        held = λ l n h q. absurd_numbers (cc);
        holding = λ l n h q. absurd_numbers (cc);
      }

pub not_whole : (s : List ℕ) → fills s ≡ false → refused 16 ≡ pack_list s
unfolding pack_list
not_whole s e = rw e

pub no_entries_lem : (s : List ℕ) → fills s ≡ true → entries_under byte_view s ≡ None → refused 17 ≡ pack_list s
unfolding pack_list
no_entries_lem s w e = rw (w, e) (go (shape_under byte_view s))
  where
    go : (shape : Option Shape) → refused 17 ≡ pack_list_by shape None (block_repeats byte_view s || list_repeats byte_view s)
    go (Some i) = refl
    go None = refl

-- ---- by the identifier and by what all entries tell

abbrev Told : Type 0
Told = listed.PackList × ℕ × Option Held

record IsListed (identifier : Result Texts IdentifierFault) (entries : Numbers) (all : Survey) (holder : Option Held) (l : listed.PackList) (n : ℕ) (h : Option Held) : Type 0 where
  texts : Texts
  read : identifier ≡ Ok texts
  list : l ≡ record { identifier = texts; entries = entries }
  strided : n ≡ all.stride
  held : h ≡ holder
  filled : all.filled ≡ true

is_listed_lem : (identifier : Result Texts IdentifierFault) (entries : Numbers) (all : Survey) (holder : Option Held) (l : listed.PackList) (n : ℕ) (h : Option Held)
    → list_by identifier entries all holder ≡ Ok (l, n, h) → IsListed identifier entries all holder l n h
is_listed_lem (Err f) entries all holder l n h e = absurd_numbers (cc)
is_listed_lem (Ok t) entries all holder l n h e = by all.repeated all.named all.filled refl e
  where
    by : (repeated named filled : Bool) → all.filled ≡ filled
        → ◌≡◌ {A = ListRead}
        (cond repeated (Err (fault.Part identifier-fault.Repeated))
        (cond (not named) (Err (fault.Part identifier-fault.RuleBroken))
        (cond (not filled) (Err fault.Unfilled)
        (Ok (record { identifier = t; entries = entries }, all.stride, holder)))))
        (Ok (l, n, h))
        → IsListed (Ok t) entries all holder l n h
    by true named filled q f = absurd_numbers (cc)
    by false false filled q f = absurd_numbers (cc)
    by false true false q f = absurd_numbers (cc)
    by false true true q f =
        let same : ◌≡◌ {A = Told} (record { identifier = t; entries = entries }, all.stride, holder) (l, n, h) = cc in
        record {
          texts = t;
          read = refl;
          list = sym (ap (λ (r : Told). r.0) same);
          strided = sym (ap (λ (r : Told). r.1) same);
          held = sym (ap (λ (r : Told). r.2) same);
          filled = q;
        }

by_parts : (s : List ℕ) (entries : Numbers) (n : ℕ) (holder : Option Held) (es : List Entry) → entries_in s entries ≡ es
    → (identifier : Result Texts IdentifierFault) (repeated named filled : Bool) → named ≡ all_of (λ (e : Entry). is_ulid e.pack) es → filled ≡ all_of is_filled es
    → read_for s (list_by identifier entries (record { repeated = repeated; named = named; filled = filled; stride = n }) holder)
    ≡ combined (block_of s identifier) (Some es) repeated
by_parts s entries n holder es q (Err identifier-fault.NotWhole) repeated named filled p f = refl
by_parts s entries n holder es q (Err identifier-fault.NotAsDescribed) repeated named filled p f = refl
by_parts s entries n holder es q (Err identifier-fault.Repeated) true named filled p f = refl
by_parts s entries n holder es q (Err identifier-fault.Repeated) false named filled p f = refl
by_parts s entries n holder es q (Err identifier-fault.RuleBroken) true named filled p f = refl
by_parts s entries n holder es q (Err identifier-fault.RuleBroken) false named filled p f = refl
by_parts s entries n holder es q (Ok t) true named filled p f = refl
by_parts s entries n holder es q (Ok t) false false filled p f = rw (← p)
by_parts s entries n holder es q (Ok t) false true false p f = rw (← p, ← f)
by_parts s entries n holder es q (Ok t) false true true p f = rw (← p, ← f, q)

-- the entry that holds the byte is the one that its item is
held_is : (s : List ℕ) (h : Option Held) → HolderInside s h → holder_in s h ≡ entry_held (holder_of s h)
held_is s None i = refl
held_is s (Some x) i = let h = i.held x refl in rw (h.is, h.item)

module _ (s : List ℕ) (byte : ℕ) (identifier : Result Texts IdentifierFault) (names : block_of s identifier ≡ block s) (texts : BlockInside s identifier)
    (entries : Numbers) (placed : Some entries ≡ numbers_place entries_key s 0) (first : entries.first ≤ length s) (whole : WholeItems entries.count (drop entries.first s))
    (there : entries_under byte_view s ≡ each_of (entry_at byte_view) (items_in s entries)) (listed : items_in s entries ≡ entry_items s)
    (inside : Survey) (holder : Option Held) (t : Tells byte 0 no_entry None (items_in s entries) inside (holder_of s holder)) (holds : HolderInside s holder)
    (repeated : Bool) (repeats : list_repeats byte_view s ≡ repeated) where
  abbrev all : Survey
  all = record { repeated = repeated; named = inside.named; filled = inside.filled; stride = inside.stride }

  entries_are : entries_in s entries ≡ t.entries
  unfolding entries_in
  entries_are = rw t.are

  strided : inside.stride ≡ stride t.entries
  strided = t.strided ∙ rw (le-leb 0 (stride t.entries) (omega arith))

  pub list_for : (r : ListRead) → r ≡ list_by identifier entries all holder → ReadFor s byte r
  list_for r e =
      subst (ReadFor s byte) (sym e)
      (record {
        reads = by_parts s entries inside.stride holder t.entries entries_are identifier repeated inside.named inside.filled t.named t.filled
            ∙ sym (list_together s ∙ rw (← names, there, t.are, repeats));
        inside = λ l n h q.
            let i = is_listed_lem identifier entries all holder l n h q in
            rw i.list
            (record {
              identifier = texts.identifier i.texts i.read;
              place = placed;
              first = first;
              whole = whole;
              items = listed;
              are = t.are ∙ ap Some (sym entries_are);
            });
        stride = λ l n h q.
            let i = is_listed_lem identifier entries all holder l n h q in
            rw (i.list, entries_are) (i.strided ∙ strided);
        held = λ l n h q.
            let i = is_listed_lem identifier entries all holder l n h q in
            rw (i.list, i.held, entries_are) (held_is s holder holds ∙ sym (t.first refl));
        holding = λ l n h q.
            let i = is_listed_lem identifier entries all holder l n (Some h) q in
            let here = holds.held h (sym i.held) in
            let among = t.holding refl h.number (drop h.at s) (ap (holder_of s) (sym i.held)) in
            let same : among.entry ≡ here.entry = cc (among.is, here.item) in
            let counted = among.counted in
            let index : among.index ≡ h.number = omega arith in
            record {
              here = here;
              filled = rw (← same) (among.filled (sym t.filled ∙ i.filled));
              holds = rw (← same) among.holds;
              stands = among.item ∙ rw (index, listed);
            };
      })

-- ---- what is read

module _ (s : List ℕ) (byte : ℕ) (r : ListRead) (read : ReadFor s byte r) where
  pub reading_list : (l : listed.PackList) (n : ℕ) (h : Option Held) → r ≡ Ok (l, n, h)
      → (reading_of s (Ok l) ≡ pack_list s) × ReadingInside s (Ok l)
  reading_list l n h e = (
    sym (ap (read_for s) e) ∙ read.reads,
    record { list = λ x q. let same : l ≡ x = cc in subst (ListInside s) same (read.inside l n h e) },
  )

  pub reading_refused : (f : Fault) → r ≡ Err f
      → (reading_of s (Err f) ≡ pack_list s) × ReadingInside s (Err f)
  reading_refused f e = (sym (ap (read_for s) e) ∙ read.reads, record { list = λ x q. absurd_numbers (cc) })
