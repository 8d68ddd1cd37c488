-- How code walks the items of an array, one after the other: what is told of those from a place on is told of the item there and of those behind it.
-- With it the walk over the entries of a list that was read.
use Rattle.std.specs.Prelude.{ℕ, zero, suc, ◌+◌, ◌-◌, ◌≤◌, ◌<◌, List, [], ◌∷◌, ◌≡◌, refl, length, get_or, drop}
use Rattle.std.specs.Prelude.{Option, None, Some}
use Rattle.std.proofs.Common.{sym, ap, ◌∙◌, arith, length-drop, get_or-drop, drop-drop}
use Rattle.slices.specs.Logic.{absurd_numbers}
use Rattle.msgpack.specs.Items.{pass_items, pass_item, depth_allowed, pass_over, WholeItem}
use Rattle.msgpack.specs.Lookup.{if_there, over}
use Rattle.msgpack.specs.Pairs.{inside_allowed}
use Rattle.msgpack.specs.PassingLaws.{bounded, Joined, deeper}
use Rattle.msgpack.specs.ReaderLaws.{items_joined}
use Rattle.msgpack.specs.Readers.{Int, read_integer}
use Rattle.msgpack.specs.Views.{size_of, items_from, byte_view}
use Rattle.value.specs.Fields.{read_natural}
use Rattle.pack_list.specs.Lists.{Entry, each_of, entry_at}
use Rattle.pack_list.specs.Blocks.{blocks}
use Rattle.pack_list.specs.declared.Entry as placed
use Rattle.pack_list.specs.declared.PackList as listed
use Rattle.pack_list.specs.declared.NextEntry.{NextEntry}
use Rattle.pack_list.specs.Answers.{items_in, WholeItems, entry_of, EntryHere, EntryStands, entry_items, entries_in, ListInside, next_entry, next_of, NextInside}

-- ---- items

pub items_on : (s : List ℕ) (at n next : ℕ) → 0 < n → next ≡ at + size_of (pass_over (drop at s))
    → items_from n (drop at s) ≡ drop at s ∷ items_from (n - 1) (drop next s)
unfolding items_from
items_on s at zero next h e = absurd (omega arith)
items_on s at (suc n) next h e =
    let same : suc n - 1 ≡ n = omega arith in
    rw (same, e, drop-drop (size_of (pass_over (drop at s))) at s)

-- behind the last
pub none_left : {A : Type 0} (read : List ℕ → Option A) (s : List ℕ) (n : ℕ) → n ≡ 0 → each_of read (items_from n s) ≡ Some []
unfolding items_from each_of
none_left read s n e = rw e

module _ {A : Type 0} (read : List ℕ → Option A) (s : List ℕ) (at n next : ℕ) (some_left : 0 < n) (behind : next ≡ at + size_of (pass_over (drop at s))) where
  pub each_on : (a : A) → read (drop at s) ≡ Some a
      → each_of read (items_from n (drop at s)) ≡ over (λ found. a ∷ found) (each_of read (items_from (n - 1) (drop next s)))
  unfolding each_of
  each_on a e = rw (items_on s at n next some_left behind, e)

  pub each_stops : read (drop at s) ≡ None → each_of read (items_from n (drop at s)) ≡ None
  unfolding each_of
  each_stops e = rw (items_on s at n next some_left behind, e)

-- where each of the items could be read, the one at the place was, and those behind it
pub record FirstRead {A : Type 0} (read : List ℕ → Option A) (s : List ℕ) (at n next : ℕ) (found : List A) : Type 0 where
  pub first : A
  pub others : List A
  pub is : found ≡ first ∷ others
  pub reads : read (drop at s) ≡ Some first
  pub rest : each_of read (items_from (n - 1) (drop next s)) ≡ Some others

pub first_read : {A : Type 0} (read : List ℕ → Option A) (s : List ℕ) (at n next : ℕ) (found : List A)
    → 0 < n → next ≡ at + size_of (pass_over (drop at s)) → each_of read (items_from n (drop at s)) ≡ Some found → FirstRead read s at n next found
first_read {A} read s at n next found h b e = go (read (drop at s)) refl
  where
    with_others : (a : A) → read (drop at s) ≡ Some a → (o : Option (List A)) → each_of read (items_from (n - 1) (drop next s)) ≡ o
        → over (λ others. a ∷ others) o ≡ Some found → FirstRead read s at n next found
    with_others a q (Some others) r f = record { first = a; others = others; is = (cc); reads = q; rest = r }
    with_others a q None r f = absurd_numbers (cc)

    go : (o : Option A) → read (drop at s) ≡ o → FirstRead read s at n next found
    go (Some a) q = with_others a q (each_of read (items_from (n - 1) (drop next s))) refl (sym (each_on read s at n next h b a q) ∙ e)
    go None q = let stops = each_stops read s at n next h b q in absurd_numbers (cc)

-- as many as are counted
pub items_count : (n : ℕ) (s : List ℕ) → length (items_from n s) ≡ n
unfolding items_from
items_count zero s = refl
items_count (suc n) s = ap suc (items_count n _)

one_more : {B : Type 0} (y : Option B) (rest : Option (List B)) (n : ℕ) (ys : List B) → ((zs : List B) → rest ≡ Some zs → length zs ≡ n)
    → (if_there y λ a. over (λ found. a ∷ found) rest) ≡ Some ys → length ys ≡ suc n
one_more (Some y) (Some zs) n ys h e = let same : y ∷ zs ≡ ys = cc in rw (← same) (ap suc (h zs refl))
one_more (Some y) None n ys h e = absurd_numbers (cc)
one_more None rest n ys h e = absurd_numbers (cc)

pub each_count : {A B : Type 0} (read : A → Option B) (xs : List A) (ys : List B) → each_of read xs ≡ Some ys → length ys ≡ length xs
unfolding each_of
each_count read [] ys e = let same : [] ≡ ys = cc in rw (← same)
each_count read (x ∷ xs) ys e = one_more (read x) (each_of read xs) (length xs) ys (each_count read xs) e

-- ---- whole items, one after the other

module _ (n : ℕ) (s : List ℕ) (some_left : 0 < n) (w : WholeItems n s) where
  first_joined : Joined (pass_item inside_allowed s) (λ k. pass_items (pass_item inside_allowed) (n - 1) (drop k s)) w.size
  first_joined = items_joined n s w.size some_left w.is

  pub first_whole : WholeItem s
  first_whole = let j = first_joined in record { size = j.first; is = deeper inside_allowed s j.first j.is }

  pub others_whole : WholeItems (n - 1) (drop (size_of (pass_over s)) s)
  others_whole =
      let j = first_joined in
      rw (deeper inside_allowed s j.first j.is) (record { size = j.after; is = j.rest })

-- ---- what stands at the places of an entry

pub record EntryIs (s : List ℕ) (e : placed.Entry) (x : Entry) : Type 0 where
  pub lengths : each_of read_natural (items_in s e.lengths) ≡ Some x.lengths
  pub deltas : each_of read_integer (items_in s e.deltas) ≡ Some x.deltas
  pub source : e.source ≡ x.source
  pub stored : e.stored ≡ x.stored

pub entry_is : (s : List ℕ) (e : placed.Entry) (x : Entry) → entry_of s e ≡ Some x → EntryIs s e x
unfolding entry_of
entry_is s e x h = go (each_of read_natural (items_in s e.lengths)) refl (each_of read_integer (items_in s e.deltas)) refl
  where
    go : (o : Option (List ℕ)) → each_of read_natural (items_in s e.lengths) ≡ o → (p : Option (List Int)) → each_of read_integer (items_in s e.deltas) ≡ p
        → EntryIs s e x
    go None a p b = let never = rw a at h in absurd_numbers (cc)
    go (Some ls) a None b = let never = rw (a, b) at h in absurd_numbers (cc)
    go (Some ls) a (Some ds) b =
        let same = rw (a, b) at h in
        record {
          lengths = a ∙ (cc);
          deltas = b ∙ (cc);
          source = (cc);
          stored = (cc);
        }

-- ---- an item's place settles where what an entry tells stands

pub places_settled : (s : List ℕ) (at : ℕ) (e f : placed.Entry) → EntryHere s at e → EntryHere s at f
    → (e.pack ≡ f.pack) × ((e.lengths ≡ f.lengths) × (e.deltas ≡ f.deltas))
places_settled s at e f h k =
    let packs : Some e.pack ≡ Some f.pack = h.pack ∙ sym k.pack in
    let lengths : Some e.lengths ≡ Some f.lengths = h.lengths ∙ sym k.lengths in
    let deltas : Some e.deltas ≡ Some f.deltas = h.deltas ∙ sym k.deltas in
    (cc, (cc, cc))

-- ---- the entries of a list

-- those from the k-th on, which stands at a place: so many items, read as these entries
pub record EntriesFrom (s : List ℕ) (k at n : ℕ) (es : List Entry) : Type 0 where
  pub within : at ≤ length s
  pub whole : WholeItems n (drop at s)
  pub items : items_from n (drop at s) ≡ drop k (entry_items s)
  pub are : each_of (entry_at byte_view) (items_from n (drop at s)) ≡ Some es

-- all of them, from the first on
pub walk_start : (s : List ℕ) (l : listed.PackList) → ListInside s l
    → EntriesFrom s 0 l.entries.first l.entries.count (entries_in s l.entries)
walk_start s l i = record { within = i.first; whole = i.whole; items = i.items; are = i.are }

-- behind the last none is left
pub walk_end : (s : List ℕ) (k at : ℕ) (es : List Entry) → EntriesFrom s k at 0 es → es ≡ []
unfolding items_from each_of
walk_end s k at es f = let nothing = f.are in cc

-- what is told at the place is the first of them, and the walk goes on behind it
pub record Walked (s : List ℕ) (k at n : ℕ) (es : List Entry) (r : Option NextEntry) : Type 0 where
  pub given : NextEntry
  pub is : r ≡ Some given
  pub first : Entry
  pub others : List Entry
  pub are : es ≡ first ∷ others
  pub told : entry_at byte_view (drop at s) ≡ Some first
  pub reads : entry_of s given.entry ≡ Some first
  pub as_many : given.blocks ≡ blocks first
  pub stands : EntryStands s k given.entry
  pub rest : EntriesFrom s (k + 1) given.next (n - 1) others

module _ (s : List ℕ) (k at n : ℕ) (es : List Entry) (f : EntriesFrom s k at n es) (some_left : 0 < n) where
  item_whole : WholeItem (drop at s)
  item_whole = first_whole n (drop at s) some_left f.whole

  abbrev behind : ℕ
  behind = at + size_of (pass_over (drop at s))

  read : FirstRead (entry_at byte_view) s at n behind es
  read = first_read (entry_at byte_view) s at n behind es some_left refl f.are

  cut : drop at s ∷ items_from (n - 1) (drop behind s) ≡ drop k (entry_items s)
  cut = sym (items_on s at n behind some_left refl) ∙ f.items

  item : drop at s ≡ get_or (entry_items s) k []
  item =
      let here : k + 0 ≡ k = omega arith in
      ap (λ (xs : List (List ℕ)). get_or xs 0 []) cut ∙ get_or-drop k (entry_items s) 0 [] ∙ rw here

  others_from : EntriesFrom s (k + 1) behind (n - 1) read.others
  others_from =
      let w = item_whole in
      let taken = bounded depth_allowed (drop at s) w.size w.is in
      record {
        within = rw w.is (omega (arith, taken.within, length-drop at s, f.within));
        whole = rw (← drop-drop (size_of (pass_over (drop at s))) at s) (others_whole n (drop at s) some_left f.whole);
        items = ap (λ (xs : List (List ℕ)). drop 1 xs) cut ∙ drop-drop 1 k (entry_items s);
        are = read.rest;
      }

  next_is : next_entry s at ≡ Some (read.first, behind)
  unfolding next_entry
  next_is = let w = item_whole in rw (w.is, read.reads)

  pub walk_on : (r : Option NextEntry) → next_of s r ≡ next_entry s at → NextInside s at r → Walked s k at n es r
  walk_on r told inside = by r (told ∙ next_is) inside
    where
      by : (x : Option NextEntry) → next_of s x ≡ Some (read.first, behind) → NextInside s at x → Walked s k at n es x
      by None q i = absurd_numbers (cc)
      by (Some g) q i = with_entry (entry_of s g.entry) refl q
        where
          with_entry : (o : Option Entry) → entry_of s g.entry ≡ o → over {B = Entry × ℕ} (λ x. (x, g.next)) o ≡ Some (read.first, behind)
              → Walked s k at n es (Some g)
          with_entry None p v = absurd_numbers (cc)
          with_entry (Some x) p v =
              let pair : ◌≡◌ {A = Entry × ℕ} (x, g.next) (read.first, behind) = cc in
              let place : g.next ≡ behind = ap (λ (y : Entry × ℕ). y.1) pair in
              let w = item_whole in
              let taken = bounded depth_allowed (drop at s) w.size w.is in
              let reads = p ∙ ap (λ (y : Entry × ℕ). Some y.0) pair in
              record {
                given = g;
                is = refl;
                first = read.first;
                others = read.others;
                are = read.is;
                told = read.reads;
                reads = reads;
                as_many = i.blocks g refl read.first reads;
                stands = record {
                  at = at;
                  within = omega (arith, taken.some_byte, taken.within, length-drop at s);
                  item = item;
                  here = i.here g refl;
                };
                rest = rw place others_from;
              }
