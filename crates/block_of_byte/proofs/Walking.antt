-- The block of an entry that holds a byte: what all its lengths and deltas tell is what those that are left tell, after the block found before them.
use Prim.Native.Nat.{ℕ, zero, suc, ◌+◌, ◌-◌, ◌≤◌, ◌<◌}
use mathlib.Core.Bool.{Bool, true, false, cond}
use mathlib.Core.List.{List, [], ◌∷◌}
use Rattle.std.specs.Prelude.{Option, None, Some, Ok, Err}
use mathlib.Core.Path.{◌≡◌, refl, sym, ap, subst, ◌∙◌}
use native.Mathlib.Numerals.{add-one}
use native.Mathlib.Omega.{arith}
use borrow.Author.Tests.{ltb-true, ltb-false, lt-ltb, leb-true, le-leb, leb-false, lt-leb}
use lib.Dec.{ltb, leb}
use lib.ListN.{length, drop, length-drop}
use Rattle.slices.specs.Logic.{absurd_numbers, both}
use Rattle.refusals.specs.Answers.{granted, refused, or_else}
use Rattle.msgpack.specs.Items.{depth_allowed, pass_over}
use Rattle.msgpack.specs.PassingLaws.{bounded}
use Rattle.msgpack.specs.Readers.{Int, plus, read_integer}
use Rattle.msgpack.specs.Lookup.{if_there, over}
use Rattle.msgpack.specs.Views.{size_of, items_from}
use Rattle.value.specs.Fields.{read_natural}
use Rattle.pack_list.specs.Lists.{range, Entry, each_of, sum, greatest}
use Rattle.pack_list.specs.Blocks.{stored_from, stored_lengths, blocks, is_counted, holds}
use Rattle.pack_list.specs.Stride.{counted_is}
use Rattle.block_of_byte.specs.Finding.{moved, first_delta, other_deltas, sources_from, sources, block_from, block_in, found_in, find}
use Rattle.pack_list.specs.Reading.{filled_is}
use Rattle.pack_list.specs.declared.Numbers.{Numbers}
use Rattle.pack_list.specs.declared.Range.{Range}
use Rattle.pack_list.specs.declared.Entry as placed
use Rattle.pack_list.specs.declared.Held.{Held}
use Rattle.pack_list.specs.declared.PackList as listed
use Rattle.block_of_byte.specs.declared.Block.{Block}
use Rattle.pack_list.specs.declared.Fault.{Fault}
use Rattle.block_of_byte.specs.declared.Found.TheVariants as found-answer
use Rattle.pack_list.specs.Answers.{items_in, entry_of, number_of, held_of, holder_in, HeldIs, ListRead, ReadFor, EntryStands}
use Rattle.block_of_byte.specs.Answers.{block_at, noted_of, moved_by, at_most, Offset, found_of, FoundStands, find_in}
use Rattle.pack_list.specs.Walks.{none_left, FirstRead, first_read, items_count, each_count, entry_is}

-- ---- the lengths and deltas that are left

at_most_is : (left : ℕ) (o : Option ℕ) (n : ℕ) → at_most left o ≡ Some n → (o ≡ Some n) × (n ≤ left)
at_most_is left None n e = absurd_numbers (cc)
at_most_is left (Some m) n e = go (leb m left) refl e
  where
    go : (t : Bool) → leb m left ≡ t → cond t (Some m) None ≡ Some n → (Some m ≡ Some n) × (n ≤ left)
    go true l f = let same : m ≡ n = cc in (f, omega (arith, leb-true m left l))
    go false l f = absurd_numbers (cc)

-- the length of the k-th block
abbrev pub length_read : List ℕ → Numbers → ℕ → ℕ → Option ℕ
length_read s lengths k at = cond (leb lengths.count k) None (read_natural (drop at s))

-- the delta of the k-th block
abbrev pub delta_read : List ℕ → Numbers → ℕ → ℕ → Option Int
delta_read s deltas k delta = cond (leb deltas.count k) (Some (plus 0)) (read_integer (drop delta s))

abbrev pub delta_after : List ℕ → Numbers → ℕ → ℕ → ℕ
delta_after s deltas k delta = cond (leb deltas.count k) delta (delta + size_of (pass_over (drop delta s)))

record FirstDelta (s : List ℕ) (deltas : Numbers) (k delta : ℕ) (ds : List Int) : Type 0 where
  is : delta_read s deltas k delta ≡ Some (first_delta ds)
  others : each_of read_integer (items_from (deltas.count - (k + 1)) (drop (delta_after s deltas k delta) s)) ≡ Some (other_deltas ds)

first_delta_lem : (s : List ℕ) (deltas : Numbers) (k delta : ℕ) (ds : List Int) → each_of read_integer (items_from (deltas.count - k) (drop delta s)) ≡ Some ds
    → FirstDelta s deltas k delta ds
first_delta_lem s deltas k delta ds e = go (leb deltas.count k) refl
  where
    go : (t : Bool) → leb deltas.count k ≡ t → FirstDelta s deltas k delta ds
    go true l =
        let h = leb-true deltas.count k l in
        let none_here = none_left read_integer (drop delta s) (deltas.count - k) (omega arith) in
        let empty : [] ≡ ds = cc in
        subst (FirstDelta s deltas k delta) empty
        (record { is = rw l; others = none_left read_integer _ (deltas.count - (k + 1)) (omega arith) })
    go false l =
        let h = leb-false deltas.count k l in
        let f = first_read read_integer s delta (deltas.count - k) _ ds (omega arith) refl e in
        let left : deltas.count - k - 1 ≡ deltas.count - (k + 1) = omega arith in
        rw f.is (record { is = rw l f.reads; others = rw (l, ← left) f.rest })

-- ---- one block more, or none

module _ (stride source m : ℕ) (ds : List Int) where
  sources_stop : at_most source (moved stride (first_delta ds)) ≡ None → sources_from stride source (suc m) ds ≡ None
  unfolding sources_from
  sources_stop e = go (moved stride (first_delta ds)) e
    where
      go : (o : Option ℕ) → at_most source o ≡ None
          → (if_there o λ n. cond (leb n source) (over (λ ns. n ∷ ns) (sources_from stride (source - n) m (other_deltas ds))) None) ≡ None
      go None f = refl
      go (Some n) f = tested (leb n source) f
        where
          tested : (t : Bool) → cond t (Some n) None ≡ None → cond t (over (λ ns. n ∷ ns) (sources_from stride (source - n) m (other_deltas ds))) None ≡ None
          tested true g = absurd_numbers (cc)
          tested false g = refl

  sources_on : (n : ℕ) → at_most source (moved stride (first_delta ds)) ≡ Some n
      → sources_from stride source (suc m) ds ≡ over (λ ns. n ∷ ns) (sources_from stride (source - n) m (other_deltas ds))
  unfolding sources_from
  sources_on n e = let o = at_most_is source (moved stride (first_delta ds)) n e in rw (o.0, le-leb n source o.1)

-- at most one block more than lengths are listed
stored_most : (left : ℕ) (ls : List ℕ) → length (stored_from left ls) ≤ suc (length ls)
unfolding stored_from
stored_most zero [] = omega arith
stored_most (suc left) [] = omega arith
stored_most left (l ∷ ls) = let h = stored_most (left - l) ls in omega arith

none_more : (left : ℕ) (ls : List ℕ) → length (stored_from left ls) ≡ 0 → left ≡ 0
unfolding stored_from
none_more zero [] h = refl
none_more (suc left) [] h = absurd (omega arith)
none_more left (l ∷ ls) h = absurd (omega arith)

no_lengths : (left : ℕ) (ls : List ℕ) → length (stored_from left ls) ≡ 0 → stored_from left ls ≡ []
no_lengths left ls h = go (stored_from left ls) h
  where
    go : (ns : List ℕ) → length ns ≡ 0 → ns ≡ []
    go [] h = refl
    go (n ∷ ns) h = absurd (omega arith)

-- the last block has all that is left
last_stored : (left : ℕ) (ls : List ℕ) → sum ls ≤ left → length (stored_from left ls) ≡ 1 → stored_from left ls ≡ left ∷ []
unfolding stored_from sum
last_stored zero [] h one = absurd (omega arith)
last_stored (suc left) [] h one = refl
last_stored left (l ∷ ls) h one =
    let nothing : length (stored_from (left - l) ls) ≡ 0 = omega arith in
    let rest = none_more (left - l) ls nothing in
    let same : l ≡ left = omega arith in
    rw (no_lengths (left - l) ls nothing, same)

-- the block of a number, where no block before it holds the byte
module _ (number start behind stored l n : ℕ) (ls : List ℕ) where
  abbrev this : Block
  this = record { number = number; stored = range start l }

  held_on : (o : Option (List ℕ)) (found : Option Block)
      → (if_there (over (λ ns. n ∷ ns) o) λ ns. or_else found (block_from number start behind ns (stored_from stored (l ∷ ls))))
      ≡ (if_there o λ ns. or_else (noted_of found (ltb behind n) this) (block_from (number + 1) (start + l) (behind - n) ns (stored_from (stored - l) ls)))
  unfolding block_from stored_from
  held_on None found = refl
  held_on (Some ns) (Some b) = refl
  held_on (Some ns) None = rw (add-one number) (go (ltb behind n))
    where
      go : (t : Bool)
          → cond t (Some this) (block_from (suc number) (start + l) (behind - n) ns (stored_from (stored - l) ls))
          ≡ or_else (cond t (Some this) None) (block_from (suc number) (start + l) (behind - n) ns (stored_from (stored - l) ls))
      go true = refl
      go false = refl

not_noted : (found : Option Block) (t : Bool) (b : Block) → noted_of found t b ≡ None → (found ≡ None) × (t ≡ false)
not_noted (Some x) t b e = absurd_numbers (cc)
not_noted None true b e = absurd_numbers (cc)
not_noted None false b e = (refl, refl)

-- ---- the walk

module _ (s : List ℕ) (stride offset : ℕ) (lengths deltas : Numbers) (last : ℕ) where
  -- by the lengths and deltas of an entry with these ranges, and so many blocks before the last
  abbrev pub block_by : (start stored source : ℕ) → Option Block
  block_by start stored source =
      if_there (each_of read_natural (items_in s lengths)) λ ls.
      if_there (each_of read_integer (items_in s deltas)) λ ds.
      if_there (sources_from stride source last ds) λ ns.
      block_from 0 start offset ns (stored_from stored ls)

  module _ (start₀ stored₀ source₀ : ℕ) where
    -- before the k-th block; the byte is in none before it, or in the one found
    pub record WalkedTo (start stored source behind at delta k : ℕ) (found : Option Block) : Type 0 where
      pub ls : List ℕ
      pub ds : List Int
      pub lengths_left : each_of read_natural (items_from (lengths.count - k) (drop at s)) ≡ Some ls
      pub deltas_left : each_of read_integer (items_from (deltas.count - k) (drop delta s)) ≡ Some ds
      pub most : k ≤ last
      pub blocks_left : length (stored_from stored ls) + k ≡ suc last
      pub fit : sum ls ≤ stored
      pub end : start + stored ≤ greatest
      pub below : found ≡ None → behind < source
      pub answer : block_by start₀ stored₀ source₀
          ≡ if_there (sources_from stride source (last - k) ds) λ ns. or_else found (block_from k start behind ns (stored_from stored ls))

    module _ (start stored source behind at delta k : ℕ) (found : Option Block) (w : WalkedTo start stored source behind at delta k found) where
      module _ (h : k < last) where
        some_length : 0 < lengths.count - k
        some_length =
            let all = w.blocks_left in
            omega (arith, stored_most stored w.ls, each_count read_natural _ w.ls w.lengths_left, items_count (lengths.count - k) (drop at s))

        first_length : FirstRead read_natural s at (lengths.count - k) (at + size_of (pass_over (drop at s))) w.ls
        first_length = first_read read_natural s at (lengths.count - k) _ w.ls some_length refl w.lengths_left

        pub length_read_lem : (o : Option ℕ) → o ≡ length_read s lengths k at → read_natural (drop at s) ≡ o
        length_read_lem o e = sym (e ∙ rw (lt-leb lengths.count k (omega (arith, some_length))))

        one_more : last - k ≡ suc (last - (k + 1))
        one_more = omega arith

        -- there is a length
        pub length_there : read_natural (drop at s) ≡ None → ⊥
        length_there e = let f = first_length.reads in absurd_numbers (cc)

        pub length_fits : (len : ℕ) → read_natural (drop at s) ≡ Some len → len ≤ stored
        unfolding sum
        length_fits len e =
            let f = first_length in
            let same : f.first ≡ len = cc f.reads in
            let fit = rw f.is at w.fit in
            omega arith

        pub source_fits : (n : ℕ) → Some n ≡ at_most source (moved_by stride (delta_read s deltas k delta)) → n ≤ source
        source_fits n e = (at_most_is source (moved_by stride (delta_read s deltas k delta)) n (sym e)).1

        -- a block that would be below 0
        pub stops : None ≡ at_most source (moved_by stride (delta_read s deltas k delta)) → None ≡ block_by start₀ stored₀ source₀
        stops q =
            let d = first_delta_lem s deltas k delta w.ds w.deltas_left in
            sym (w.answer ∙ rw (one_more, sources_stop stride source (last - (k + 1)) w.ds (rw d.is at (sym q))))

        pub goes_on : (len n : ℕ) → read_natural (drop at s) ≡ Some len → Some n ≡ at_most source (moved_by stride (delta_read s deltas k delta))
            → (noted : Option Block) → noted ≡ noted_of found (ltb behind n) (record { number = k; stored = range start len })
            → (next following : ℕ) → next ≡ at + size_of (pass_over (drop at s)) → following ≡ delta_after s deltas k delta
            → WalkedTo (start + len) (stored - len) (source - n) (behind - n) next following (k + 1) noted
        unfolding sum stored_from
        goes_on len n e q noted r next following a b =
            let f = first_length in
            let d = first_delta_lem s deltas k delta w.ds w.deltas_left in
            let same : f.first ≡ len = cc f.reads in
            let cut : w.ls ≡ len ∷ f.others = f.is ∙ ap (λ x. x ∷ f.others) same in
            let fit = rw cut at w.fit in
            let all = rw cut at w.blocks_left in
            let moves : at_most source (moved stride (first_delta w.ds)) ≡ Some n = rw d.is at (sym q) in
            let m = at_most_is source (moved stride (first_delta w.ds)) n moves in
            let left : lengths.count - k - 1 ≡ lengths.count - (k + 1) = omega arith in
            let end = w.end in
            record {
              ls = f.others;
              ds = other_deltas w.ds;
              lengths_left = rw (a, ← left) f.rest;
              deltas_left = rw b d.others;
              most = omega arith;
              blocks_left = omega arith;
              fit = omega arith;
              end = omega arith;
              below = λ z.
                  let p = not_noted found (ltb behind n) _ (sym r ∙ z) in
                  omega (arith, w.below p.0, ltb-false behind n p.1);
              answer = w.answer
                  ∙ ap (λ x. if_there (sources_from stride source (last - k) w.ds) λ ns.
                  or_else found (block_from k start behind ns (stored_from stored x))) cut
                  ∙ rw (r, one_more, sources_on stride source (last - (k + 1)) w.ds n moves)
                  (held_on k start behind stored len n f.others (sources_from stride (source - n) (last - (k + 1)) (other_deltas w.ds)) found);
            }

      pub ends : last ≤ k → (noted : Option Block) → noted ≡ noted_of found true (record { number = last; stored = range start stored })
          → noted ≡ block_by start₀ stored₀ source₀
      unfolding sources_from block_from
      ends h noted r =
          let most = w.most in
          let all = w.blocks_left in
          let none_left : last - k ≡ 0 = omega arith in
          let same : k ≡ last = omega arith in
          let here : noted ≡ noted_of found true (record { number = k; stored = range start stored }) = rw same r in
          here ∙ go found w.below ∙ sym (w.answer ∙ rw (none_left, last_stored stored w.ls w.fit (omega arith)))
        where
          go : (o : Option Block) → (o ≡ None → behind < source)
              → noted_of o true (record { number = k; stored = range start stored })
              ≡ or_else o (cond (ltb behind source) (Some (record { number = k; stored = range start stored })) None)
          go (Some x) l = refl
          go None l = rw (lt-ltb behind source (l refl))

-- before the first block
module _ (s : List ℕ) (e : placed.Entry) (n stride offset : ℕ) (o : Offset s e n offset) where
  pub walk_starts : WalkedTo s stride offset e.lengths e.deltas (n - 1) e.stored.start e.stored.len e.source.len
      e.stored.start e.stored.len e.source.len offset e.lengths.first e.deltas.first 0 None
  unfolding blocks stored_lengths
  walk_starts =
      let i = entry_is s e o.entry o.is in
      let rules = filled_is o.entry o.filled in
      let all : e.lengths.count - 0 ≡ e.lengths.count = omega arith in
      let each : e.deltas.count - 0 ≡ e.deltas.count = omega arith in
      let strided : n - 1 - 0 ≡ n - 1 = omega arith in
      record {
        ls = o.entry.lengths;
        ds = o.entry.deltas;
        lengths_left = rw all i.lengths;
        deltas_left = rw each i.deltas;
        most = omega arith;
        blocks_left = rw i.stored (omega (arith, o.as_many, o.some_block));
        fit = rw i.stored rules.listed;
        end = rw i.stored rules.stored_ends;
        below = λ z. rw i.source o.below;
        answer = rw (i.lengths, i.deltas, strided);
      }

  pub block_is : if_there (entry_of s e) (block_at stride offset)
      ≡ block_by s stride offset e.lengths e.deltas (n - 1) e.stored.start e.stored.len e.source.len
  unfolding stored_lengths
  block_is =
      let i = entry_is s e o.entry o.is in
      rw (o.is, i.lengths, i.deltas, i.source, i.stored, o.as_many)

-- ---- the byte in the entry that holds it

module _ (s : List ℕ) (byte : ℕ) (h : Held) (i : HeldIs s byte h) where
  abbrev held : Entry
  held = i.here.entry

  same_source : h.entry.source ≡ held.source
  same_source = (entry_is s h.entry held i.here.is).source

  in_source : (held.source.start ≤ byte) × (byte < held.source.start + held.source.len)
  unfolding holds
  in_source =
      let r = both (leb held.source.start byte) (ltb byte (held.source.start + held.source.len)) i.holds in
      (leb-true held.source.start byte r.0, ltb-true byte (held.source.start + held.source.len) r.1)

  pub starts_before : h.entry.source.start ≤ byte
  starts_before = rw same_source in_source.0

  -- the item of its number
  pub held_stands : EntryStands s h.number h.entry
  held_stands =
      let w = i.here.whole in
      let taken = bounded depth_allowed (drop h.at s) w.size w.is in
      record {
        at = h.at;
        within = omega (arith, taken.some_byte, taken.within, length-drop h.at s);
        item = i.stands;
        here = i.here.here;
      }

  -- without a block, or a sum of its deltas, an entry has no block that is told
  pub not_counted : (stride : ℕ) → h.counted ≡ false
      → found_of s (Ok (found-answer.Entry h.number h.entry)) ≡ granted (found_in stride byte (held_of s h))
  unfolding block_in sources
  not_counted stride c = rw (i.here.is, sym i.here.counted ∙ c)

  module _ (counts : h.counted ≡ true) where
    is_counted_lem : is_counted held ≡ true
    is_counted_lem = sym i.here.counted ∙ counts

    pub offset_in : Offset s h.entry h.blocks (byte - h.entry.source.start)
    offset_in =
        let r = in_source in
        let starts : h.entry.source.start ≡ held.source.start = ap (λ (x : Range). x.start) same_source in
        record {
          entry = held;
          is = i.here.is;
          filled = i.filled;
          as_many = i.here.as_many;
          some_block = omega (arith, i.here.as_many, (counted_is held is_counted_lem).some_block);
          below = omega (arith, starts, r.0, r.1);
        }

    module _ (stride : ℕ) (r : Option Block) (told : r ≡ if_there (entry_of s h.entry) (block_at stride (byte - h.entry.source.start))) where
      block_told : r ≡ block_in stride held byte
      unfolding block_in sources
      block_told =
          let from : byte - h.entry.source.start ≡ byte - held.source.start = ap (λ (x : Range). byte - x.start) same_source in
          told ∙ ap (λ (k : ℕ). if_there (entry_of s h.entry) (block_at stride k)) from ∙ rw (i.here.is, is_counted_lem)

      pub block_here : (b : Block) → r ≡ Some b → found_of s (Ok (found-answer.Block h.number h.entry b)) ≡ granted (found_in stride byte (held_of s h))
      block_here b q = rw (i.here.is, ← block_told, q)

      pub no_block_here : r ≡ None → found_of s (Ok (found-answer.Entry h.number h.entry)) ≡ granted (found_in stride byte (held_of s h))
      no_block_here q = rw (i.here.is, ← block_told, q)

-- ---- where the entry found stands

module _ (s : List ℕ) where
  pub entry_found : (number : ℕ) (e : placed.Entry) → EntryStands s number e → FoundStands s (Ok (found-answer.Entry number e))
  entry_found number e h =
      record {
        entry = λ k x q. let same : number ≡ k = cc in let is : e ≡ x = cc in rw (same, is) at h;
        block = λ k x b q. absurd_numbers (cc);
      }

  pub block_found : (number : ℕ) (e : placed.Entry) (b : Block) → EntryStands s number e → FoundStands s (Ok (found-answer.Block number e b))
  block_found number e b h =
      record {
        entry = λ k x q. absurd_numbers (cc);
        block = λ k x c q. let same : number ≡ k = cc in let is : e ≡ x = cc in rw (same, is) at h;
      }

  pub nowhere_found : FoundStands s (Ok found-answer.Nowhere)
  nowhere_found = record { entry = λ k x q. absurd_numbers (cc); block = λ k x c q. absurd_numbers (cc) }

  pub refused_found : (f : Fault) → FoundStands s (Err f)
  refused_found f = record { entry = λ k x q. absurd_numbers (cc); block = λ k x c q. absurd_numbers (cc) }

-- ---- what is found, by what was read for the byte

module _ (s : List ℕ) (byte : ℕ) (r : ListRead) (read : ReadFor s byte r) where
  pub find_list : (l : listed.PackList) (n : ℕ) (h : Option Held) → r ≡ Ok (l, n, h) → granted (found_in n byte (holder_in s h)) ≡ find_in s byte
  unfolding find_in find
  find_list l n h e = rw (← read.reads, e, read.stride l n h e, read.held l n h e)

  pub find_refused : (f : Fault) → r ≡ Err f → refused (number_of f) ≡ find_in s byte
  unfolding find_in
  find_refused f e = rw (← read.reads, e)
