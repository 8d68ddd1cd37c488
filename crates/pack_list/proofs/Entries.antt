-- What is told of an entry, by what was read of its lengths and deltas.
use Prim.Native.Nat.{ℕ, zero, suc, ◌+◌, ◌-◌, ◌≤◌}
use mathlib.Core.Bool.{Bool, true, false, cond, ◌&&◌, ◌||◌}
use mathlib.Core.List.{List, []}
use Rattle.std.specs.Prelude.{Option, None, Some}
use mathlib.Core.Path.{◌≡◌, refl, sym, ap, subst, ◌∙◌}
use native.Mathlib.Omega.{arith}
use lib.Dec.{ltb, leb}
use lib.ListN.{length, take, drop, length-drop}
use lib.Seq.{drop-drop}
use Rattle.slices.specs.Logic.{absurd_numbers, both}
use Rattle.slices.specs.Places.{part_at}
use Rattle.primary.specs.Answers.{placed_at}
use Rattle.primary.specs.Parts.{text_under}
use Rattle.identifier.specs.Ulid.{is_ulid}
use Rattle.msgpack.specs.Items.{whole, pass_items, pass_item, pass_over}
use Rattle.msgpack.specs.Lookup.{Under, found, missing, broken, last_value, at_place, if_there, over}
use Rattle.msgpack.specs.Pairs.{inside_allowed, place_told}
use Rattle.msgpack.specs.LookupLaws.{value_whole}
use Rattle.msgpack.specs.PairLaws.{told_inside, told_found}
use Rattle.msgpack.specs.PassingLaws.{joined, bounded}
use Rattle.msgpack.specs.Readers.{Int, read_integer, read_text}
use Rattle.msgpack.specs.Views.{size_of, repeats, text_at, byte_view}
use Rattle.value.specs.Fields.{read_natural}
use Rattle.pack_list.specs.Lists.{pack_key, source_key, stored_key, lengths_key, deltas_key, entry_keys, range_keys, Entry, each_of, list_at, natural_at, range_at, entry_at, range_repeats, entry_repeats, sum, is_short, is_filled}
use Rattle.pack_list.specs.Blocks.{rest_of, blocks, deltas_of, gains, losses, is_counted, ceiling, stride_for}
use Rattle.pack_list.specs.Lengths.{blocks_with_rest}
use Rattle.pack_list.specs.declared.Range.{Range}
use Rattle.pack_list.specs.declared.Numbers.{Numbers}
use Rattle.pack_list.specs.declared.Sums.{Sums}
use Rattle.pack_list.specs.declared.Tests.{Tests}
use Rattle.pack_list.specs.declared.Entry as placed
use Rattle.pack_list.specs.declared.NextEntry.{NextEntry}
use Rattle.pack_list.specs.Answers.{range_told, ValueAt, numbers_by, numbers_place, within_from, WholeItems, items_in, SumsAre, AreSummed, entry_of, Told, told_of, told_in, entry_told, pack_place, SameEntry, EntryHere, EntryInside, NextInside}
use Rattle.pack_list.specs.Walks.{items_count, each_count}

-- ---- as many items as are counted

-- a whole item takes a byte at least
pub items_fit : (count : ℕ) (s : List ℕ) → WholeItems count s → count ≤ length s
unfolding pass_items
items_fit count s w = by count s w.size w.is
  where
    by : (count : ℕ) (s : List ℕ) (n : ℕ) → pass_items (pass_item inside_allowed) count s ≡ whole n → count ≤ length s
    by zero s n e = omega arith
    by (suc count) s n e =
        let j = joined (pass_item inside_allowed s) (λ k. pass_items (pass_item inside_allowed) count (drop k s)) n e in
        let b = bounded inside_allowed s j.first j.is in
        omega (arith, b.some_byte, b.within, length-drop j.first s, by count (drop j.first s) j.after j.rest)

-- ---- the stride

module _ (x : Entry) (n : ℕ) (sums : Sums) (are_blocks : n ≡ blocks x) (are : SumsAre x.source.len (take n x.deltas) sums) where
  sums_are : SumsAre x.source.len (deltas_of x) sums
  unfolding deltas_of
  sums_are = subst (λ (k : ℕ). SumsAre x.source.len (take k x.deltas) sums) are_blocks are

  pub counted_told : (ltb 0 n && sums.counted) ≡ is_counted x
  unfolding is_counted gains losses
  counted_told = rw (are_blocks, sums_are.counted)

  pub stride_told : cond (ltb 0 n && sums.counted) (ceiling (sums.losses - sums.gains) (n - 1)) 0 ≡ cond (is_counted x) (stride_for x) 0
  unfolding stride_for gains losses
  stride_told = by (is_counted x) counted_told
    where
      by : (t : Bool) → (ltb 0 n && sums.counted) ≡ t
          → cond (ltb 0 n && sums.counted) (ceiling (sums.losses - sums.gains) (n - 1)) 0 ≡ cond t (stride_for x) 0
      by true e =
          let c = (both (ltb 0 n) sums.counted e).1 in
          rw (e, sums_are.gains c, sums_are.losses c, are_blocks)
      by false e = rw e

-- ---- the entry

abbrev tests : (size : ℕ) (repeated named filled : Bool) (blocks stride : ℕ) (counted : Bool) → Tests
tests size repeated named filled blocks stride counted =
    record { size = size; repeated = repeated; named = named; filled = filled; blocks = blocks; stride = stride; counted = counted }

abbrev told : Entry → Tests → Told
told e t = record { entry = e; tests = t }

same_tests : (size : ℕ) (repeated : Bool) {named named' filled filled' : Bool} {blocks blocks' stride stride' : ℕ} {counted counted' : Bool}
    → named ≡ named' → filled ≡ filled' → blocks ≡ blocks' → stride ≡ stride' → counted ≡ counted'
    → tests size repeated named filled blocks stride counted ≡ tests size repeated named' filled' blocks' stride' counted'
same_tests size repeated a b c d e = rw (a, b, c, d, e)

module _ (s : List ℕ) (e : placed.Entry) (repeated : Bool) (size : ℕ) where
  -- a number that is none
  pub no_lengths : each_of read_natural (items_in s e.lengths) ≡ None → None ≡ over (λ x. told_of x repeated size) (entry_of s e)
  unfolding entry_of
  no_lengths h = rw h

  pub no_deltas : (ls : List ℕ) → each_of read_natural (items_in s e.lengths) ≡ Some ls → each_of read_integer (items_in s e.deltas) ≡ None
      → None ≡ over (λ x. told_of x repeated size) (entry_of s e)
  unfolding entry_of
  no_deltas ls l h = rw (l, h)

  module _ (ls : List ℕ) (lengths-are : each_of read_natural (items_in s e.lengths) ≡ Some ls) (rest : ℕ) (left : rest ≡ e.stored.len - sum ls)
      (n : ℕ) (as_many : n ≡ e.lengths.count + length (rest_of rest)) (sums : Sums) (summed : AreSummed (items_in s e.deltas) n e.source.len sums) where
    abbrev entry : Entry
    entry = record { pack = part_at s e.pack; source = e.source; stored = e.stored; lengths = ls; deltas = summed.deltas }

    entry_is : entry_of s e ≡ Some entry
    unfolding entry_of
    entry_is = rw (lengths-are, summed.are)

    are_blocks : n ≡ blocks entry
    are_blocks =
        let last : length (rest_of rest) ≡ length (rest_of (e.stored.len - sum ls)) = ap (λ (k : ℕ). length (rest_of k)) left in
        let listed = each_count read_natural _ ls lengths-are in
        omega (arith, as_many, last, blocks_with_rest entry, listed, items_count e.lengths.count (drop e.lengths.first s))

    pub entry_tested : (named short fits within : Bool) (stride : ℕ) → named ≡ is_ulid (part_at s e.pack)
        → short ≡ is_short e.source → fits ≡ is_short e.stored → within ≡ leb (sum ls) e.stored.len
        → stride ≡ cond (ltb 0 n && sums.counted) (ceiling (sums.losses - sums.gains) (n - 1)) 0
        → told_in s (Some (e, tests size repeated named (short && (fits && within)) n stride (ltb 0 n && sums.counted)))
        ≡ over (λ x. told_of x repeated size) (entry_of s e)
    unfolding told_of is_filled
    entry_tested named short fits within stride a b c d f =
        rw entry_is
        (ap (λ (t : Tests). Some (told entry t))
        (same_tests size repeated a (rw (b, c, d)) are_blocks (f ∙ stride_told entry n sums are_blocks summed.sums)
        (counted_told entry n sums are_blocks summed.sums)))

pub same_entry : (s : List ℕ) (e : placed.Entry) (t : Tests) (lengths : List ℕ) (deltas : List Int)
    → each_of read_natural (items_in s e.lengths) ≡ Some lengths → each_of read_integer (items_in s e.deltas) ≡ Some deltas
    → SameEntry s e (Some (e, t))
unfolding entry_of
same_entry s e t lengths deltas ls ds =
    record {
      same = λ x u q. let same : ◌≡◌ {A = placed.Entry × Tests} (e, t) (x, u) = cc in sym (ap (λ (r : placed.Entry × Tests). r.0) same);
      there = λ x u q n.
          let same : ◌≡◌ {A = placed.Entry × Tests} (e, t) (x, u) = cc in
          let nothing = rw (← ap (λ (r : placed.Entry × Tests). r.0) same, ls, ds) at n in
          absurd_numbers (cc);
    }

pub no_entry_lem : (s : List ℕ) (e : placed.Entry) → SameEntry s e None
no_entry_lem s e = record { same = λ x u q. absurd_numbers (cc); there = λ x u q n. absurd_numbers (cc) }

-- ---- lengths of which it was told whether they are within a total

pub record WithinTold (o : Option (List ℕ)) (total : ℕ) (within : Bool) (rest : ℕ) : Type 0 where
  pub lengths : List ℕ
  pub are : o ≡ Some lengths
  pub is : within ≡ leb (sum lengths) total
  pub left : rest ≡ total - sum lengths

pub within_told : (o : Option (List ℕ)) (total : ℕ) (within : Bool) (rest : ℕ) → Some (within, rest) ≡ over (within_from true total) o
    → WithinTold o total within rest
unfolding within_from
within_told (Some ls) total within rest e =
    let pair : ◌≡◌ {A = Bool × ℕ} (within, rest) (leb (sum ls) total, total - sum ls) = cc in
    record { lengths = ls; are = refl; is = ap (λ (x : Bool × ℕ). x.0) pair; left = ap (λ (x : Bool × ℕ). x.1) pair }
within_told None total within rest e = absurd_numbers (cc)

pub none_told : (o : Option (List ℕ)) (total : ℕ) → None ≡ over (within_from true total) o → o ≡ None
none_told (Some ls) total e = absurd_numbers (cc)
none_told None total e = refl

-- ---- what stands under the keys of an entry

pub value_at_lem : (key m : List ℕ) (p : ℕ) → last_value key m ≡ place_told p → ValueAt m p
value_at_lem key m p e = record { inside = told_inside key m p e; whole = λ there. value_whole key m p (e ∙ told_found p there) }

-- the pack's text
module _ (s : List ℕ) (at p : ℕ) (e : last_value pack_key (drop at s) ≡ place_told p) where
  pub no_pack : p ≡ 0 → text_under byte_view pack_key (drop at s) ≡ None
  unfolding text_under
  no_pack z = rw (e, z)

  module _ (there : p ≡ 0 → ⊥) where
    pub pack_read : text_under byte_view pack_key (drop at s) ≡ text_at (drop (at + p) s)
    unfolding text_under
    pack_read = rw (e, told_found p there) (ap text_at (drop-drop p at s))

    pub pack_placed : placed_at (at + p) (read_text (drop (at + p) s)) ≡ pack_place s at
    unfolding pack_place
    pack_placed = rw (e, told_found p there, drop-drop p at s)

-- there is no map
pub pack_broken : (m : List ℕ) → last_value pack_key m ≡ broken → text_under byte_view pack_key m ≡ None
unfolding text_under
pack_broken m e = rw e

-- a range, and whether a key repeats in it
pub record RangeUnder (u : Under (List ℕ)) (r : Range) (repeated : Bool) : Type 0 where
  pub range : at_place None (range_at byte_view) u ≡ Some r
  pub repeats : range_repeats byte_view u ≡ repeated

pub range_under_lem : (u : Under (List ℕ)) (r : Range) (repeated : Bool) → at_place None range_told u ≡ Some (r, repeated) → RangeUnder u r repeated
unfolding range_told
range_under_lem (found m) r repeated e = by (range_at byte_view m) refl e
  where
    by : (o : Option Range) → range_at byte_view m ≡ o → over {B = Range × Bool} (λ x. (x, repeats byte_view range_keys m)) o ≡ Some (r, repeated)
        → RangeUnder (found m) r repeated
    by (Some x) h q =
        let same : ◌≡◌ {A = Range × Bool} (x, repeats byte_view range_keys m) (r, repeated) = cc in
        record { range = h ∙ ap Some (ap (λ (y : Range × Bool). y.0) same); repeats = ap (λ (y : Range × Bool). y.1) same }
    by None h q = absurd_numbers (cc)
range_under_lem missing r repeated e = absurd_numbers (cc)
range_under_lem broken r repeated e = absurd_numbers (cc)

pub no_range_under : (u : Under (List ℕ)) → at_place None range_told u ≡ None → at_place None (range_at byte_view) u ≡ None
unfolding range_told
no_range_under (found m) e = by (range_at byte_view m) e
  where
    by : (o : Option Range) → over {B = Range × Bool} (λ x. (x, repeats byte_view range_keys m)) o ≡ None → o ≡ None
    by (Some x) q = absurd_numbers (cc)
    by None q = refl
no_range_under missing e = refl
no_range_under broken e = refl

-- an array; one that is missing is empty
pub list_under : {A : Type 0} (read : List ℕ → Option A) (u : Under (List ℕ))
    → at_place (Some []) (list_at byte_view read) u ≡ if_there (at_place (Some []) byte_view.items u) (each_of read)
unfolding list_at each_of
list_under read (found m) = refl
list_under read missing = refl
list_under read broken = refl

-- ---- an entry by what stands under its keys

abbrev entry_by : Option (List ℕ) → Option Range → Option Range → Option (List ℕ) → Option (List Int) → Option Entry
entry_by pack source stored lengths deltas =
    if_there pack λ p.
    if_there source λ so.
    if_there stored λ st.
    if_there lengths λ ls.
    if_there deltas λ ds.
    Some (record { pack = p; source = so; stored = st; lengths = ls; deltas = ds })

module _ (m : List ℕ) where
  abbrev pub range_under : List ℕ → Option Range
  range_under key = at_place None (range_at byte_view) (byte_view.under key m)

  abbrev pub lengths_under : Option (List ℕ)
  lengths_under = at_place (Some []) (list_at byte_view (natural_at byte_view)) (byte_view.under lengths_key m)

  abbrev pub deltas_under : Option (List Int)
  deltas_under = at_place (Some []) (list_at byte_view byte_view.integer) (byte_view.under deltas_key m)

  module _ (pack : Option (List ℕ)) (source stored : Option Range) (lengths : Option (List ℕ)) (deltas : Option (List Int))
      (p : text_under byte_view pack_key m ≡ pack) (so : range_under source_key ≡ source) (st : range_under stored_key ≡ stored)
      (ls : lengths_under ≡ lengths) (ds : deltas_under ≡ deltas) where
    entry_by_lem : entry_at byte_view m ≡ entry_by pack source stored lengths deltas
    unfolding entry_at
    entry_by_lem = rw (p, so, st, ls, ds)

    -- one of them is not as described
    pub no_entry_told : entry_by pack source stored lengths deltas ≡ None → None ≡ entry_told m
    unfolding entry_told
    no_entry_told n = rw (entry_by_lem ∙ n)

  -- the deltas are not, whatever the lengths are
  pub no_deltas_told : (pack : List ℕ) (source stored : Range) (lengths : Option (List ℕ))
      → text_under byte_view pack_key m ≡ Some pack → range_under source_key ≡ Some source → range_under stored_key ≡ Some stored
      → lengths_under ≡ lengths → deltas_under ≡ None → None ≡ entry_told m
  no_deltas_told pack source stored (Some lengths) p so st ls ds = no_entry_told (Some pack) (Some source) (Some stored) (Some lengths) None p so st ls ds refl
  no_deltas_told pack source stored None p so st ls ds = no_entry_told (Some pack) (Some source) (Some stored) None None p so st ls ds refl

module _ (s m : List ℕ) (e : placed.Entry) (outside twice again : Bool) (pack : text_under byte_view pack_key m ≡ Some (part_at s e.pack))
    (source : RangeUnder (byte_view.under source_key m) e.source twice) (stored : RangeUnder (byte_view.under stored_key m) e.stored again)
    (lengths : lengths_under m ≡ each_of read_natural (items_in s e.lengths)) (deltas : deltas_under m ≡ each_of read_integer (items_in s e.deltas))
    (repeated : repeats byte_view entry_keys m ≡ outside) (size : ℕ) (sized : size_of (pass_over m) ≡ size) where
  entry_read : entry_at byte_view m ≡ entry_of s e
  unfolding entry_of
  entry_read = entry_by_lem m (Some _) (Some _) (Some _) _ _ pack source.range stored.range lengths deltas

  repeats_read : entry_repeats byte_view m ≡ (outside || (twice || again))
  unfolding entry_repeats
  repeats_read = rw (repeated, source.repeats, stored.repeats)

  pub entry_told_lem : over (λ x. told_of x (outside || (twice || again)) size) (entry_of s e) ≡ entry_told m
  unfolding entry_told
  entry_told_lem =
      ap (over (λ x. told_of x (outside || (twice || again)) size)) (sym entry_read)
      ∙ ap (λ (b : Bool). over (λ x. told_of x b size) (entry_at byte_view m)) (sym repeats_read)
      ∙ ap (λ (k : ℕ). over (λ x. told_of x (entry_repeats byte_view m) k) (entry_at byte_view m)) (sym sized)

-- ---- where the pack's text, the lengths and the deltas stand

pub numbers_placed : (key s : List ℕ) (at p : ℕ) → last_value key (drop at s) ≡ place_told p → (r : Option Numbers) → r ≡ numbers_by s at (place_told p)
    → (n : Numbers) → r ≡ Some n → Some n ≡ numbers_place key s at
unfolding numbers_place
numbers_placed key s at p e r h n q = sym q ∙ h ∙ ap (numbers_by s at) (sym e)

pub entry_inside : (s : List ℕ) (at : ℕ) (e : placed.Entry) (r : Option (placed.Entry × Tests)) → SameEntry s e r → Some e.pack ≡ pack_place s at
    → Some e.lengths ≡ numbers_place lengths_key s at → Some e.deltas ≡ numbers_place deltas_key s at → EntryInside s at r
entry_inside s at e r same p ls ds =
    record {
      here = λ x t q.
          let is = same.same x t q in
          record {
            pack = ap (λ (y : placed.Entry). Some y.pack) is ∙ p;
            lengths = ap (λ (y : placed.Entry). Some y.lengths) is ∙ ls;
            deltas = ap (λ (y : placed.Entry). Some y.deltas) is ∙ ds;
            there = same.there x t q;
          };
    }

pub none_inside : (s : List ℕ) (at : ℕ) → EntryInside s at None
none_inside s at = record { here = λ x t q. absurd_numbers (cc) }

pub next_inside : (s : List ℕ) (at : ℕ) (n : NextEntry) → EntryHere s at n.entry → ((x : Entry) → entry_of s n.entry ≡ Some x → n.blocks ≡ blocks x)
    → NextInside s at (Some n)
next_inside s at n h counts =
    record {
      here = λ m q. let same : n ≡ m = cc in subst (λ (x : NextEntry). EntryHere s at x.entry) same h;
      blocks = λ m q y is. let same : n ≡ m = cc in subst (λ (x : NextEntry). entry_of s x.entry ≡ Some y → x.blocks ≡ blocks y) same (counts y) is;
    }

pub no_next : (s : List ℕ) (at : ℕ) → NextInside s at None
no_next s at = record { here = λ m q. absurd_numbers (cc); blocks = λ m q y is. absurd_numbers (cc) }

-- ---- the entry alone, by what is told of it

entries : (tell : Entry → Told) → ((x : Entry) → (tell x).entry ≡ x) → (o : Option Entry) → over (λ (t : Told). t.entry) (over tell o) ≡ o
entries tell same (Some x) = ap Some (same x)
entries tell same None = refl

entry_of_told : (m : List ℕ) → over (λ (t : Told). t.entry) (entry_told m) ≡ entry_at byte_view m
unfolding entry_told told_of
entry_of_told m = entries (λ x. told_of x (entry_repeats byte_view m) (size_of (pass_over m))) (λ x. refl) (entry_at byte_view m)

pub told_entry : (s m : List ℕ) (e : placed.Entry) (t : Tests) → told_in s (Some (e, t)) ≡ entry_told m → entry_of s e ≡ entry_at byte_view m
told_entry s m e t h = sym (entries (λ x. told x t) (λ x. refl) (entry_of s e)) ∙ ap (over (λ (u : Told). u.entry)) h ∙ entry_of_told m

pub told_none : (m : List ℕ) → None ≡ entry_told m → entry_at byte_view m ≡ None
told_none m h = sym (entry_of_told m) ∙ ap (over (λ (u : Told). u.entry)) (sym h)

-- its tests, of an entry that was told
pub tests_are : (s m : List ℕ) (e : placed.Entry) (t : Tests) (x : Entry) → told_in s (Some (e, t)) ≡ entry_told m → entry_at byte_view m ≡ Some x
    → t ≡ (told_of x (entry_repeats byte_view m) (size_of (pass_over m))).tests
unfolding entry_told
tests_are s m e t x h i = go (entry_of s e) (rw i at h)
  where
    go : (o : Option Entry) → over (λ y. told y t) o ≡ Some (told_of x (entry_repeats byte_view m) (size_of (pass_over m)))
        → t ≡ (told_of x (entry_repeats byte_view m) (size_of (pass_over m))).tests
    go None f = absurd_numbers (cc)
    go (Some y) f =
        let same : told y t ≡ told_of x (entry_repeats byte_view m) (size_of (pass_over m)) = cc in
        ap (λ (z : Told). z.tests) same

-- how many bytes it has, how many blocks, and whether it is counted
pub record TestsAre (m : List ℕ) (t : Tests) (x : Entry) : Type 0 where
  pub size : t.size ≡ size_of (pass_over m)
  pub blocks : t.blocks ≡ blocks x
  pub counted : t.counted ≡ is_counted x

pub tests_tell : (s m : List ℕ) (e : placed.Entry) (t : Tests) (x : Entry) → told_in s (Some (e, t)) ≡ entry_told m → entry_of s e ≡ Some x
    → TestsAre m t x
unfolding told_of
tests_tell s m e t x h q =
    let same = tests_are s m e t x h (sym (told_entry s m e t h) ∙ q) in
    record {
      size = ap (λ (y : Tests). y.size) same;
      blocks = ap (λ (y : Tests). y.blocks) same;
      counted = ap (λ (y : Tests). y.counted) same;
    }
