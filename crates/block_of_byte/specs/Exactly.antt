-- The block that holds a byte, said without a computation: which entry is the first to hold it, and which of its blocks does.
use Prim.Native.Nat.{ℕ, zero, suc, ◌+◌, ◌-◌, ◌≤◌, ◌<◌}
use Rattle.std.specs.Prelude.{Bool, true, false, cond, ◌↔◌, ◌≡◌, ltb, leb, get_or, take}
use mathlib.Core.List.Memᴰ
use mathlib.Core.List.{List, [], ◌∷◌, ◌++◌, append-nil, Memᴰ}
use Rattle.std.proofs.Common.{⊎_elim, sym, ◌∙◌, not-suc-le-zero, ltb-true, ltb-false, leb-true, lt-ltb, le-ltb, le-leb}
use Rattle.std.specs.Prelude.{Option, None, Some}
use Rattle.std.proofs.Math.Path.{refl, ap, subst}
use native.Mathlib.Omega.{arith}
use Rattle.std.proofs.Math.ListN.{length}
use Rattle.slices.specs.Logic.{absurd_numbers, clash, not_so, both}
use Rattle.msgpack.specs.Lookup.{if_there}
use Rattle.pack_list.specs.Lists.{range, Entry, PackList, sum}
use Rattle.pack_list.specs.declared.Range.{Range}
use Rattle.pack_list.specs.Blocks.{blocks, stored_lengths, stride, holds, holder_from}
use Rattle.block_of_byte.specs.Finding.{sources, block_from, Found, nowhere, in_entry, in_block, found_by, block_in, found_in, find}
use Rattle.block_of_byte.specs.declared.Block.{Block}
use Rattle.pack_list.specs.Stride.{Counted}
use Rattle.pack_list.specs.Lengths.{stored_range, Inside}
use Rattle.pack_list.proofs.LengthLaws.{stored_inside}
use Rattle.block_of_byte.specs.Sources.{IsSources, sources_exactly, NoSources, no_sources_exactly, there}

-- ---- the block of an entry that holds a byte

-- by the source lengths of the entry's blocks: those before it end at the byte or before, and with it after the byte. Its record starts where those
-- of the blocks before it end
pub record IsBlock (e : Entry) (byte : ℕ) (ns : List ℕ) (b : Block) : Type 0 where
  pub within : b.number < blocks e
  pub from : e.source.start + sum (take b.number ns) ≤ byte
  pub until : byte < e.source.start + sum (take (suc b.number) ns)
  pub stored : b.stored ≡ stored_range e b.number

-- the same of any lengths, of which the first belong to the block of a number: it is the k-th of these
record IsAt (number start offset : ℕ) (ns ls : List ℕ) (k : ℕ) (b : Block) : Type 0 where
  counted : b.number ≡ number + k
  within : k < length ns
  from : sum (take k ns) ≤ offset
  until : offset < sum (take (suc k) ns)
  starts : b.stored.start ≡ start + sum (take k ls)
  long : b.stored.len ≡ get_or ls k 0

record Somewhere (number start offset : ℕ) (ns ls : List ℕ) (b : Block) : Type 0 where
  index : ℕ
  is : IsAt number start offset ns ls index b

block_is : (number start offset : ℕ) (ns ls : List ℕ) (b : Block) → block_from number start offset ns ls ≡ Some b → Somewhere number start offset ns ls b
unfolding block_from sum
block_is number start offset [] ls b e = absurd_numbers (cc)
block_is number start offset (n ∷ ns) [] b e = absurd_numbers (cc)
block_is number start offset (n ∷ ns) (l ∷ ls) b e =
    go (λ f. block_is (suc number) (start + l) (offset - n) ns ls b f) (ltb offset n) refl e
  where
    go : (block_from (suc number) (start + l) (offset - n) ns ls ≡ Some b → Somewhere (suc number) (start + l) (offset - n) ns ls b)
        → (t : Bool) → ltb offset n ≡ t
        → cond t (Some (record { number = number; stored = range start l })) (block_from (suc number) (start + l) (offset - n) ns ls) ≡ Some b
        → Somewhere number start offset (n ∷ ns) (l ∷ ls) b
    go rest true h f =
        let same : record { number = number; stored = range start l } ≡ b = cc in
        let lt = ltb-true offset n h in
        subst (Somewhere number start offset (n ∷ ns) (l ∷ ls)) same
        (record {
          index = 0;
          is = record { counted = omega arith; within = omega arith; from = omega arith; until = omega arith; starts = omega arith; long = refl };
        })
    go rest false h f =
        let r = rest f in
        let ge = ltb-false offset n h in
        record {
          index = suc r.index;
          is = record {
            counted = let c = r.is.counted in omega arith;
            within = let c = r.is.within in omega arith;
            from = let c = r.is.from in omega arith;
            until = let c = r.is.until in omega arith;
            starts = let c = r.is.starts in omega arith;
            long = r.is.long;
          };
        }

is_block : (number start offset : ℕ) (ns ls : List ℕ) (k : ℕ) (b : Block) → length ns ≡ length ls → IsAt number start offset ns ls k b
    → block_from number start offset ns ls ≡ Some b
unfolding block_from sum
is_block number start offset [] ls k b h i = absurd (not-suc-le-zero i.within)
is_block number start offset (n ∷ ns) [] k b h i = absurd (omega arith)
is_block number start offset (n ∷ ns) (l ∷ ls) zero b h i =
    let c : number ≡ b.number = let e = i.counted in omega arith in
    let t : start ≡ b.stored.start = let e = i.starts in omega arith in
    let u = i.until in
    rw (lt-ltb offset n (omega arith), c, t, sym i.long)
is_block number start offset (n ∷ ns) (l ∷ ls) (suc k) b h i =
    let f = i.from in
    rw (le-ltb offset n (omega arith))
    (is_block (suc number) (start + l) (offset - n) ns ls k b (omega arith)
    (record {
      counted = let c = i.counted in omega arith;
      within = let c = i.within in omega arith;
      from = omega arith;
      until = let c = i.until in omega arith;
      starts = let c = i.starts in omega arith;
      long = i.long;
    }))

-- an offset below all lengths together is in a block
block_there : (number start offset : ℕ) (ns ls : List ℕ) → length ns ≡ length ls → offset < sum ns → block_from number start offset ns ls ≡ None → ⊥
unfolding block_from sum
block_there number start offset [] ls h o e = omega arith
block_there number start offset (n ∷ ns) [] h o e = omega arith
block_there number start offset (n ∷ ns) (l ∷ ls) h o e =
    go (λ p q. block_there (suc number) (start + l) (offset - n) ns ls (omega arith) p q) (ltb offset n) refl e
  where
    go : (offset - n < sum ns → block_from (suc number) (start + l) (offset - n) ns ls ≡ None → ⊥) → (t : Bool) → ltb offset n ≡ t
        → cond t (Some (record { number = number; stored = range start l })) (block_from (suc number) (start + l) (offset - n) ns ls) ≡ None → ⊥
    go rest true q f = absurd_numbers (cc)
    go rest false q f = rest (let ge = ltb-false offset n q in omega arith) f

pub record Holds (e : Entry) (byte : ℕ) : Type 0 where
  pub least : e.source.start ≤ byte
  pub most : byte < e.source.start + e.source.len

-- with a stride of so many bytes
pub record InBlock (s : ℕ) (e : Entry) (byte : ℕ) (b : Block) : Type 0 where
  pub counted : Counted e
  pub lengths : List ℕ
  pub are_sources : IsSources s e lengths
  pub is_block : IsBlock e byte lengths b

module _ (s : ℕ) (e : Entry) (byte : ℕ) (here : Holds e byte) where
  abbrev offset : ℕ
  offset = byte - e.source.start

  as_many : (ns : List ℕ) → Counted e → IsSources s e ns → length ns ≡ length (stored_lengths e)
  unfolding blocks
  as_many ns c i = let n = i.count in let some_block = c.some_block in omega arith

  block_in_lem : (b : Block) → block_in s e byte ≡ Some b → InBlock s e byte b
  unfolding block_in blocks
  block_in_lem b h =
      let t = there (sources s e) _ b h in
      let ns = t.given in
      let c = (sources_exactly s e ns).0 t.is in
      let p = block_is 0 e.stored.start offset ns (stored_lengths e) b t.answers in
      let i = p.is in
      let same : p.index ≡ b.number = let n = i.counted in omega arith in
      let at = subst (λ k. IsAt 0 e.stored.start offset ns (stored_lengths e) k b) same i in
      let least = here.least in
      record {
        counted = c.0;
        lengths = ns;
        are_sources = c.1;
        is_block = record {
          within = let w = at.within in let n = as_many ns c.0 c.1 in omega arith;
          from = let f = at.from in omega arith;
          until = let u = at.until in omega arith;
          stored = λ i. record { start = at.starts i; len = at.long i };
        };
      }

  in_block_lem : (b : Block) → InBlock s e byte b → block_in s e byte ≡ Some b
  unfolding block_in blocks
  in_block_lem b i =
      let ns = i.lengths in
      let k = i.is_block in
      let least = here.least in
      rw ((sources_exactly s e ns).1 (i.counted, i.are_sources))
      (is_block 0 e.stored.start offset ns (stored_lengths e) b.number b (as_many ns i.counted i.are_sources)
      (record {
        counted = omega arith;
        within = let w = k.within in let n = as_many ns i.counted i.are_sources in omega arith;
        from = let f = k.from in omega arith;
        until = let u = k.until in omega arith;
        starts = ap (λ (r : Range). r.start) k.stored;
        long = ap (λ (r : Range). r.len) k.stored;
      }))

  pub in_block_exactly : (b : Block) → block_in s e byte ≡ Some b ↔ InBlock s e byte b
  in_block_exactly b = (block_in_lem b, in_block_lem b)

  pub no_block_exactly : block_in s e byte ≡ None ↔ NoSources s e
  unfolding block_in
  no_block_exactly = (λ h. (no_sources_exactly s e).0 (go (sources s e) refl h), λ h. rw ((no_sources_exactly s e).1 h))
    where
      go : (o : Option (List ℕ)) → sources s e ≡ o → (if_there o λ ns. block_from 0 e.stored.start offset ns (stored_lengths e)) ≡ None → o ≡ None
      go None f h = refl
      go (Some ns) f h =
          let c = (sources_exactly s e ns).0 f in
          let i = c.1 in
          let fill = i.fill in
          let least = here.least in
          let most = here.most in
          absurd (block_there 0 e.stored.start offset ns (stored_lengths e) (as_many ns c.0 i) (omega arith) h)

-- ---- the answer for a byte

holds_is : (e : Entry) (byte : ℕ) → holds e byte ≡ true → Holds e byte
unfolding holds
holds_is e byte h =
    let p = both (leb e.source.start byte) (ltb byte (e.source.start + e.source.len)) h in
    record { least = leb-true e.source.start byte p.0; most = ltb-true byte (e.source.start + e.source.len) p.1 }

is_holds : (e : Entry) (byte : ℕ) → Holds e byte → holds e byte ≡ true
unfolding holds
is_holds e byte h = rw (le-leb e.source.start byte h.least, lt-ltb byte (e.source.start + e.source.len) h.most)

abbrev pub NoneHolds : List Entry → ℕ → Type 0
NoneHolds es byte = (e : Entry) → Memᴰ e es → Holds e byte → ⊥

-- e is the k-th of these, counted from 0, and the first of them that holds the byte
pub record IsFirst (es : List Entry) (byte k : ℕ) (e : Entry) : Type 0 where
  pub front : List Entry
  pub back : List Entry
  pub cut : es ≡ front ++ (e ∷ back)
  pub place : length front ≡ k
  pub here : Holds e byte
  pub before : NoneHolds front byte

abbrev pub IsFound : PackList → ℕ → Found → Type 0
IsFound l byte nowhere = NoneHolds l.entries byte
IsFound l byte (in_entry k e) = IsFirst l.entries byte k e × NoSources (stride l.entries) e
IsFound l byte (in_block k e b) = IsFirst l.entries byte k e × InBlock (stride l.entries) e byte b

none_holds_behind : (e : Entry) (es : List Entry) (byte : ℕ) → holds e byte ≡ false → NoneHolds es byte → NoneHolds (e ∷ es) byte
none_holds_behind e es byte n rest f m h =
    ⊎_elim (λ same. clash (is_holds e byte (subst (λ (x : Entry). Holds x byte) same h)) n) (λ k. rest f k h) (Memᴰ.cases_cons m)

data Search (es : List Entry) (byte : ℕ) : Type 0 where
  none_found : NoneHolds es byte → Search es byte
  first_found : (k : ℕ) (e : Entry) → IsFirst es byte k e → Search es byte

search_all : (es : List Entry) (byte : ℕ) → Search es byte
search_all [] byte = none_found (λ e m h. Memᴰ.not-nil m)
search_all (e ∷ es) byte = go (holds e byte) refl (search_all es byte)
  where
    go : (t : Bool) → holds e byte ≡ t → Search es byte → Search (e ∷ es) byte
    go true h rest =
        first_found 0 e
        (record { front = []; back = es; cut = refl; place = refl; here = holds_is e byte h; before = λ f m k. Memᴰ.not-nil m })
    go false h (none_found n) = none_found (none_holds_behind e es byte h n)
    go false h (first_found k f i) =
        first_found (suc k) f
        (record {
          front = e ∷ i.front;
          back = i.back;
          cut = ap (λ l. e ∷ l) i.cut;
          place = ap suc i.place;
          here = i.here;
          before = none_holds_behind e i.front byte h i.before;
        })

module _ (byte : ℕ) where
  -- entries in front that do not hold the byte are passed over
  holder_behind : (number : ℕ) (front rest : List Entry) → NoneHolds front byte
      → holder_from byte number (front ++ rest) ≡ holder_from byte (number + length front) rest
  unfolding holder_from
  holder_behind number [] rest h = let same : number + 0 ≡ number = omega arith in rw same
  holder_behind number (e ∷ front) rest h =
      let n = not_so (holds e byte) (λ t. h e (Memᴰ.head refl) (holds_is e byte t)) in
      let same : suc number + length front ≡ number + suc (length front) = omega arith in
      rw n (holder_behind (suc number) front rest (λ f m k. h f (Memᴰ.tail m) k) ∙ ap (λ k. holder_from byte k rest) same)

  no_holder : (es : List Entry) → NoneHolds es byte → holder_from byte 0 es ≡ None
  unfolding holder_from
  no_holder es h = ap (holder_from byte 0) (sym (append-nil es)) ∙ holder_behind 0 es [] h

  first_holder : (es : List Entry) (k : ℕ) (e : Entry) → IsFirst es byte k e → holder_from byte 0 es ≡ Some (k, e)
  unfolding holder_from
  first_holder es k e i =
      let same : 0 + length i.front ≡ k = let p = i.place in omega arith in
      ap (holder_from byte 0) i.cut ∙ holder_behind 0 i.front (e ∷ i.back) i.before ∙ rw (same, is_holds e byte i.here)

module _ (l : PackList) (byte : ℕ) where
  abbrev s : ℕ
  s = stride l.entries

  find_is : IsFound l byte (find l byte)
  unfolding find
  find_is = go (search_all l.entries byte)
    where
      by : (k : ℕ) (e : Entry) → IsFirst l.entries byte k e → (o : Option Block) → block_in s e byte ≡ o → IsFound l byte (found_by k e o)
      by k e i (Some b) h = (i, (in_block_exactly s e byte i.here b).0 h)
      by k e i None h = (i, (no_block_exactly s e byte i.here).0 h)

      go : Search l.entries byte → IsFound l byte (found_in s byte (holder_from byte 0 l.entries))
      go (none_found n) = subst (IsFound l byte) (sym (ap (found_in s byte) (no_holder byte l.entries n))) n
      go (first_found k e i) = subst (IsFound l byte) (sym (ap (found_in s byte) (first_holder byte l.entries k e i))) (by k e i (block_in s e byte) refl)

  is_find : (r : Found) → IsFound l byte r → find l byte ≡ r
  unfolding find
  is_find nowhere h = ap (found_in s byte) (no_holder byte l.entries h)
  is_find (in_entry k e) h = ap (found_in s byte) (first_holder byte l.entries k e h.0) ∙ ap (found_by k e) ((no_block_exactly s e byte h.0.here).1 h.1)
  is_find (in_block k e b) h = ap (found_in s byte) (first_holder byte l.entries k e h.0) ∙ ap (found_by k e) ((in_block_exactly s e byte h.0.here b).1 h.1)

  -- one answer, and it is this one
  pub find_exactly : (r : Found) → find l byte ≡ r ↔ IsFound l byte r
  find_exactly r = (λ e. subst (IsFound l byte) e find_is, is_find r)

  -- the record of a block that is told lies in its entry's range of the pack
  pub told_inside : (k : ℕ) (e : Entry) (b : Block) → find l byte ≡ in_block k e b → sum e.lengths ≤ e.stored.len → Inside b.stored e.stored
  told_inside k e b f h = rw ((find_exactly (in_block k e b)).0 f).1.is_block.stored (stored_inside e b.number h)
