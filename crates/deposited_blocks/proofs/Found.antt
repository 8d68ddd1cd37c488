-- What a deposited block is, without computation; and THE THEOREM: two with the same identifier and the same data are the same bytes, header included.
use Prim.Native.Nat.{ℕ, zero, suc, ◌^◌, ◌<◌}
use Rattle.std.specs.Prelude.{Bool, true, false, cond, ◌&&◌, ◌↔◌, ◌≡◌, eqb}
use mathlib.Core.List.{List, [], ◌∷◌, Memᴰ}
use Rattle.std.specs.Prelude.{Option, None, Some}
use Rattle.std.proofs.Math.Path.{refl, ap}
use Rattle.std.proofs.Common.{sym, subst, ◌∙◌}
use borrow.Author.Tests.{eq-eqb, eqb-true}
use Rattle.slices.specs.Bytes.{AllBytes, same_bytes, same_bytes_equal}
use Rattle.slices.specs.Logic.{absurd_numbers, both}
use Rattle.refusals.specs.Answers.{Answer, refused as no_result, granted}
use Rattle.pack.specs.declared.Entry.{Entry}
use Rattle.pack.specs.Reading.{Ending, whole, refused, reading}
use Rattle.pack.specs.Walk.{Yield, entry, ended, refusal, nth_of, nth_yield}
use Rattle.identifier.specs.Identity.{same_identity, same_identity_true}
use Rattle.records.specs.Record.{block_tag, Record, AtPlace, there, refused_at, alone, read_record, at_place, record_at}
use Rattle.deposit.specs.Packs.{value_at, deposit_reading}
use Rattle.deposit.proofs.Deposited.{deposited_exactly}
use Rattle.deposit_laws.specs.Blocks.{data_in}
use Rattle.deposit_laws.specs.Equal.{record_bytes, IsBlock, record_there}
use Rattle.deposit_laws.proofs.Equal.{equal_bytes}
use Rattle.deposited_blocks.specs.Same.{Block, block_in, block_at, if_deposited, deposited_block, same_block, bytes_at, EqualBytes}
use Rattle.deposited_blocks.specs.Found.{BlockNumber}

-- ---- record number n is one of the pack's

nth_member : (es : List Entry) (x : Ending) (n : ℕ) (e : Entry) → nth_of es x n ≡ entry e → Memᴰ e es
nth_member [] whole n e q = absurd_numbers (cc)
nth_member [] (refused k at) n e q = absurd_numbers (cc)
nth_member (d ∷ es) x zero e q = let same : e ≡ d = cc in Memᴰ.head same
nth_member (d ∷ es) x (suc n) e q = Memᴰ.tail (nth_member es x n e q)

-- ---- what it is that deposited_block tells

module _ (limit : ℕ) (s : List ℕ) (bytes : AllBytes s) (n : ℕ) (b : Block) where
  -- the record at an entry's start is that of its tag and value
  record_at_lem : (deposit_reading limit s).ending ≡ whole → (e : Entry) → nth_yield (reading limit s) n ≡ entry e
      → record_at limit s e.start ≡ at_place (value_at s e.start e.length) (read_record limit e.tag (value_at s e.start e.length))
  record_at_lem d e q = record_there limit s bytes ((deposited_exactly limit s).0 d).0 e (nth_member (reading limit s).entries (reading limit s).ending n e q)

  is_number : deposited_block limit s n ≡ Some b → BlockNumber limit s n b
  unfolding deposited_block
  is_number f = by_ending (deposit_reading limit s).ending refl f
    where
      by_record : (deposit_reading limit s).ending ≡ whole → (e : Entry) → nth_yield (reading limit s) n ≡ entry e → e.tag ≡ block_tag
          → (a : Answer Record) → read_record limit e.tag (value_at s e.start e.length) ≡ a
          → block_in (at_place (value_at s e.start e.length) a) ≡ Some b → BlockNumber limit s n b
      by_record d e q t (granted r) p g =
          let is : record { identifier = r.contents.identifier; content = data_in (value_at s e.start e.length) r.told } ≡ b = cc in
          record {
            deposited = d;
            record_is = e;
            numbered = q;
            is_block =
                record {
                  tag = t;
                  read = r;
                  reads = ap (λ k. read_record limit k (value_at s e.start e.length)) (sym t) ∙ p;
                  identifier = ap (λ (x : Block). x.identifier) is;
                  data_is = ap (λ (x : Block). x.content) is;
                };
          }
      by_record d e q t (no_result k) p g = absurd_numbers (cc)

      by_tag : (deposit_reading limit s).ending ≡ whole → (e : Entry) → nth_yield (reading limit s) n ≡ entry e → (t : Bool) → eqb e.tag block_tag ≡ t
          → cond t (block_in (record_at limit s e.start)) None ≡ Some b → BlockNumber limit s n b
      by_tag d e q true t g = by_record d e q (eqb-true e.tag block_tag t) (read_record limit e.tag (value_at s e.start e.length)) refl
          (ap block_in (sym (record_at_lem d e q)) ∙ g)
      by_tag d e q false t g = absurd_numbers (cc)

      by_yield : (deposit_reading limit s).ending ≡ whole → (y : Yield) → nth_yield (reading limit s) n ≡ y → block_at limit s y ≡ Some b → BlockNumber limit s n b
      by_yield d (entry e) q g = by_tag d e q (eqb e.tag block_tag) refl g
      by_yield d ended q g = absurd_numbers (cc)
      by_yield d (refusal k at) q g = absurd_numbers (cc)

      by_ending : (x : Ending) → (deposit_reading limit s).ending ≡ x → if_deposited x (block_at limit s (nth_yield (reading limit s) n)) ≡ Some b
          → BlockNumber limit s n b
      by_ending whole d g = by_yield d (nth_yield (reading limit s) n) refl g
      by_ending (refused k at) d g = absurd_numbers (cc)

  number_is : BlockNumber limit s n b → deposited_block limit s n ≡ Some b
  unfolding deposited_block
  number_is x =
      let e : Entry = x.record_is in
      let i = x.is_block in
      let v : List ℕ = value_at s e.start e.length in
      let reads : read_record limit e.tag v ≡ granted i.read = ap (λ k. read_record limit k v) i.tag ∙ i.reads in
      let there_is : record_at limit s e.start ≡ there v i.read = record_at_lem x.deposited e x.numbered ∙ ap (at_place v) reads in
      rw (x.deposited, x.numbered, eq-eqb e.tag block_tag i.tag, there_is, i.identifier, i.data_is)

  -- a block is told exactly where the pack is deposited and its record of this number reads as that block
  pub block_exactly : deposited_block limit s n ≡ Some b ↔ BlockNumber limit s n b
  block_exactly = (is_number, number_is)

-- ---- two blocks

same_block_lem : (a b : Block) → (same_identity a.identifier b.identifier && same_bytes a.content b.content) ≡ true → a ≡ b
same_block_lem a b e =
    let t = both (same_identity a.identifier b.identifier) (same_bytes a.content b.content) e in
    let i = same_identity_true a.identifier b.identifier t.0 in
    let d = same_bytes_equal a.content b.content t.1 in
    λ j. record { identifier = i j; content = d j }

module _ (limit : ℕ) (small : limit < 2 ^ 32) (s t : List ℕ) (b : AllBytes s) (c : AllBytes t) (n m : ℕ) where
  bytes_are_equal : (x : Block) → BlockNumber limit s n x → BlockNumber limit t m x → EqualBytes limit s n t m
  bytes_are_equal x p q =
      let e : Entry = p.record_is in
      let f : Entry = q.record_is in
      let there-e = nth_member (reading limit s).entries (reading limit s).ending n e p.numbered in
      let there-f = nth_member (reading limit t).entries (reading limit t).ending m f q.numbered in
      let same : record_bytes s e ≡ record_bytes t f
      = equal_bytes limit small s t b c p.deposited q.deposited e f there-e there-f x.identifier x.content p.is_block q.is_block in
      record {
        bytes = record_bytes s e;
        first = ap (bytes_at s) p.numbered;
        second = ap (bytes_at t) q.numbered ∙ ap Some (sym same);
      }

  -- THE THEOREM
  pub same_block_bytes : same_block (deposited_block limit s n) (deposited_block limit t m) ≡ true → EqualBytes limit s n t m
  same_block_bytes e = by (deposited_block limit s n) refl (deposited_block limit t m) refl e
    where
      by : (o : Option Block) → deposited_block limit s n ≡ o → (q : Option Block) → deposited_block limit t m ≡ q → same_block o q ≡ true
          → EqualBytes limit s n t m
      by (Some x) p (Some y) q g =
          let same : x ≡ y = same_block_lem x y g in
          bytes_are_equal x ((block_exactly limit s b n x).0 p) ((block_exactly limit t c m x).0 (q ∙ ap Some (sym same)))
      by (Some x) p None q g = absurd_numbers (cc)
      by None p o q g = absurd_numbers (cc)
