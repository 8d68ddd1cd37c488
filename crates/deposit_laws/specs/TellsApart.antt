-- The relations that the deposit's theorems are said with tell things apart: what differs in one respect alone is not related.
use Rattle.std.specs.Prelude.{ℕ, ◌^◌, ◌<◌, List, ◌≡◌, length, take}
use Rattle.std.proofs.Common.{sym, ap, ◌∙◌}
use Rattle.slices.specs.Logic.{absurd_numbers}
use Rattle.pack.specs.declared.Entry.{Entry}
use Rattle.pack.specs.Reading.{counted}
use Rattle.identifier.specs.Identity.{Identity}
use Rattle.records.specs.Record as records
use Rattle.records.specs.Record.{block_tag, read_record}
use Rattle.refusals.specs.Answers.{granted}
use Rattle.writer.specs.Writing.{Item}
use Rattle.writer_laws.specs.Calls.{all_written, stopped, write_all}
use Rattle.deposit.specs.Packs.{value_at, deposit}
use Rattle.deposit_laws.specs.Calls.{DepositedCalls}
use Rattle.deposit_laws.specs.Blocks.{data_in}
use Rattle.deposit_laws.specs.Equal.{IsBlock}

-- ---- a block of a pack

module _ (limit : ℕ) (s : List ℕ) (e : Entry) (i : Identity) (d : List ℕ) where
  pub tag_is_no_blocks : (e.tag ≡ block_tag → ⊥) → IsBlock limit s e i d → ⊥
  tag_is_no_blocks f x = f x.tag

  -- the record r is read there
  module _ (r : records.Record) (is : read_record limit block_tag (value_at s e.start e.length) ≡ granted r) (x : IsBlock limit s e i d) where
    read_is : x.read ≡ r
    read_is = cc (sym x.reads ∙ is)

    pub identifiers_differ : (r.contents.identifier ≡ i → ⊥) → ⊥
    identifiers_differ f = f (ap (λ (k : records.Record). k.contents.identifier) (sym read_is) ∙ x.identifier)

    pub contents_differ : (data_in (value_at s e.start e.length) r.told ≡ d → ⊥) → ⊥
    contents_differ f = f (ap (λ (k : records.Record). data_in (value_at s e.start e.length) k.told) (sym read_is) ∙ x.data_is)

-- ---- calls of the writer

module _ (limit : ℕ) (small : limit < 2 ^ 32) (items : List Item) (buf : List ℕ) where
  pub call_is_refused : (n : ℕ) → write_all limit items 0 buf ≡ stopped n → DepositedCalls limit small items buf → ⊥
  call_is_refused n is x = let e = sym is ∙ x.written in absurd_numbers (cc)

  pub is_not_deposited : (n : ℕ) (exit : List ℕ) → write_all limit items 0 buf ≡ all_written n exit → (deposit limit (take n exit) ≡ counted (length items) → ⊥)
      → DepositedCalls limit small items buf → ⊥
  is_not_deposited n exit is f x =
      let e = sym x.written ∙ is in
      let count : x.count ≡ n = cc in
      let same : x.exit ≡ exit = cc in
      f (rw (← count, ← same) x.deposited)
