-- A deposited block's record is, byte for byte and header included, what our writer writes for its identifier and data; so two deposited blocks with equal
-- identifier and equal data are equal bytes (request 9).
use Rattle.std.specs.Prelude.{ℕ, ◌+◌, ◌^◌, ◌≤◌, ◌<◌, ◌≡◌, length, take, drop}
use mathlib.Core.List.{List, Memᴰ}
use Rattle.std.proofs.Common.{sym, ap, ap₂, subst, ◌∙◌, arith, length-take, length-drop, take_at}
use Rattle.slices.specs.Bytes.{AllBytes, take_bytes, drop_bytes}
use Rattle.refusals.specs.Answers.{Answer, granted}
use Rattle.tlv.specs.Layout.{layout, length_layout}
use Rattle.pack.specs.declared.Entry.{Entry}
use Rattle.pack.specs.Reading.{whole, reading}
use Rattle.pack.proofs.Acceptance.{accepted_within}
use Rattle.identifier.specs.Identity.{Identity}
use Rattle.records.specs.Record.{block_tag, primary_in, read_record}
use Rattle.writer.specs.Values.{block_value}
use Rattle.writer.specs.Writing.{block, item_bytes}
use Rattle.deposit.specs.Exactly.{Keeps}
use Rattle.deposit.specs.Packs.{value_at, spare_at, deposit_reading}
use Rattle.deposit.proofs.Deposited.{deposited_exactly}
use Rattle.deposit_laws.specs.Calls.{behind, spare_there, value_at_lem}
use Rattle.deposit_laws.specs.Blocks.{block_is}
use Rattle.deposit_laws.specs.Equal.{of_pack, record_bytes, IsBlock}

-- ---- a block of a pack

same_result : {A : Type 0} {a b : A} → ◌≡◌ {A = Answer A} (granted a) (granted b) → a ≡ b
same_result e = cc

module _ (limit : ℕ) (small : limit < 2 ^ 32) (s : List ℕ) (bytes : AllBytes s) (deposited : (deposit_reading limit s).ending ≡ whole) (e : Entry)
    (there : Memᴰ e (reading limit s).entries) (i : Identity) (d : List ℕ) (is_Block : IsBlock limit s e i d) where
  -- its value is the writer's, and bytes 28 and 29 are 0
  value_is : (value_at s e.start e.length ≡ block_value i d) × (spare_at s e.start ≡ 0)
  value_is =
      let may = ((deposited_exactly limit s).0 deposited).1 e there in
      let within = accepted_within limit s ((deposited_exactly limit s).0 deposited).0 in
      let v : List ℕ = value_at s e.start e.length in
      let same : may.read ≡ is_Block.read = same_result (sym may.reads ∙ ap (λ t. read_record limit t v) is_Block.tag ∙ is_Block.reads) in
      let size : length v ≤ limit = omega (arith, length-take e.length (drop (e.start + 32) s), length-drop (e.start + 32) s) in
      let kept = subst (λ r. Keeps block_tag (spare_at s e.start) v (primary_in v r.told) r.contents.identifier.bucket) same
      (subst (λ t. Keeps t (spare_at s e.start) v (primary_in v may.read.told) may.read.contents.identifier.bucket)
      is_Block.tag may.keeps) in (
        block_is limit small v (take_bytes e.length (drop (e.start + 32) s) (drop_bytes (e.start + 32) bytes)) size is_Block.read
            is_Block.reads _ kept ∙ ap₂ block_value is_Block.identifier is_Block.data_is,
        may.keeps.spare_zero,
      )

  -- THE THEOREM
  pub deposited_bytes : record_bytes s e ≡ item_bytes (block i d)
  deposited_bytes =
      let p = of_pack limit s bytes ((deposited_exactly limit s).0 deposited).0 e there in
      let start : e.start ≡ length p.front = ap (λ (x : Entry). x.start) p.is in
      let long : e.length ≡ length p.held.value = ap (λ (x : Entry). x.length) p.is in
      let tag : p.held.tag ≡ block_tag = sym (ap (λ (x : Entry). x.tag) p.is) ∙ is_Block.tag in
      let spare : p.held.spare ≡ 0 = sym (spare_there p.front p.rest p.held p.fit) ∙ ap₂ spare_at (sym p.split) (sym start) ∙ value_is.1 in
      let val : p.held.value ≡ block_value i d = sym (value_at_lem p.front p.rest p.held p.fit)
      ∙ (λ j. value_at (sym p.split j) (sym start j) (sym long j)) ∙ value_is.0 in
      let front_is : record_bytes s e ≡ layout p.held
      = (λ j. take (32 + long j) (drop (start j) (p.split j)))
      ∙ ap (take (32 + length p.held.value)) (behind p.front p.rest p.held p.fit)
      ∙ take_at (layout p.held) p.rest (32 + length p.held.value) (length_layout p.held) in
      front_is ∙ (λ j. layout (record { spare = spare j; tag = tag j; value = val j }))

-- of two packs
pub equal_bytes : (limit : ℕ) → limit < 2 ^ 32 → (s t : List ℕ) → AllBytes s → AllBytes t
    → (deposit_reading limit s).ending ≡ whole → (deposit_reading limit t).ending ≡ whole
    → (e f : Entry) → Memᴰ e (reading limit s).entries → Memᴰ f (reading limit t).entries
    → (i : Identity) (d : List ℕ) → IsBlock limit s e i d → IsBlock limit t f i d → record_bytes s e ≡ record_bytes t f
equal_bytes limit small s t b c p q e f m n i d x y =
    deposited_bytes limit small s b p e m i d x ∙ sym (deposited_bytes limit small t c q f n i d y)
