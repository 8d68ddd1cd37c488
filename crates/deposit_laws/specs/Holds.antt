-- What the premises of these theorems hold of, and the theorem over calls of the writer said of records that are made from an identifier.
use Rattle.std.specs.Prelude.{ℕ, ◌+◌, ◌^◌, ◌≤◌, ◌<◌, true, List, ◌++◌, ◌≡◌, refl, length}
use Rattle.std.proofs.Common.{sym, ap, ◌∙◌, arith, length-append}
use Rattle.slices.specs.Bytes.{AllBytes}
use Rattle.refusals.specs.Answers.{granted}
use Rattle.tlv.specs.Layout.{length_layout}
use Rattle.pack.specs.Acceptance.{entry_of}
use Rattle.identifier.specs.Identity.{Identity, is_valid}
use Rattle.primary.specs.Parts as primary
use Rattle.pack_list.specs.Lists as list
use Rattle.records.specs.Record.{block_tag, version_tag, version_delete_tag, pack_list_tag, Contents, of_version, of_version_delete, of_pack_list, read_record}
use Rattle.records_model.specs.Header.{Held}
use Rattle.records_model.specs.Record.{RecordHeld, with_held, is_held}
use Rattle.records_model.specs.Written.{held_alone}
use Rattle.writer.specs.Values.{block_value}
use Rattle.writer.specs.Writing.{Item, block, version, version_delete, pack_list, deletion, item_bytes}
use Rattle.writer_laws.specs.Encoded.{IdentityBytes}
use Rattle.writer_laws.specs.Meaning.{held_of}
use Rattle.writer_laws.proofs.Meaning.{item_reads}
use Rattle.writer_laws.specs.Calls.{record_for}
use Rattle.writer_laws.specs.ReadBack.{fits}
use Rattle.deposit_rules.specs.Buckets.{is_bucket_name}
use Rattle.deposit_laws.specs.Written.{PartKeeps, Depositable}
use Rattle.deposit_laws.specs.Calls.{value_at_lem}
use Rattle.deposit_laws.specs.Blocks.{data_in}
use Rattle.deposit_laws.specs.Equal.{IsBlock}

-- ---- Depositable

-- an item means one record
named_well : (item : Item) (k : RecordHeld) → held_of item ≡ granted k → is_bucket_name k.contents.identifier.bucket ≡ true
    → (h : RecordHeld) → held_of item ≡ granted h → is_bucket_name h.contents.identifier.bucket ≡ true
named_well item k is n h e = let same : k ≡ h = cc (sym is ∙ e) in rw (← same) n

-- what is made from an identifier with such a bucket
pub block_depositable : (i : Identity) (d : List ℕ) → is_bucket_name i.bucket ≡ true → Depositable (block i d)
block_depositable i d n = record { handed = tt; named = named_well (block i d) _ refl n }

pub deletion_depositable : (i : Identity) (u : List ℕ) → is_bucket_name i.bucket ≡ true → Depositable (deletion i u)
deletion_depositable i u n = record { handed = tt; named = named_well (deletion i u) _ refl n }

-- a part handed in that reads with such a bucket and keeps rules 23 and 24
pub version_depositable : (p : List ℕ) (v : primary.Version) → primary.version p ≡ granted v → is_bucket_name v.identifier.bucket ≡ true
    → PartKeeps version_tag p → Depositable (version p)
version_depositable p v reads n k = record { handed = k; named = named_well (version p) _ (ap (λ a. with_held (held_alone p) (of_version a)) reads) n }

pub delete_depositable : (p : List ℕ) (v : primary.VersionDelete) → primary.version_delete p ≡ granted v → is_bucket_name v.identifier.bucket ≡ true
    → PartKeeps version_delete_tag p → Depositable (version_delete p)
delete_depositable p v reads n k =
    record { handed = k; named = named_well (version_delete p) _ (ap (λ a. with_held (held_alone p) (of_version_delete a)) reads) n }

pub pack_list_depositable : (p : List ℕ) (v : list.PackList) → list.pack_list p ≡ granted v → is_bucket_name v.identifier.bucket ≡ true
    → PartKeeps pack_list_tag p → Depositable (pack_list p)
pack_list_depositable p v reads n k =
    record { handed = k; named = named_well (pack_list p) _ (ap (λ a. with_held (held_alone p) (of_pack_list a)) reads) n }
    -- ---- IsBlock: each block that our writer writes, wherever it stands

module _ (limit : ℕ) (small : limit < 2 ^ 32) where
  pub written_is_block : (i : Identity) (d front rest : List ℕ) → IdentityBytes i → AllBytes d → is_valid i ≡ true
      → length (front ++ (item_bytes (block i d) ++ rest)) ≤ limit
      → IsBlock limit (front ++ (item_bytes (block i d) ++ rest)) (entry_of (length front) (record_for (block i d))) i d
  written_is_block i d front rest b c v l =
      let long : length (front ++ (item_bytes (block i d) ++ rest)) ≡ length front + (length (item_bytes (block i d)) + length rest)
      = length-append front (item_bytes (block i d) ++ rest) ∙ ap (λ k. length front + k) (length-append (item_bytes (block i d)) rest) in
      let within : length (block_value i d) ≤ limit = omega (arith, length_layout (record_for (block i d))) in
      let r = is_held (block_value i d) (read_record limit block_tag (block_value i d)) _ (item_reads limit small (block i d) (b, c) v within) in
      let there = value_at_lem front rest (record_for (block i d)) (fits limit small (block i d) (b, c) v within) in
      record {
        tag = refl;
        read = r.found;
        reads = ap (read_record limit block_tag) there ∙ r.is;
        identifier = ap (λ (k : Contents). k.identifier) r.same_contents;
        data_is = ap (λ s. data_in s r.found.told) there ∙ ap (λ (k : Held). k.secondary) r.same_held;
      }
