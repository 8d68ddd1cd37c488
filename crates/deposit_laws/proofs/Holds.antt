-- What the premises of these theorems hold of, and the theorem over calls of the writer said of records that are made from an identifier.
use Rattle.std.specs.Prelude.{ℕ, ◌^◌, ◌≤◌, ◌<◌, Bool, true, ◌&&◌, List, [], ◌∷◌, ◌≡◌, length}
use Rattle.std.proofs.Common.{ap}
use Rattle.slices.specs.Bytes.{AllBytes}
use Rattle.refusals.specs.Answers.{is_result}
use Rattle.tlv.specs.Layout.{layouts}
use Rattle.msgpack_model.specs.Bytes.{encoding_bytes}
use Rattle.identifier.specs.Identity.{Identity, is_valid}
use Rattle.identifier.specs.Ulid.{is_ulid}
use Rattle.records_model.specs.Written.{version_reads_back}
use Rattle.writer.specs.Values.{version_part}
use Rattle.writer.specs.Writing.{block, version, deletion}
use Rattle.writer_laws.specs.Encoded.{IdentityBytes, version_part_encodes}
use Rattle.writer_laws.specs.Calls.{records_of}
use Rattle.deposit_rules.specs.Buckets.{is_bucket_name}
use Rattle.deposit_laws.specs.Written.{version_keeps}
use Rattle.deposit_laws.specs.Calls.{DepositedCalls}
use Rattle.deposit_laws.proofs.Calls.{calls_deposited}
use Rattle.deposit_laws.specs.Holds.{block_depositable, deletion_depositable, version_depositable}

-- ---- the theorem over calls of the writer, said of a block, a version or delete marker, and a deletion that are made from one identifier

module _ (limit : ℕ) (small : limit < 2 ^ 32) where
  pub made_deposited : (i : Identity) (d u : List ℕ) (marker : Bool) (buf : List ℕ) → is_valid i ≡ true → is_ulid u ≡ true → is_bucket_name i.bucket ≡ true
      → IdentityBytes i → AllBytes d → AllBytes u
      → length (layouts (records_of (block i d ∷ version (version_part i marker) ∷ deletion i u ∷ []))) ≤ limit
      → length (layouts (records_of (block i d ∷ version (version_part i marker) ∷ deletion i u ∷ []))) ≤ length buf
      → DepositedCalls limit small (block i d ∷ version (version_part i marker) ∷ deletion i u ∷ []) buf
  made_deposited i d u marker buf v w n b c f l m =
      let part = version_part_encodes i marker v b in
      let reads = version_reads_back i marker v part in
      let both_so : (is_valid i && is_ulid u) ≡ true = rw (v, w) in
      calls_deposited limit small _ buf (v, (ap is_result reads, (both_so, tt))) ((b, c), (encoding_bytes part, ((b, f), tt)))
      (block_depositable i d n, (version_depositable (version_part i marker) _ reads n (version_keeps i marker v b), (deletion_depositable i u n, tt))) l m
