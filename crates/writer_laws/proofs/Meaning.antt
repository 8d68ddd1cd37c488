-- What each item means to a reader, and that the value written for it reads as that.
use Rattle.std.specs.Prelude.{ℕ, ◌^◌, ◌≤◌, ◌<◌, ◌&&◌, List, ◌≡◌, length}
use Rattle.std.proofs.Math.Bool.{true}
use Rattle.std.proofs.Math.Path.{refl}
use Rattle.std.proofs.Common.{ap, arith}
use Rattle.slices.specs.Bytes.{AllBytes}
use Rattle.slices.specs.Logic.{absurd_numbers, both}
use Rattle.refusals.specs.Answers.{Answer, refused, granted, is_result}
use Rattle.msgpack_model.specs.Bytes.{encoding_bytes}
use Rattle.identifier.specs.Identity.{Identity, is_valid}
use Rattle.identifier.specs.Ulid.{is_ulid}
use Rattle.primary.specs.Parts as primary
use Rattle.pack_list.specs.Lists as list
use Rattle.records.specs.Record as records
use Rattle.records.specs.Record.{version_tag, version_delete_tag, pack_list_tag, is_known, Contents, of_version, of_version_delete, of_pack_list, contents, read_record}
use Rattle.records_model.specs.Record.{record_in, with_held}
use Rattle.records_model.specs.Written.{held_alone, plain_reads_back, block_reads_back, delete_reads_back}
use Rattle.writer.specs.Values.{block_value, part_value, delete_part}
use Rattle.writer.specs.Writing.{Item, block, version, version_delete, pack_list, deletion, value_of, admitted}
use Rattle.writer_laws.specs.Encoded.{IdentityBytes}
use Rattle.writer_laws.specs.Meaning.{AreBytes, block_longer, Reads, block_part_lem, block_header_lem, part_value_lem, delete_part_lem}

-- ---- each item's value is bytes, and reads as the item means

module _ (limit : ℕ) (small : limit < 2 ^ 32) where
  module _ (i : Identity) (d : List ℕ) (bytes : IdentityBytes i) (v : is_valid i ≡ true) (l : length (block_value i d) ≤ limit) where
    block_reads : Reads limit small (block i d)
    unfolding block_value
    block_reads = let n = block_longer i d in block_reads_back limit i d v (omega arith) (block_part_lem limit small i d bytes v l) (block_header_lem limit small i d bytes v l)

  module _ (p : List ℕ) (bytes : AllBytes p) (l : length (part_value p) ≤ limit) where
    part_reads : (tag : ℕ) (c : Contents) → is_known tag ≡ true → contents tag p ≡ granted c
        → record_in (part_value p) (read_record limit tag (part_value p)) ≡ granted (record { held = held_alone p; contents = c })
    part_reads tag c known reads = plain_reads_back limit tag c known reads (part_value_lem limit small p bytes l)

    version_reads : is_result (primary.version p) ≡ true → Reads limit small (version p)
    unfolding contents is_known
    version_reads a = by (primary.version p) refl a
      where
        by : (r : Answer primary.Version) → primary.version p ≡ r → is_result r ≡ true
            → record_in (part_value p) (read_record limit version_tag (part_value p)) ≡ with_held (held_alone p) (of_version (primary.version p))
        by (granted v) e t = rw e (part_reads version_tag (record { identifier = v.identifier; kind = records.version v.deleted }) refl (ap of_version e))
        by (refused n) e t = absurd_numbers (cc)

    version_delete_reads : is_result (primary.version_delete p) ≡ true → Reads limit small (version_delete p)
    unfolding contents is_known
    version_delete_reads a = by (primary.version_delete p) refl a
      where
        by : (r : Answer primary.VersionDelete) → primary.version_delete p ≡ r → is_result r ≡ true
            → record_in (part_value p) (read_record limit version_delete_tag (part_value p)) ≡ with_held (held_alone p) (of_version_delete (primary.version_delete p))
        by (granted v) e t = rw e (part_reads version_delete_tag
            (record { identifier = v.identifier; kind = records.version_delete v.delete_id }) refl (ap of_version_delete e))
        by (refused n) e t = absurd_numbers (cc)

    pack_list_reads : is_result (list.pack_list p) ≡ true → Reads limit small (pack_list p)
    unfolding contents is_known
    pack_list_reads a = by (list.pack_list p) refl a
      where
        by : (r : Answer list.PackList) → list.pack_list p ≡ r → is_result r ≡ true
            → record_in (part_value p) (read_record limit pack_list_tag (part_value p)) ≡ with_held (held_alone p) (of_pack_list (list.pack_list p))
        by (granted v) e t = rw e (part_reads pack_list_tag
            (record { identifier = v.identifier; kind = records.pack_list v.entries }) refl (ap of_pack_list e))
        by (refused n) e t = absurd_numbers (cc)

  module _ (i : Identity) (u : List ℕ) (bytes : IdentityBytes i × AllBytes u) (a : (is_valid i && is_ulid u) ≡ true)
      (l : length (part_value (delete_part i u)) ≤ limit) where
    deletion_reads : Reads limit small (deletion i u)
    unfolding is_known
    deletion_reads =
        let t = both (is_valid i) (is_ulid u) a in
        part_reads (delete_part i u) (encoding_bytes (delete_part_lem limit small i u bytes a l)) l version_delete_tag _ refl (delete_reads_back i u t.0 t.1 (delete_part_lem limit small i u bytes a l))

  pub item_reads : (item : Item) → AreBytes item → admitted item ≡ true → length (value_of item) ≤ limit → Reads limit small item
  item_reads (block i d) b a l = block_reads i d b.0 a l
  item_reads (version p) b a l = version_reads p b l a
  item_reads (version_delete p) b a l = version_delete_reads p b l a
  item_reads (pack_list p) b a l = pack_list_reads p b l a
  item_reads (deletion i u) b a l = deletion_reads i u b a l
