-- What our writer writes may be deposited, where the bucket is such a name, and the primary part handed in keeps rules 23 and 24 (request 9).
use Rattle.std.specs.Prelude.{ℕ, ◌^◌, ◌≤◌, ◌<◌, ◌≡◌, length}
use Rattle.std.proofs.Math.Bool.{true}
use mathlib.Core.List.{List, [], ◌∷◌, ◌++◌, append-nil}
use Rattle.std.specs.Prelude.{Option, None, Some}
use Rattle.std.proofs.Math.Path.{refl, ap}
use Rattle.std.proofs.Common.{◌∙◌, arith, length-append}
use Rattle.slices.specs.Bytes.{AllBytes, cons_bytes, append_bytes, same_bytes}
use Rattle.slices.specs.Logic.{absurd_numbers, both}
use Rattle.refusals.specs.Sheet.{lowest}
use Rattle.refusals.specs.Answers.{Answer, refused, granted}
use Rattle.msgpack.specs.Readers.{plus}
use Rattle.msgpack.specs.Views.{byte_view, SameUnder, both_found, Both, both as both_there, Each, and_each}
use Rattle.msgpack.specs.Lookup.{Under, found, missing, broken}
use Rattle.msgpack_forms.specs.Items.{all_short}
use Rattle.msgpack_model.specs.Values.{Value, Text, Integer, Array, Map, no_values_lem, value, no_pairs, pair}
use Rattle.msgpack_model.specs.Encoding.{Encodes}
use Rattle.msgpack_model.specs.Bytes.{encoding_bytes}
use Rattle.msgpack_model.specs.Views.{Shows, shown}
use Rattle.msgpack_model.proofs.Views.{bytes_alike, keys_alike}
use Rattle.identifier.specs.Identity.{Identity, is_valid}
use Rattle.identifier.specs.Composite.{composite_text}
use Rattle.identifier.specs.Ulid.{is_ulid}
use Rattle.value.specs.Header.{primary_key, secondary_key, length_key, header_keys}
use Rattle.primary.specs.Parts as primary
use Rattle.primary.specs.Parts.{identifier_key}
use Rattle.records.specs.Record as records
use Rattle.pack_list.specs.Lists as list
use Rattle.records.specs.Record.{block_tag, version_tag, version_delete_tag, pack_list_tag, Contents, of_version, of_version_delete, of_pack_list, primary_in, read_record}
use Rattle.records_model.specs.Header.{Held}
use Rattle.records_model.specs.Record.{RecordHeld, record_in, with_held, is_held}
use Rattle.records_model.specs.Written as values
use Rattle.records_model.specs.Written.{held_alone, held_with}
use Rattle.writer.specs.Values.{block_header, block_part, block_value, part_value, delete_part}
use Rattle.writer.specs.Writing.{Item, block, version, version_delete, pack_list, deletion, tag_of, value_of, admitted}
use Rattle.writer.specs.Limits.{content_within}
use Rattle.writer_laws.specs.Encoded.{IdentityBytes, part_value_encodes, block_header_encodes, block_part_encodes, delete_part_encodes}
use Rattle.writer_laws.specs.Short.{part_value_short, block_header_short, block_part_short, delete_part_short}
use Rattle.writer_laws.specs.Meaning.{held_of, AreBytes}
use Rattle.writer_laws.proofs.Meaning.{item_reads}
use Rattle.writer_laws.specs.ReadBack.{means}
use Rattle.deposit_rules.specs.Keys.{keys_of, is_one_of, are_among, are_these}
use Rattle.deposit_rules.specs.Letters.{part_keys, written_keys}
use Rattle.deposit_rules.specs.Blocks.{is_one_map, is_one_map_under, has_length_alone, is_there, is_text_under, has_identifier_alone}
use Rattle.deposit_rules.specs.Buckets.{is_bucket_name}
use Rattle.deposit.specs.Profile.{is_block_plain, profile_rows, fault_of}
use Rattle.deposit_laws.specs.Keys.{keys_read, under_read}
use Rattle.deposit_laws.specs.Written.{PartKeeps, HandedKeeps, Depositable, each_length, primary_of}

-- ---- the six rules together

rows_kept : (tag : ℕ) (header part bucket : List ℕ) → all_short header ≡ true → all_short part ≡ true
    → are_among header_keys (keys_of header) ≡ true → are_among (part_keys tag) (keys_of part) ≡ true
    → are_these (written_keys tag) (keys_of header) ≡ true → is_block_plain tag header part ≡ true → is_bucket_name bucket ≡ true
    → lowest (profile_rows tag 0 header part bucket) ≡ None
unfolding profile_rows lowest
rows_kept tag header part bucket sh sp gh gp o b n = rw (sh, sp, gh, gp, o, b, n)

-- a record that reads as h
fault_none : (limit tag : ℕ) (s : List ℕ) (h : RecordHeld) → record_in s (read_record limit tag s) ≡ granted h
    → lowest (profile_rows tag 0 s h.held.primary h.contents.identifier.bucket) ≡ None → fault_of limit tag 0 s ≡ None
unfolding fault_of
fault_none limit tag s h reads kept =
    let f = is_held s (read_record limit tag s) h reads in
    let primary : primary_in s f.found.told ≡ h.held.primary = ap (λ (k : Held). k.primary) f.same_held in
    let contents : f.found.contents ≡ h.contents = f.same_contents in
    rw (f.is, primary, contents) kept

-- ---- the header {e}

module _ (tag : ℕ) (p : List ℕ) (bytes : AllBytes p) (size : length p < 2 ^ 32) where
  plain_shows : Shows (part_value p) (values.plain_header p)
  plain_shows = shown (part_value_encodes p bytes size) (omega arith)

  plain_keys : keys_of (part_value p) ≡ Some primary_key ∷ []
  plain_keys = keys_read plain_shows

  plain_rows : (bucket : List ℕ) → written_keys tag ≡ primary_key ∷ [] → is_block_plain tag (part_value p) p ≡ true → PartKeeps tag p → is_bucket_name bucket ≡ true
      → lowest (profile_rows tag 0 (part_value p) p bucket) ≡ None
  unfolding are_among is_one_of are_these same_bytes
  plain_rows bucket order other k n =
      rows_kept tag (part_value p) p bucket (rw append-nil at (part_value_short p bytes size [])) k.0 (rw plain_keys) k.1 (rw (plain_keys, order)) other n

-- ---- a block

module _ (i : Identity) (d : List ℕ) (v : is_valid i ≡ true) (bytes : AllBytes (composite_text i)) (size : length d < 2 ^ 32) where
  part_encodes : Encodes (values.block_part i) (block_part i)
  part_encodes = block_part_encodes i v bytes

  part_shows : Shows (block_part i) (values.block_part i)
  part_shows = shown part_encodes (omega arith)

  module _ (part-size : length (block_part i) < 2 ^ 32) where
    header_shows : Shows (block_value i d) (values.block_header (length d) (block_part i))
    unfolding block_value
    header_shows = record {
      front = block_header (length d) (length (block_part i)) ++ block_part i;
      rest = d;
      is = refl;
      encodes = block_header_encodes (block_part i) (encoding_bytes part_encodes) part-size (length d) (omega arith);
      shallow = omega arith;
    }

    header_keys_lem : keys_of (block_value i d) ≡ Some secondary_key ∷ Some primary_key ∷ []
    header_keys_lem = keys_read header_shows

    part_keys_lem : keys_of (block_part i) ≡ Some identifier_key ∷ []
    part_keys_lem = keys_read part_shows

    length_alone : has_length_alone (block_value i d) ≡ true
    unfolding has_length_alone are_these same_bytes
    length_alone = rw (under_read secondary_key header_shows)
        (by (byte_view.under secondary_key (block_value i d)) (keys_alike (secondary_key ∷ []) header_shows).0)
      where
        inner : Value
        inner = Map (pair (Text length_key) (Integer (plus (length d))) no_pairs)

        items : (o : Option (List (List ℕ))) → Both (Each Shows) o (Some (inner ∷ [])) → is_one_map (length_key ∷ []) o ≡ true
        items (Some []) (both_there r) = absurd (omega (arith, each_length r))
        items (Some (m ∷ [])) (both_there (and_each z r)) = rw (keys_read z)
        items (Some (m ∷ n ∷ ms)) (both_there r) = absurd (omega (arith, each_length r))
        items None z = elim z [ ]

        by : (o : Under (List ℕ)) → SameUnder Shows o (found (Array (value inner no_values_lem))) → is_one_map_under (length_key ∷ []) o ≡ true
        by (found l) (both_found y) = items (byte_view.items l) (bytes_alike.items y)
        by missing z = elim z [ ]
        by broken z = elim z [ ]

    identifier_alone : has_identifier_alone (block_part i) ≡ true
    unfolding has_identifier_alone are_these same_bytes
    identifier_alone = rw (part_keys_lem, under_read identifier_key part_shows)
        (by (byte_view.under identifier_key (block_part i)) (keys_alike (identifier_key ∷ []) part_shows).0)
      where
        by : (o : Under (List ℕ)) → SameUnder Shows o (found (Text (composite_text i))) → is_text_under o ≡ true
        by (found t) (both_found y) = ap is_there (bytes_alike.text y)
        by missing z = elim z [ ]
        by broken z = elim z [ ]

    block_rows : (bucket : List ℕ) → is_bucket_name bucket ≡ true → lowest (profile_rows block_tag 0 (block_value i d) (block_part i) bucket) ≡ None
    unfolding are_among is_one_of are_these same_bytes written_keys part_keys is_block_plain
    block_rows bucket n =
        rows_kept block_tag (block_value i d) (block_part i) bucket short_value (rw append-nil at (block_part_short i v bytes []))
        (rw header_keys_lem) (rw part_keys_lem) (rw header_keys_lem) (rw (length_alone, identifier_alone)) n
      where
        short_value : all_short (block_value i d) ≡ true
        short_value = unfold block_value in block_header_short (block_part i) (encoding_bytes part_encodes) part-size d (length d) (omega arith)

-- ---- each item

held_primary : (item : Item) (h : RecordHeld) → held_of item ≡ granted h → h.held.primary ≡ primary_of item
held_primary (block i d) h e =
    let is : record { held = held_with (block_part i) d; contents = record { identifier = i; kind = records.block } } ≡ h = cc in
    rw (← is)
held_primary (version p) h e = by (of_version (primary.version p)) e
  where
    by : (c : Answer Contents) → with_held (held_alone p) c ≡ granted h → h.held.primary ≡ p
    by (granted c) q = let is : record { held = held_alone p; contents = c } ≡ h = cc in rw (← is)
    by (refused n) q = absurd_numbers (cc)
held_primary (version_delete p) h e = by (of_version_delete (primary.version_delete p)) e
  where
    by : (c : Answer Contents) → with_held (held_alone p) c ≡ granted h → h.held.primary ≡ p
    by (granted c) q = let is : record { held = held_alone p; contents = c } ≡ h = cc in rw (← is)
    by (refused n) q = absurd_numbers (cc)
held_primary (pack_list p) h e = by (of_pack_list (list.pack_list p)) e
  where
    by : (c : Answer Contents) → with_held (held_alone p) c ≡ granted h → h.held.primary ≡ p
    by (granted c) q = let is : record { held = held_alone p; contents = c } ≡ h = cc in rw (← is)
    by (refused n) q = absurd_numbers (cc)
held_primary (deletion i u) h e =
    let is : record { held = held_alone (delete_part i u); contents = record { identifier = i; kind = records.version_delete u } } ≡ h = cc in
    rw (← is)

-- a made delete part has document 001's keys
delete_keeps : (i : Identity) (u : List ℕ) → is_valid i ≡ true → is_ulid u ≡ true → IdentityBytes i → AllBytes u → PartKeeps version_delete_tag (delete_part i u)
unfolding are_among is_one_of same_bytes part_keys
delete_keeps i u v w b c =
    let x : Shows (delete_part i u) (values.delete_part i u) = shown (delete_part_encodes i u v w b c) (omega arith) in
    (rw append-nil at (delete_part_short i u v w b c []), rw (keys_read x))

composite_bytes : (i : Identity) → IdentityBytes i → AllBytes (composite_text i)
unfolding composite_text
composite_bytes i b = append_bytes (i.ulid ++ _) (append_bytes i.ulid b.ulid (cons_bytes (omega arith) b.bucket))
    (cons_bytes (omega arith) b.object)

part_longer : (i : Identity) (d : List ℕ) → length (block_part i) ≤ length (block_value i d)
unfolding block_value
part_longer i d = simp length-append (omega arith)

module _ (limit : ℕ) (small : limit < 2 ^ 32) where
  item_rows : (item : Item) → AreBytes item → admitted item ≡ true → length (value_of item) ≤ limit → HandedKeeps item
      → (bucket : List ℕ) → is_bucket_name bucket ≡ true → lowest (profile_rows (tag_of item) 0 (value_of item) (primary_of item) bucket) ≡ None
  unfolding written_keys is_block_plain
  item_rows (block i d) b a l k bucket n =
      block_rows i d a (composite_bytes i b.0) (omega (arith, content_within (block i d))) (omega (arith, part_longer i d)) bucket n
  item_rows (version p) b a l k bucket n = plain_rows version_tag p b (omega (arith, content_within (version p))) bucket refl refl k n
  item_rows (version_delete p) b a l k bucket n = plain_rows version_delete_tag p b (omega (arith, content_within (version_delete p))) bucket refl refl k n
  item_rows (pack_list p) b a l k bucket n = plain_rows pack_list_tag p b (omega (arith, content_within (pack_list p))) bucket refl refl k n
  item_rows (deletion i u) b a l k bucket n =
      let t = both (is_valid i) (is_ulid u) a in
      plain_rows version_delete_tag (delete_part i u) (encoding_bytes (delete_part_encodes i u t.0 t.1 b.0 b.1))
      (omega (arith, content_within (deletion i u))) bucket refl refl (delete_keeps i u t.0 t.1 b.0 b.1) n

  -- what the writer writes for such an item may be deposited
  pub item_passes : (item : Item) → AreBytes item → admitted item ≡ true → length (value_of item) ≤ limit → Depositable item
      → fault_of limit (tag_of item) 0 (value_of item) ≡ None
  item_passes item b a l dep =
      let h = means item a in
      let reads = item_reads limit small item b a l ∙ h.1 in
      fault_none limit (tag_of item) (value_of item) h.0 reads
      (rw (held_primary item h.0 h.1) (item_rows item b a l dep.handed _ (dep.named h.0 h.1)))
