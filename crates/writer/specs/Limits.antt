-- What is longer than the limit is refused by its length, before any head is written for it; so the heads that are written hold their lengths.
-- A version's part that is made from an identifier is never so long.
use Rattle.std.specs.Prelude.{ℕ, ◌+◌, ◌≤◌, ◌<◌, ◌^◌, Bool, ◌≡◌, ltb}
use Rattle.std.proofs.Math.Bool.{true, false, cond}
use mathlib.Core.List.{List, [], ◌∷◌, ◌++◌, flatten}
use Rattle.std.specs.Prelude.{Some}
use Rattle.std.proofs.Math.Path.{refl, sym}
use Rattle.std.proofs.Common.{arith, lt-ltb, ltb-true, ltb-false, length-append}
use Rattle.std.proofs.lemmas.Bool.{lt-leb}
use Rattle.std.proofs.Math.ListN.{length}
use Rattle.slices.specs.Logic.{absurd_numbers}
use Rattle.refusals.specs.Limit.{pack_limit}
use Rattle.refusals.specs.Answers.{granted, refused}
use Rattle.endian.specs.Numbers.{little_bytes, big_bytes, length_big_bytes}
use Rattle.tlv.specs.Layout.{layout, length_layout}
use Rattle.msgpack_heads.specs.Heads.{Form, form, form_bytes, sized_form, text_form, container_form, text_head, map_head}
use Rattle.identifier.specs.Identity.{Identity, is_valid, sizes}
use Rattle.primary.specs.Parts.{bucket_key, object_key, ulid_key, deleted_key}
use Rattle.writer.specs.Values.{text_item, pair, map_item, block_header, block_part, block_value, part_header, part_value, identity_pairs, marker_pairs, version_part, delete_part}
use Rattle.writer.specs.Writing.{Item, block, version, version_delete, pack_list, deletion, tag_of, value_of, record_of, item_bytes, admitted, counted, written}

-- what has no bound of its own: a block's data, or a primary part
abbrev pub content_of : Item → List ℕ
content_of (block i d) = d
content_of (version p) = p
content_of (version_delete p) = p
content_of (pack_list p) = p
content_of (deletion i u) = delete_part i u

part_within : (p : List ℕ) → length p ≤ length (part_value p)
unfolding part_value
part_within p = omega (arith, length-append (part_header (length p)) p)

pub content_within : (item : Item) → length (content_of item) ≤ length (value_of item)
unfolding block_value
content_within (block i d) = omega (arith, length-append (block_header (length d) (length (block_part i)) ++ block_part i) d)
content_within (version p) = part_within p
content_within (version_delete p) = part_within p
content_within (pack_list p) = part_within p
content_within (deletion i u) = part_within (delete_part i u)

module _ (limit room used : ℕ) where
  pub too_long : (tag : ℕ) (content value : List ℕ) → length content ≤ length value → limit < length content
      → refused 20 ≡ counted limit room used (length (layout (record_of tag value)))
  unfolding counted
  too_long tag content value within h =
      let k : limit < used + length (layout (record_of tag value)) = omega (arith, length_layout (record_of tag value)) in
      rw (lt-leb _ _ k)

  pub long_content_refused : (item : Item) → limit < length (content_of item) → written limit room used (Some item) ≡ refused 20
  unfolding written
  long_content_refused item h = go (admitted item)
    where
      go : (a : Bool) → cond a (counted limit room used (length (item_bytes item))) (refused 20) ≡ refused 20
      go true = sym (too_long (tag_of item) (content_of item) (value_of item) (content_within item) h)
      go false = refl

-- so a length that a head is written for is below 2^32
pub heads_hold : (room used n : ℕ) (item : Item) → written pack_limit room used (Some item) ≡ granted n → length (content_of item) < 2 ^ 32
heads_hold room used n item e = go (ltb pack_limit (length (content_of item))) refl
  where
    go : (t : Bool) → ltb pack_limit (length (content_of item)) ≡ t → length (content_of item) < 2 ^ 32
    go true f =
        let r = long_content_refused pack_limit room used item (ltb-true _ _ f) in
        absurd_numbers (cc)
    go false f = omega (arith, ltb-false pack_limit (length (content_of item)) f)

-- ---- a version's part that is made

form_most : (f : Form) (n : ℕ) → f.width ≤ 4 → length (form_bytes f n) ≤ 5
form_most f n h = omega (arith, length_big_bytes f.width n)

text_head_most : (n : ℕ) → length (text_head n) ≤ 5
unfolding text_form sized_form
text_head_most n = go (ltb n 32) (ltb n 256) (ltb n 65536)
  where
    go : (r s t : Bool) → length (form_bytes (cond r (form (0xa0 + n) 0) (cond s (form 0xd9 1) (cond t (form 0xda 2) (form 0xdb 4)))) n) ≤ 5
    go true s t = form_most (form (0xa0 + n) 0) n (omega arith)
    go false true t = form_most (form 0xd9 1) n (omega arith)
    go false false true = form_most (form 0xda 2) n (omega arith)
    go false false false = form_most (form 0xdb 4) n (omega arith)

text_most : (t : List ℕ) → length (text_item t) ≤ 5 + length t
unfolding text_item
text_most t = omega (arith, length-append (text_head (length t)) t, text_head_most (length t))

pair_most : (key t : List ℕ) → length (pair key t) ≤ 10 + length key + length t
unfolding pair
pair_most key t = omega (arith, length-append (text_item key) (text_item t), text_most key, text_most t)

pub length_headed : (n : ℕ) (t : List ℕ) → n < 16 → length (map_head n ++ t) ≡ 1 + length t
unfolding container_form big_bytes little_bytes
length_headed n t h = rw (lt-ltb n 16 h) (omega arith)

length_pairs : (b o v : List ℕ) (more : List (List ℕ)) → length (flatten (b ∷ o ∷ v ∷ more)) ≡ length b + length o + length v + length (flatten more)
unfolding flatten
length_pairs b o v more = simp length-append (omega arith)

identity_map_within : (i : Identity) (more : List (List ℕ)) → is_valid i ≡ true → length more < 13 → length (flatten more) ≤ 7
    → length (map_item (identity_pairs i ++ more)) ≤ pack_limit
unfolding map_item
identity_map_within i more v few short =
    let n = sizes i v in
    let b = pair_most bucket_key i.bucket in
    let o = pair_most object_key i.object in
    let u = pair_most ulid_key i.ulid in
    let pairs = length_pairs (pair bucket_key i.bucket) (pair object_key i.object) (pair ulid_key i.ulid) more in
    let whole = length_headed (length (identity_pairs i ++ more)) (flatten (identity_pairs i ++ more)) (omega arith) in
    omega (arith, whole, pairs, b, o, u, n.bucketmost, n.objectmost, n.ulid)

pub version_part_within : (i : Identity) (marker : Bool) → is_valid i ≡ true → length (version_part i marker) ≤ pack_limit
unfolding version_part flatten
version_part_within i true v = identity_map_within i (marker_pairs true) v (omega arith) (simp length-append (omega (arith, text_most deleted_key)))
version_part_within i false v = identity_map_within i [] v (omega arith) (omega arith)
