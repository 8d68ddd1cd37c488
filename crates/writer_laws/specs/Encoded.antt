-- What is written encodes the headers and primary parts that document 01 names.
use Rattle.std.specs.Prelude.{ℕ, ◌^◌, ◌<◌, Bool, true, false, ◌≡◌, refl, length}
use mathlib.Core.List.{List, [], ◌∷◌, ◌++◌, flatten, append_assoc, append-nil}
use Rattle.std.proofs.Common.{arith}
use Rattle.slices.specs.Bytes.{AllBytes, none_bytes, cons_bytes}
use Rattle.msgpack_heads.specs.Heads.{unsigned_integer, array_head, map_head}
use Rattle.msgpack_model.specs.Values as model
use Rattle.msgpack_model.specs.Values.{Value, Text, Binary, no_pairs, count_pairs}
use Rattle.msgpack_model.specs.Encoding.{Encodes, scalar, true_byte, EncodesPairs, no_pair, next_pair, none, next}
use Rattle.msgpack_model.specs.Writers.{text_written, binary_written, unsigned_written, map_written}
use Rattle.msgpack_model.proofs.Writers.{array_written}
use Rattle.identifier.specs.Identity.{Identity, is_valid, sizes}
use Rattle.identifier.specs.Composite.{composite_text, composite_most}
use Rattle.identifier.specs.Ulid.{is_ulid, ulid_length}
use Rattle.value.specs.Header.{primary_key, secondary_key, length_key}
use Rattle.primary.specs.Parts.{delete_id_key}
use Rattle.records_model.specs.Written as values
use Rattle.writer.specs.Values.{text_item, pair, map_item, primary_header, secondary_header, block_header, part_header, block_part, part_value, identity_pairs, marker_pairs, version_part, delete_part}

-- ---- pairs

last_pair : {k v : Value} {e f : List ℕ} → Encodes k e → Encodes v f → EncodesPairs (model.pair k v no_pairs) (e ++ f)
last_pair {e = e} {f = f} x y = rw append-nil at (next_pair x y no_pair)

more_pairs : {k v : Value} {ps : model.Pairs} {e f g : List ℕ} → Encodes k e → Encodes v f → EncodesPairs ps g → EncodesPairs (model.pair k v ps) (e ++ f ++ g)
more_pairs {e = e} {f = f} {g = g} x y z = rw (append_assoc e f g) (next_pair x y z)

-- ---- texts, and keys, which are short

text_encodes : (t : List ℕ) → AllBytes t → length t < 2 ^ 32 → Encodes (Text t) (text_item t)
unfolding text_item
text_encodes t bytes l = text_written t bytes l

key_encodes : (letter : ℕ) → letter < 256 → Encodes (Text (letter ∷ [])) (text_item (letter ∷ []))
key_encodes letter l = text_encodes (letter ∷ []) (cons_bytes l none_bytes) (omega arith)

delete_key_encodes : Encodes (Text delete_id_key) (text_item delete_id_key)
delete_key_encodes = text_encodes delete_id_key (cons_bytes (omega arith) (cons_bytes (omega arith) (cons_bytes (omega arith) none_bytes))) (omega arith)

-- ---- bytes written one after another, as the pairs group them

grouped : (a b c d e f g h : List ℕ) → a ++ (b ++ c ++ d ++ e ++ f) ++ g ++ h ≡ a ++ (b ++ (c ++ (d ++ (e ++ f))) ++ (g ++ h))
grouped a b c d e f g h = simp append_assoc

-- ---- the header {e}

module _ (part : List ℕ) (bytes : AllBytes part) (size : length part < 2 ^ 32) where
  primary_pair : EncodesPairs (model.pair (Text primary_key) (Binary part) no_pairs) (primary_header (length part) ++ part)
  unfolding primary_header
  primary_pair = rw append_assoc (last_pair (key_encodes 0x65 (omega arith)) (binary_written part bytes size))

  pub part_value_encodes : Encodes (values.plain_header part) (part_value part)
  unfolding part_value part_header
  part_value_encodes = rw append_assoc (map_written primary_pair (omega arith))

  -- ---- the header {s: [{l}], e}

  pub block_header_encodes : (l : ℕ) → l < 2 ^ 64 → Encodes (values.block_header l part) (block_header l (length part) ++ part)
  unfolding block_header secondary_header
  block_header_encodes l h =
      let parameters = map_written (last_pair (key_encodes 0x6c (omega arith)) (unsigned_written l h)) (omega arith) in
      let listed = rw append-nil at (array_written (next parameters none) (omega arith)) in
      rw (grouped (map_head 2) (text_item secondary_key) (array_head 1) (map_head 1) (text_item length_key) (unsigned_integer l) (primary_header (length part)) part)
      (map_written (more_pairs (key_encodes 0x73 (omega arith)) listed primary_pair) (omega arith))

-- ---- a block's primary part {I}

pub block_part_encodes : (i : Identity) → is_valid i ≡ true → AllBytes (composite_text i) → Encodes (values.block_part i) (block_part i)
unfolding block_part pair
block_part_encodes i v bytes =
    map_written (last_pair (key_encodes 0x49 (omega arith)) (text_encodes (composite_text i) bytes (omega (arith, composite_most i v)))) (omega arith)

-- ---- the primary parts {b, o, v}, {b, o, v, d} and {b, o, v, ???} that are made from an identifier

pub record IdentityBytes (i : Identity) : Type 0 where
  pub ulid : AllBytes i.ulid
  pub bucket : AllBytes i.bucket
  pub object : AllBytes i.object

-- with what follows the identifier
identity_map_encodes : (i : Identity) {more : model.Pairs} (pairs : List (List ℕ)) → is_valid i ≡ true → IdentityBytes i
    → EncodesPairs more (flatten pairs) → count_pairs more ≡ length pairs → length pairs < 2 ^ 31
    → Encodes (values.identity_map i more) (map_item (identity_pairs i ++ pairs))
unfolding map_item flatten pair
identity_map_encodes i {more} pairs v bytes follow same few =
    let n = sizes i v in
    let ulid = more_pairs (key_encodes 0x76 (omega arith)) (text_encodes i.ulid bytes.ulid (omega (arith, n.ulid))) follow in
    let object = more_pairs (key_encodes 0x6f (omega arith)) (text_encodes i.object bytes.object (omega (arith, n.objectmost))) ulid in
    let bucket = more_pairs (key_encodes 0x62 (omega arith)) (text_encodes i.bucket bytes.bucket (omega (arith, n.bucketmost))) object in
    rw same at (map_written bucket (omega arith))

pub version_part_encodes : (i : Identity) (marker : Bool) → is_valid i ≡ true → IdentityBytes i → Encodes (values.version_part i marker) (version_part i marker)
unfolding version_part flatten
version_part_encodes i true v bytes =
    let flag = last_pair (key_encodes 0x64 (omega arith)) (scalar true_byte) in
    identity_map_encodes i (marker_pairs true) v bytes (rw append-nil flag) refl (omega arith)
version_part_encodes i false v bytes = identity_map_encodes i [] v bytes no_pair refl (omega arith)

pub delete_part_encodes : (i : Identity) (u : List ℕ) → is_valid i ≡ true → is_ulid u ≡ true → IdentityBytes i → AllBytes u
    → Encodes (values.delete_part i u) (delete_part i u)
unfolding delete_part flatten pair
delete_part_encodes i u v w bytes delete_bytes =
    let id = last_pair delete_key_encodes (text_encodes u delete_bytes (omega (arith, ulid_length u w))) in
    identity_map_encodes i (pair delete_id_key u ∷ []) v bytes (rw append-nil id) refl (omega arith)
