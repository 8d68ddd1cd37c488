-- Our records are in short forms throughout (request 8): the headers that the writer makes, and the primary parts that it makes.
use Rattle.std.specs.Prelude.{ℕ, ◌^◌, ◌≤◌, ◌<◌, Bool, true, false, ◌≡◌, length}
use mathlib.Core.List.{List, [], ◌∷◌, ◌++◌, flatten, append_assoc, append-nil}
use Rattle.std.proofs.Common.{ap, ◌∙◌, arith}
use Rattle.slices.specs.Bytes.{AllBytes}
use Rattle.msgpack_heads.specs.Heads.{text_head, binary_head, unsigned_integer, array_head, map_head}
use Rattle.msgpack_forms.specs.Items.{all_short}
use Rattle.msgpack_model.specs.Encoding.{Encodes}
use Rattle.msgpack_model.specs.Encoded.{encoded, WellSigned}
use Rattle.msgpack_model.proofs.Short.{encoded_all_short, all_short_exactly}
use Rattle.identifier.specs.Identity.{Identity, is_valid}
use Rattle.identifier.specs.Composite.{composite_text}
use Rattle.identifier.specs.Ulid.{is_ulid}
use Rattle.value.specs.Header.{primary_key, secondary_key, length_key}
use Rattle.primary.specs.Parts.{bucket_key, object_key, ulid_key, identifier_key, deleted_key, delete_id_key}
use Rattle.records_model.specs.Written as values
use Rattle.writer.specs.Values.{text_item, pair, map_item, primary_header, secondary_header, block_header, part_header, block_part, part_value, version_part, delete_part}
use Rattle.writer_laws.specs.Encoded.{part_value_encodes, block_header_encodes, block_part_encodes, IdentityBytes, version_part_encodes, delete_part_encodes}

-- ---- what is written is what the writer's heads make of the value

-- bytes written one after another, as a value's items group them
grouped_part : (a b c d e : List ℕ) → (a ++ ((b ++ c) ++ d)) ++ e ≡ a ++ ((b ++ c) ++ ((d ++ e) ++ []))
grouped_part a b c d e = simp (append_assoc, append-nil)

grouped_header : (a b c d e f g h i j k l : List ℕ) → (a ++ ((b ++ c) ++ d ++ e ++ (f ++ g) ++ h) ++ ((i ++ j) ++ k)) ++ l
    ≡ a ++ ((b ++ c) ++ ((d ++ ((e ++ ((f ++ g) ++ (h ++ []))) ++ [])) ++ ((i ++ j) ++ ((k ++ l) ++ []))))
grouped_header a b c d e f g h i j k l = simp (append_assoc, append-nil)

grouped_pair : (a b c : List ℕ) → a ++ (b ++ c) ≡ a ++ (b ++ (c ++ []))
grouped_pair a b c = simp append-nil

grouped_identity : (a b c d e f g r : List ℕ) → a ++ ((b ++ c) ++ ((d ++ e) ++ ((f ++ g) ++ r))) ≡ a ++ (b ++ (c ++ (d ++ (e ++ (f ++ (g ++ r))))))
grouped_identity a b c d e f g r = simp append_assoc

part_value_is : (part : List ℕ) → part_value part ≡ encoded (values.plain_header part)
unfolding part_value part_header primary_header text_item
part_value_is part = grouped_part (map_head 1) (text_head 1) primary_key (binary_head (length part)) part

block_header_is : (l : ℕ) (part : List ℕ) → block_header l (length part) ++ part ≡ encoded (values.block_header l part)
unfolding block_header secondary_header primary_header text_item
block_header_is l part = grouped_header (map_head 2) (text_head 1) secondary_key (array_head 1) (map_head 1) (text_head 1) length_key (unsigned_integer l)
    (text_head 1) primary_key (binary_head (length part)) part

block_part_is : (i : Identity) → block_part i ≡ encoded (values.block_part i)
unfolding block_part pair text_item
block_part_is i = grouped_pair (map_head 1) (text_head 1 ++ identifier_key) (text_head (length (composite_text i)) ++ composite_text i)

-- a text, with its head
abbrev item : List ℕ → List ℕ
item t = text_head (length t) ++ t

version_part_is : (i : Identity) (marker : Bool) → version_part i marker ≡ encoded (values.version_part i marker)
unfolding version_part map_item pair text_item flatten
version_part_is i true =
    grouped_identity (map_head 4) (item bucket_key) (item i.bucket) (item object_key) (item i.object) (item ulid_key) (item i.ulid)
    ((item deleted_key ++ (0xc3 ∷ [])) ++ [])
    ∙ ap (λ r. map_head 4 ++ (item bucket_key ++ (item i.bucket ++ (item object_key ++ (item i.object ++ (item ulid_key ++ (item i.ulid ++ r)))))))
    (append_assoc (item deleted_key) (0xc3 ∷ []) [])
version_part_is i false =
    grouped_identity (map_head 3) (item bucket_key) (item i.bucket) (item object_key) (item i.object) (item ulid_key) (item i.ulid) []

delete_part_is : (i : Identity) (u : List ℕ) → delete_part i u ≡ encoded (values.delete_part i u)
unfolding delete_part map_item pair text_item flatten
delete_part_is i u =
    grouped_identity (map_head 4) (item bucket_key) (item i.bucket) (item object_key) (item i.object) (item ulid_key) (item i.ulid)
    ((item delete_id_key ++ item u) ++ [])
    ∙ ap (λ r. map_head 4 ++ (item bucket_key ++ (item i.bucket ++ (item object_key ++ (item i.object ++ (item ulid_key ++ (item i.ulid ++ r)))))))
    (append_assoc (item delete_id_key) (item u) [])

-- ---- so all its forms are short, whatever follows

module _ (part : List ℕ) (bytes : AllBytes part) (size : length part < 2 ^ 32) (rest : List ℕ) where
  pub part_value_short : all_short (part_value part ++ rest) ≡ true
  part_value_short = rw (part_value_is part) (encoded_all_short (part_value_encodes part bytes size) (omega arith) rest)

  pub block_header_short : (l : ℕ) → l < 2 ^ 64 → all_short ((block_header l (length part) ++ part) ++ rest) ≡ true
  block_header_short l h = rw (block_header_is l part) (encoded_all_short (block_header_encodes part bytes size l h) (omega arith) rest)

pub block_part_short : (i : Identity) → is_valid i ≡ true → AllBytes (composite_text i) → (rest : List ℕ) → all_short (block_part i ++ rest) ≡ true
block_part_short i v bytes rest = rw (block_part_is i) (encoded_all_short (block_part_encodes i v bytes) (omega arith) rest)

pub version_part_short : (i : Identity) (marker : Bool) → is_valid i ≡ true → IdentityBytes i → (rest : List ℕ) → all_short (version_part i marker ++ rest) ≡ true
version_part_short i true v bytes rest = rw (version_part_is i true) (encoded_all_short (version_part_encodes i true v bytes) (omega arith) rest)
version_part_short i false v bytes rest = rw (version_part_is i false) (encoded_all_short (version_part_encodes i false v bytes) (omega arith) rest)

pub delete_part_short : (i : Identity) (u : List ℕ) → is_valid i ≡ true → is_ulid u ≡ true → IdentityBytes i → AllBytes u → (rest : List ℕ)
    → all_short (delete_part i u ++ rest) ≡ true
delete_part_short i u v w bytes delete_bytes rest =
    rw (delete_part_is i u) (encoded_all_short (delete_part_encodes i u v w bytes delete_bytes) (omega arith) rest)

-- ---- and exactly that: no encoding of the header is shorter, and no integer of at least 0 in it stands in a signed form

pub block_header_exactly : (l : ℕ) (part : List ℕ) → AllBytes part → length part < 2 ^ 32 → l < 2 ^ 64
    → ((e : List ℕ) → Encodes (values.block_header l part) e → length (block_header l (length part) ++ part) ≤ length e)
    × WellSigned (values.block_header l part) (block_header l (length part) ++ part)
block_header_exactly l part bytes size h =
    (all_short_exactly (block_header_encodes part bytes size l h) (omega arith) []).0 (block_header_short part bytes size [] l h)
