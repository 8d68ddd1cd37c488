-- The values that are written (document 01, "Writing"; docs/FORMAT.md, "What we write"), every head in its shortest form.
use Rattle.std.specs.Prelude.{ℕ, Bool, true, false, length}
use mathlib.Core.List.{List, [], ◌∷◌, ◌++◌, flatten}
use Rattle.msgpack_heads.specs.Heads.{text_head, binary_head, unsigned_integer, array_head, map_head}
use Rattle.identifier.specs.Identity.{Identity}
use Rattle.identifier.specs.Composite.{composite_text}
use Rattle.value.specs.Header.{primary_key, secondary_key, length_key}
use Rattle.primary.specs.Parts.{bucket_key, object_key, ulid_key, identifier_key, deleted_key, delete_id_key}

-- ---- items, with their heads

unfoldable pub text_item : List ℕ → List ℕ
text_item t = text_head (length t) ++ t

-- a key, and a text under it
unfoldable pub pair : List ℕ → List ℕ → List ℕ
pair key t = text_item key ++ text_item t

-- a map, from the bytes of each of its pairs
unfoldable pub map_item : List (List ℕ) → List ℕ
map_item pairs = map_head (length pairs) ++ flatten pairs

-- ---- the value's header, up to its primary part of n bytes

-- the last key, `e`
unfoldable pub primary_header : ℕ → List ℕ
primary_header n = text_item primary_key ++ binary_head n

-- `s: [{l}]`
unfoldable pub secondary_header : ℕ → List ℕ
secondary_header l = text_item secondary_key ++ array_head 1 ++ map_head 1 ++ text_item length_key ++ unsigned_integer l

-- of a block: `{s: [{l}], e}`
unfoldable pub block_header : ℕ → ℕ → List ℕ
block_header l n = map_head 2 ++ secondary_header l ++ primary_header n

-- of every other value: `{e}` alone
unfoldable pub part_header : ℕ → List ℕ
part_header n = map_head 1 ++ primary_header n

-- ---- a block: its primary part is `{I}`, and its data follows

unfoldable pub block_part : Identity → List ℕ
block_part i = map_head 1 ++ pair identifier_key (composite_text i)

unfoldable pub block_value : Identity → List ℕ → List ℕ
block_value i d = block_header (length d) (length (block_part i)) ++ block_part i ++ d

-- ---- any other value, from its primary part

unfoldable pub part_value : List ℕ → List ℕ
part_value p = part_header (length p) ++ p

-- ---- the primary parts that are made from an identifier

-- `b`, `o`, `v`
abbrev pub identity_pairs : Identity → List (List ℕ)
identity_pairs i = pair bucket_key i.bucket ∷ pair object_key i.object ∷ pair ulid_key i.ulid ∷ []

-- `d`, which is true, of a delete marker; no other version has it
abbrev pub marker_pairs : Bool → List (List ℕ)
marker_pairs true = (text_item deleted_key ++ (0xc3 ∷ [])) ∷ []
marker_pairs false = []

-- of a version
unfoldable pub version_part : Identity → Bool → List ℕ
version_part i marker = map_item (identity_pairs i ++ marker_pairs marker)

-- of a version delete, with a delete ULID
unfoldable pub delete_part : Identity → List ℕ → List ℕ
delete_part i u = map_item (identity_pairs i ++ (pair delete_id_key u ∷ []))
