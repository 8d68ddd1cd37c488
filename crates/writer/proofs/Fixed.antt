-- The values, with their fixed bytes written out as the code has them, and how long they are.
use Prim.Native.Nat.{ℕ, ◌+◌}
use mathlib.Core.Bool.{Bool, true, false}
use mathlib.Core.List.{List, [], ◌∷◌, ◌++◌, flatten, append_assoc, append-nil}
use mathlib.Core.Path.{◌≡◌, refl, ap, ◌∙◌}
use native.Mathlib.Omega.{arith}
use lib.ListN.{length, length-append}
use Rattle.endian.specs.Numbers.{little_bytes, big_bytes}
use Rattle.msgpack_heads.specs.Heads.{text_form, container_form, text_head, binary_head, unsigned_integer, map_head}
use Rattle.identifier.specs.Identity.{Identity}
use Rattle.identifier.specs.Composite.{composite_text}
use Rattle.primary.specs.Parts.{bucket_key, object_key, ulid_key, delete_id_key}
use Rattle.writer.specs.Limits.{length_headed}
use Rattle.writer.specs.Values.{text_item, pair, primary_header, secondary_header, block_header, part_header, block_part, block_value, part_value, map_item, identity_pairs, version_part, delete_part}

-- ---- the bytes

abbrev pub secondary_start : List ℕ
secondary_start = 0x82 ∷ 0xa1 ∷ 0x73 ∷ 0x91 ∷ 0x81 ∷ 0xa1 ∷ 0x6c ∷ []

abbrev pub primary_start : List ℕ
primary_start = 0xa1 ∷ 0x65 ∷ []

abbrev pub part_start : List ℕ
part_start = 0x81 ∷ []

abbrev pub block_part_start : List ℕ
block_part_start = 0x81 ∷ 0xa1 ∷ 0x49 ∷ []

abbrev pub marker_bytes : List ℕ
marker_bytes = 0xa1 ∷ 0x64 ∷ 0xc3 ∷ []

pub secondary : (l : ℕ) → secondary_start ++ unsigned_integer l ≡ map_head 2 ++ secondary_header l
unfolding secondary_header text_item container_form text_form big_bytes little_bytes
secondary l = refl

pub primary : (n : ℕ) → primary_start ++ binary_head n ≡ primary_header n
unfolding primary_header text_item text_form big_bytes little_bytes
primary n = refl

pub part_header_lem : (n : ℕ) → part_start ++ primary_header n ≡ part_header n
unfolding part_header container_form big_bytes little_bytes
part_header_lem n = refl

pub block_part_lem : (i : Identity) → block_part_start ++ text_item (composite_text i) ≡ block_part i
unfolding block_part pair text_item container_form text_form big_bytes little_bytes
block_part_lem i = refl

-- an identifier's pairs behind the head of a map, and the maps that begin with them

pub identity_pairs_lem : (n : ℕ) (i : Identity)
    → map_head n ++ pair bucket_key i.bucket ++ pair object_key i.object ++ pair ulid_key i.ulid ≡ map_head n ++ flatten (identity_pairs i)
unfolding flatten
identity_pairs_lem n i = simp (append_assoc, append-nil)

one_more : (head b o v more : List ℕ) → head ++ flatten (b ∷ o ∷ v ∷ []) ++ more ≡ head ++ flatten (b ∷ o ∷ v ∷ more ∷ [])
unfolding flatten
one_more head b o v more = simp (append_assoc, append-nil)

identity_map_lem : (i : Identity) (more : List ℕ) → map_head 4 ++ flatten (identity_pairs i) ++ more ≡ map_item (identity_pairs i ++ (more ∷ []))
unfolding map_item
identity_map_lem i more = one_more (map_head 4) (pair bucket_key i.bucket) (pair object_key i.object) (pair ulid_key i.ulid) more

pub version_part_lem : (i : Identity) (marker : Bool) → marker ≡ false → map_head 3 ++ flatten (identity_pairs i) ≡ version_part i marker
unfolding version_part map_item
version_part_lem i marker e = rw e refl

pub marker_part : (i : Identity) (marker : Bool) → marker ≡ true → map_head 4 ++ flatten (identity_pairs i) ++ marker_bytes ≡ version_part i marker
unfolding version_part text_item text_form big_bytes little_bytes
marker_part i marker e = rw e (identity_map_lem i marker_bytes)

pub delete_part_lem : (i : Identity) (u : List ℕ) → map_head 4 ++ flatten (identity_pairs i) ++ pair delete_id_key u ≡ delete_part i u
unfolding delete_part
delete_part_lem i u = identity_map_lem i (pair delete_id_key u)

-- with the length of the primary part as it was computed

pub block_value_lem : (i : Identity) (d : List ℕ) (n : ℕ) → n ≡ length (block_part i) → block_header (length d) n ++ block_part i ++ d ≡ block_value i d
unfolding block_value
block_value_lem i d n e = rw e refl

pub part_value_lem : (p : List ℕ) (n : ℕ) → n ≡ length p → part_header n ++ p ≡ part_value p
unfolding part_value
part_value_lem p n e = rw e refl

-- ---- the lengths

length_text : (t : List ℕ) → length (text_item t) ≡ length (text_head (length t)) + length t
unfolding text_item
length_text t = length-append (text_head (length t)) t

pub length_pair : (key t : List ℕ) → length (text_head (length key)) + length key + (length (text_head (length t)) + length t) ≡ length (pair key t)
unfolding pair
length_pair key t = omega (arith, length-append (text_item key) (text_item t), length_text key, length_text t)

length_block_part : (i : Identity) → 3 + (length (text_head (length (composite_text i))) + length (composite_text i)) ≡ length (block_part i)
length_block_part i = omega (arith, ap length (block_part_lem i), length_text (composite_text i))

-- from the length of the text as it was computed
pub block_part_size : (i : Identity) (n r : ℕ) → length (composite_text i) ≡ n → r ≡ length (text_head n) → 3 + (r + n) ≡ length (block_part i)
block_part_size i n r e f = rw (f, ← e) (length_block_part i)

length_primary : (n : ℕ) → length (primary_header n) ≡ 2 + length (binary_head n)
length_primary n = omega (arith, ap length (primary n))

-- from the length of the primary part as it was computed
pub block_value_size : (i : Identity) (d : List ℕ) (part n : ℕ) → part ≡ length (block_part i)
    → n ≡ 7 + length (unsigned_integer (length d)) + 2 + (length (binary_head part) + part) + length d → n ≡ length (block_value i d)
unfolding block_value block_header
block_value_size i d part n e f =
    let p = block_part i in
    let s = map_head 2 ++ secondary_header (length d) in
    let whole : 7 + length (unsigned_integer (length d)) + 2 + (length (binary_head (length p)) + length p) + length d ≡ length (s ++ primary_header (length p) ++ p ++ d)
    = omega (arith, length-append (s ++ primary_header (length p) ++ p) d, length-append (s ++ primary_header (length p)) p, length-append s (primary_header (length p)), ap length (secondary (length d)), length_primary (length p)) in
    f ∙ rw e whole

pub part_value_size : (p : List ℕ) (part n : ℕ) → part ≡ length p → n ≡ 3 + (length (binary_head part) + part) → n ≡ length (part_value p)
unfolding part_value
part_value_size p part n e f =
    let whole : 3 + (length (binary_head (length p)) + length p) ≡ length (part_header (length p) ++ p)
    = omega (arith, length-append (part_header (length p)) p, ap length (part_header_lem (length p)), length_primary (length p)) in
    f ∙ rw e whole

pub length_identity : (i : Identity)
    → length (pair bucket_key i.bucket) + length (pair object_key i.object) + length (pair ulid_key i.ulid) ≡ length (flatten (identity_pairs i))
unfolding flatten
length_identity i = simp length-append (omega arith)

pub length_version_part : (i : Identity) (marker : Bool) → marker ≡ false → 1 + length (flatten (identity_pairs i)) ≡ length (version_part i marker)
length_version_part i marker e = omega (arith, ap length (version_part_lem i marker e), length_headed 3 (flatten (identity_pairs i)) (omega arith))

-- one pair more
length_more : (i : Identity) (more : List ℕ) → 1 + length (flatten (identity_pairs i)) + length more ≡ length (map_head 4 ++ flatten (identity_pairs i) ++ more)
length_more i more =
    omega (arith, length_headed 4 (flatten (identity_pairs i)) (omega arith), length-append (map_head 4 ++ flatten (identity_pairs i)) more)

pub length_marker_part : (i : Identity) (marker : Bool) → marker ≡ true → 1 + length (flatten (identity_pairs i)) + 3 ≡ length (version_part i marker)
length_marker_part i marker e = length_more i marker_bytes ∙ ap length (marker_part i marker e)

pub length_delete_part : (i : Identity) (u : List ℕ) → 1 + length (flatten (identity_pairs i)) + length (pair delete_id_key u) ≡ length (delete_part i u)
length_delete_part i u = length_more i (pair delete_id_key u) ∙ ap length (delete_part_lem i u)
