-- Our records are the shortest: no encoding of what is written takes fewer bytes.
use Rattle.std.specs.Prelude.{ℕ, suc, ◌+◌, ◌≤◌, Bool, true, false, ◌≡◌, refl, length}
use mathlib.Core.List.{List, [], ◌∷◌, ◌++◌, flatten}
use Rattle.std.proofs.Common.{ap, arith, length-append}
use Rattle.slices.specs.Logic.{absurd_numbers}
use Rattle.msgpack_heads.specs.Heads.{binary_head, unsigned_integer, array_head, map_head}
use Rattle.msgpack_model.specs.Values.{Value, Boolean, Text, Map, Array, value, no_values_lem, Pairs, pair as pair_of, no_pairs, count_pairs}
use Rattle.msgpack_model.specs.Encoding.{Encodes, scalar, true_byte, array, map, none, next, EncodesPairs, no_pair, next_pair}
use Rattle.msgpack_model.proofs.Readers.{scalar_no_array, scalar_no_map}
use Rattle.msgpack_model.specs.Writers.{text_shortest, binary_shortest, unsigned_shortest, array_head_shortest, map_head_shortest}
use Rattle.identifier.specs.Identity.{Identity}
use Rattle.identifier.specs.Composite.{composite_text}
use Rattle.value.specs.Header.{primary_key, secondary_key, length_key}
use Rattle.primary.specs.Parts.{bucket_key, object_key, ulid_key, identifier_key, deleted_key, delete_id_key}
use Rattle.records_model.specs.Written as values
use Rattle.writer.specs.Values.{text_item, pair, map_item, primary_header, secondary_header, block_header, part_header, block_part, part_value, identity_pairs, marker_pairs, version_part, delete_part}

-- no encoding of v is shorter than n bytes
abbrev AtLeast : ℕ → Value → Type 0
AtLeast n v = (e : List ℕ) → Encodes v e → n ≤ length e

abbrev PairsAtLeast : ℕ → Pairs → Type 0
PairsAtLeast n ps = (e : List ℕ) → EncodesPairs ps e → n ≤ length e

text_least : (t : List ℕ) → AtLeast (length (text_item t)) (Text t)
unfolding text_item
text_least t e x = text_shortest x

last_least : {k v : Value} {a b : ℕ} → AtLeast a k → AtLeast b v → PairsAtLeast (a + b) (pair_of k v no_pairs)
last_least f g r (next_pair {e = d} {f = e} x y no_pair) = simp length-append (omega (arith, f d x, g e y))

more_least : {k v : Value} {ps : Pairs} {a b c : ℕ} → AtLeast a k → AtLeast b v → PairsAtLeast c ps → PairsAtLeast (a + b + c) (pair_of k v ps)
more_least f g h r (next_pair {e = c} {f = d} {g = e} x y z) = simp length-append (omega (arith, f c x, g d y, h e z))

map_least : {ps : Pairs} {n : ℕ} → PairsAtLeast n ps → AtLeast (length (map_head (count_pairs ps)) + n) (Map ps)
map_least f r (scalar s) = let z = scalar_no_map s in absurd_numbers (cc)
map_least f r (map {h = h} {e = e} x xs) = rw (length-append h e) (omega (arith, map_head_shortest x, f e xs))

-- of a list of one value
one_least : {v : Value} {n : ℕ} → AtLeast n v → AtLeast (length (array_head 1) + n) (Array (value v no_values_lem))
one_least f r (scalar s) = let z = scalar_no_array s in absurd_numbers (cc)
one_least f r (array {h = h} x (next {e = e} y none)) = simp length-append (omega (arith, array_head_shortest x, f e y))

-- ---- headers

pub part_value_shortest : (part e : List ℕ) → Encodes (values.plain_header part) e → length (part_value part) ≤ length e
unfolding part_value part_header primary_header
part_value_shortest part e x =
    let n = map_least (last_least (text_least primary_key) (λ d y. binary_shortest y)) e x in
    let m : length (part_value part) ≡ length (map_head 1) + (length (text_item primary_key) + length (binary_head (length part) ++ part))
    = simp length-append (omega arith) in
    omega arith

pub block_header_shortest : (l : ℕ) (part e : List ℕ) → Encodes (values.block_header l part) e → length (block_header l (length part) ++ part) ≤ length e
unfolding block_header secondary_header primary_header
block_header_shortest l part e x =
    let parameters = map_least (last_least (text_least length_key) (λ d y. unsigned_shortest {n = l} y)) in
    let primary = last_least (text_least primary_key) (λ d y. binary_shortest {t = part} y) in
    let n = map_least (more_least (text_least secondary_key) (one_least parameters) primary) e x in
    let m : length (block_header l (length part) ++ part) ≡ length (map_head 2) +
    (length (text_item secondary_key) +
    (length (array_head 1) + (length (map_head 1) + (length (text_item length_key) + length (unsigned_integer l)))) +
    (length (text_item primary_key) + length (binary_head (length part) ++ part))) = simp length-append (omega arith) in
    omega arith

-- ---- primary parts

pub block_part_shortest : (i : Identity) (e : List ℕ) → Encodes (values.block_part i) e → length (block_part i) ≤ length e
unfolding block_part pair
block_part_shortest i e x =
    let n = map_least (last_least (text_least identifier_key) (text_least (composite_text i))) e x in
    let m : length (block_part i) ≡ length (map_head 1) + (length (text_item identifier_key) + length (text_item (composite_text i)))
    = simp length-append (omega arith) in
    omega arith

-- a map's pairs, one before others, and the map of them
pair_least : {k v : Value} {more : Pairs} (a b : List ℕ) (rest : List (List ℕ)) → AtLeast (length a) k → AtLeast (length b) v
    → PairsAtLeast (length (flatten rest)) more → PairsAtLeast (length (flatten ((a ++ b) ∷ rest))) (pair_of k v more)
unfolding flatten
pair_least a b rest f g h r (next_pair {e = c} {f = d} {g = e} x y z) = simp length-append (omega (arith, f c x, g d y, h e z))

none_least : PairsAtLeast (length (flatten {A = ℕ} [])) no_pairs
unfolding flatten
none_least e x = omega arith

map_item_least : {more : Pairs} (pairs : List (List ℕ)) → PairsAtLeast (length (flatten pairs)) more → count_pairs more ≡ length pairs
    → AtLeast (length (map_item pairs)) (Map more)
unfolding map_item
map_item_least pairs f same e x = omega (arith, rw same at (map_least f e x), length-append (map_head (length pairs)) (flatten pairs))

-- with what follows the identifier
identity_map_least : (i : Identity) {more : Pairs} (rest : List (List ℕ)) → PairsAtLeast (length (flatten rest)) more → count_pairs more ≡ length rest
    → AtLeast (length (map_item (identity_pairs i ++ rest))) (values.identity_map i more)
unfolding pair
identity_map_least i rest follow same =
    let ulid = pair_least (text_item ulid_key) (text_item i.ulid) rest (text_least ulid_key) (text_least i.ulid) follow in
    let object = pair_least (text_item object_key) (text_item i.object) _ (text_least object_key) (text_least i.object) ulid in
    let bucket = pair_least (text_item bucket_key) (text_item i.bucket) _ (text_least bucket_key) (text_least i.bucket) object in
    map_item_least (identity_pairs i ++ rest) bucket (ap (λ n. suc (suc (suc n))) same)

flag_least : AtLeast (length {A = ℕ} (0xc3 ∷ [])) (Boolean true)
flag_least e (scalar true_byte) = omega arith

pub version_part_shortest : (i : Identity) (marker : Bool) (e : List ℕ) → Encodes (values.version_part i marker) e → length (version_part i marker) ≤ length e
unfolding version_part
version_part_shortest i true =
    identity_map_least i (marker_pairs true) (pair_least (text_item deleted_key) (0xc3 ∷ []) [] (text_least deleted_key) flag_least none_least) refl
version_part_shortest i false = identity_map_least i [] none_least refl

pub delete_part_shortest : (i : Identity) (u e : List ℕ) → Encodes (values.delete_part i u) e → length (delete_part i u) ≤ length e
unfolding delete_part pair
delete_part_shortest i u =
    identity_map_least i (pair delete_id_key u ∷ []) (pair_least (text_item delete_id_key) (text_item u) [] (text_least delete_id_key) (text_least u) none_least) refl
