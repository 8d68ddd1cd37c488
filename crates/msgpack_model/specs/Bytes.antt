-- An encoding is a list of bytes.
use Rattle.std.specs.Prelude.{ℕ, List}
use Rattle.std.proofs.Common.{arith}
use Rattle.slices.specs.Bytes.{AllBytes, none_bytes, cons_bytes, append_bytes}
use Rattle.msgpack.specs.Readers.{Int}
use Rattle.msgpack_model.specs.Values.{Value}
use Rattle.msgpack_model.specs.Encoding.{Signed, non_negative, negative, TextHead, fixstr, str8, str16, str32, BinaryHead, bin8, bin16, bin32, ExtensionHead, fixext1, fixext2, fixext4, fixext8, fixext16, ext8, ext16, ext32, ArrayHead, fixarray, array16, array32, MapHead, fixmap, map16, map32, Scalar, nil, false_byte, true_byte, positive_fixint, negative_fixint, uint8, uint16, uint32, uint64, int8, int16, int32, int64, float32, float64, text, binary, extension, Encodes, scalar, array, map, none, next, no_pair, next_pair}

-- ---- heads

signed_bytes : {w : ℕ} {i : Int} {e : List ℕ} → Signed w i e → AllBytes e
signed_bytes (non_negative x l) = x.bytes
signed_bytes (negative x l z) = x.bytes

text_head_bytes : {n : ℕ} {h : List ℕ} → TextHead n h → AllBytes h
text_head_bytes (fixstr n l) = cons_bytes (omega arith) none_bytes
text_head_bytes (str8 x) = cons_bytes (omega arith) x.bytes
text_head_bytes (str16 x) = cons_bytes (omega arith) x.bytes
text_head_bytes (str32 x) = cons_bytes (omega arith) x.bytes

binary_head_bytes : {n : ℕ} {h : List ℕ} → BinaryHead n h → AllBytes h
binary_head_bytes (bin8 x) = cons_bytes (omega arith) x.bytes
binary_head_bytes (bin16 x) = cons_bytes (omega arith) x.bytes
binary_head_bytes (bin32 x) = cons_bytes (omega arith) x.bytes

extension_head_bytes : {n : ℕ} {h : List ℕ} → ExtensionHead n h → AllBytes h
extension_head_bytes fixext1 = cons_bytes (omega arith) none_bytes
extension_head_bytes fixext2 = cons_bytes (omega arith) none_bytes
extension_head_bytes fixext4 = cons_bytes (omega arith) none_bytes
extension_head_bytes fixext8 = cons_bytes (omega arith) none_bytes
extension_head_bytes fixext16 = cons_bytes (omega arith) none_bytes
extension_head_bytes (ext8 x) = cons_bytes (omega arith) x.bytes
extension_head_bytes (ext16 x) = cons_bytes (omega arith) x.bytes
extension_head_bytes (ext32 x) = cons_bytes (omega arith) x.bytes

array_head_bytes : {n : ℕ} {h : List ℕ} → ArrayHead n h → AllBytes h
array_head_bytes (fixarray n l) = cons_bytes (omega arith) none_bytes
array_head_bytes (array16 x) = cons_bytes (omega arith) x.bytes
array_head_bytes (array32 x) = cons_bytes (omega arith) x.bytes

map_head_bytes : {n : ℕ} {h : List ℕ} → MapHead n h → AllBytes h
map_head_bytes (fixmap n l) = cons_bytes (omega arith) none_bytes
map_head_bytes (map16 x) = cons_bytes (omega arith) x.bytes
map_head_bytes (map32 x) = cons_bytes (omega arith) x.bytes

-- ---- values

scalar_bytes : {v : Value} {e : List ℕ} → Scalar v e → AllBytes e
scalar_bytes nil = cons_bytes (omega arith) none_bytes
scalar_bytes false_byte = cons_bytes (omega arith) none_bytes
scalar_bytes true_byte = cons_bytes (omega arith) none_bytes
scalar_bytes (positive_fixint n l) = cons_bytes (omega arith) none_bytes
scalar_bytes (negative_fixint n m l z) = cons_bytes (omega arith) none_bytes
scalar_bytes (uint8 x) = cons_bytes (omega arith) x.bytes
scalar_bytes (uint16 x) = cons_bytes (omega arith) x.bytes
scalar_bytes (uint32 x) = cons_bytes (omega arith) x.bytes
scalar_bytes (uint64 x) = cons_bytes (omega arith) x.bytes
scalar_bytes (int8 x) = cons_bytes (omega arith) (signed_bytes x)
scalar_bytes (int16 x) = cons_bytes (omega arith) (signed_bytes x)
scalar_bytes (int32 x) = cons_bytes (omega arith) (signed_bytes x)
scalar_bytes (int64 x) = cons_bytes (omega arith) (signed_bytes x)
scalar_bytes (float32 l x) = cons_bytes (omega arith) x
scalar_bytes (float64 l x) = cons_bytes (omega arith) x
scalar_bytes (text {h = h} x y) = append_bytes h (text_head_bytes x) y
scalar_bytes (binary {h = h} x y) = append_bytes h (binary_head_bytes x) y
scalar_bytes (extension {h = h} x l y) = append_bytes h (extension_head_bytes x) (cons_bytes l y)

pub encoding_bytes : {v : Value} {e : List ℕ} → Encodes v e → AllBytes e
encoding_bytes x = elim x as (λ v e y. AllBytes e) (λ vs e y. AllBytes e) (λ ps e y. AllBytes e) [
  | scalar s ↦ scalar_bytes s
  | array {h = h} y (es → p) ↦ append_bytes h (array_head_bytes y) p
  | map {h = h} y (es → p) ↦ append_bytes h (map_head_bytes y) p
  | none ↦ none_bytes
  | next {e = e} (y → p) (ys → q) ↦ append_bytes e p q
  | no_pair ↦ none_bytes
  | next_pair {e = e} {f = f} (y → p) (z → q) (ys → r) ↦ append_bytes e p (append_bytes f q r)
]
