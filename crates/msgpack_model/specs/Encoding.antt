-- Which bytes encode which value: one constructor for each row of the specification's table of formats, and nothing computed.
-- A value may have many encodings: an integer each form that holds it, a text each head that holds its length.
use Rattle.std.specs.Prelude.{ℕ, suc, ◌+◌, ◌^◌, ◌≤◌, ◌<◌, true, false, List, [], ◌∷◌, ◌++◌, ◌≡◌, length}
use Rattle.slices.specs.Bytes.{AllBytes}
use Rattle.endian.specs.Numbers.{big}
use Rattle.msgpack.specs.Readers.{Int, plus, minus}
use Rattle.msgpack_model.specs.Values.{Value, Nil, Boolean, Integer, Float, Text, Binary, Extension, Array, Map, Values, no_values_lem, value, Pairs, no_pairs, pair, count_values, count_pairs, values_depth}

-- the bytes e are the number n in w bytes, big-endian
pub record Number (w n : ℕ) (e : List ℕ) : Type 0 where
  pub size : length e ≡ w
  pub bytes : AllBytes e
  pub is : big e ≡ n

-- the bytes e are an integer in w bytes, in two's complement
pub data Signed (w : ℕ) : Int → List ℕ → Type 0 where
  non_negative : {n : ℕ} {e : List ℕ} → Number w n e → n + n < 256 ^ w → Signed w (plus n) e
  negative : {n m : ℕ} {e : List ℕ} → Number w n e → 256 ^ w ≤ n + n → n + m ≡ 256 ^ w → Signed w (minus m) e

-- ---- heads that say how much follows

pub data TextHead : ℕ → List ℕ → Type 0 where
  fixstr : (n : ℕ) → n < 32 → TextHead n ((0xa0 + n) ∷ [])
  str8 : {n : ℕ} {e : List ℕ} → Number 1 n e → TextHead n (0xd9 ∷ e)
  str16 : {n : ℕ} {e : List ℕ} → Number 2 n e → TextHead n (0xda ∷ e)
  str32 : {n : ℕ} {e : List ℕ} → Number 4 n e → TextHead n (0xdb ∷ e)

pub data BinaryHead : ℕ → List ℕ → Type 0 where
  bin8 : {n : ℕ} {e : List ℕ} → Number 1 n e → BinaryHead n (0xc4 ∷ e)
  bin16 : {n : ℕ} {e : List ℕ} → Number 2 n e → BinaryHead n (0xc5 ∷ e)
  bin32 : {n : ℕ} {e : List ℕ} → Number 4 n e → BinaryHead n (0xc6 ∷ e)

pub data ExtensionHead : ℕ → List ℕ → Type 0 where
  fixext1 : ExtensionHead 1 (0xd4 ∷ [])
  fixext2 : ExtensionHead 2 (0xd5 ∷ [])
  fixext4 : ExtensionHead 4 (0xd6 ∷ [])
  fixext8 : ExtensionHead 8 (0xd7 ∷ [])
  fixext16 : ExtensionHead 16 (0xd8 ∷ [])
  ext8 : {n : ℕ} {e : List ℕ} → Number 1 n e → ExtensionHead n (0xc7 ∷ e)
  ext16 : {n : ℕ} {e : List ℕ} → Number 2 n e → ExtensionHead n (0xc8 ∷ e)
  ext32 : {n : ℕ} {e : List ℕ} → Number 4 n e → ExtensionHead n (0xc9 ∷ e)

pub data ArrayHead : ℕ → List ℕ → Type 0 where
  fixarray : (n : ℕ) → n < 16 → ArrayHead n ((0x90 + n) ∷ [])
  array16 : {n : ℕ} {e : List ℕ} → Number 2 n e → ArrayHead n (0xdc ∷ e)
  array32 : {n : ℕ} {e : List ℕ} → Number 4 n e → ArrayHead n (0xdd ∷ e)

pub data MapHead : ℕ → List ℕ → Type 0 where
  fixmap : (n : ℕ) → n < 16 → MapHead n ((0x80 + n) ∷ [])
  map16 : {n : ℕ} {e : List ℕ} → Number 2 n e → MapHead n (0xde ∷ e)
  map32 : {n : ℕ} {e : List ℕ} → Number 4 n e → MapHead n (0xdf ∷ e)

-- ---- a value that holds no other

pub data Scalar : Value → List ℕ → Type 0 where
  nil : Scalar Nil (0xc0 ∷ [])
  false_byte : Scalar (Boolean false) (0xc2 ∷ [])
  true_byte : Scalar (Boolean true) (0xc3 ∷ [])
  positive_fixint : (n : ℕ) → n < 128 → Scalar (Integer (plus n)) (n ∷ [])
  negative_fixint : (n m : ℕ) → n < 32 → n + m ≡ 32 → Scalar (Integer (minus m)) ((0xe0 + n) ∷ [])
  uint8 : {n : ℕ} {e : List ℕ} → Number 1 n e → Scalar (Integer (plus n)) (0xcc ∷ e)
  uint16 : {n : ℕ} {e : List ℕ} → Number 2 n e → Scalar (Integer (plus n)) (0xcd ∷ e)
  uint32 : {n : ℕ} {e : List ℕ} → Number 4 n e → Scalar (Integer (plus n)) (0xce ∷ e)
  uint64 : {n : ℕ} {e : List ℕ} → Number 8 n e → Scalar (Integer (plus n)) (0xcf ∷ e)
  int8 : {i : Int} {e : List ℕ} → Signed 1 i e → Scalar (Integer i) (0xd0 ∷ e)
  int16 : {i : Int} {e : List ℕ} → Signed 2 i e → Scalar (Integer i) (0xd1 ∷ e)
  int32 : {i : Int} {e : List ℕ} → Signed 4 i e → Scalar (Integer i) (0xd2 ∷ e)
  int64 : {i : Int} {e : List ℕ} → Signed 8 i e → Scalar (Integer i) (0xd3 ∷ e)
  float32 : {e : List ℕ} → length e ≡ 4 → AllBytes e → Scalar (Float e) (0xca ∷ e)
  float64 : {e : List ℕ} → length e ≡ 8 → AllBytes e → Scalar (Float e) (0xcb ∷ e)
  text : {h e : List ℕ} → TextHead (length e) h → AllBytes e → Scalar (Text e) (h ++ e)
  binary : {h e : List ℕ} → BinaryHead (length e) h → AllBytes e → Scalar (Binary e) (h ++ e)
  extension : {h : List ℕ} {t : ℕ} {e : List ℕ} → ExtensionHead (length e) h → t < 256 → AllBytes e → Scalar (Extension t e) (h ++ (t ∷ e))

-- ---- every value

mutual
  pub data Encodes : Value → List ℕ → Type 0 where
    scalar : {v : Value} {e : List ℕ} → Scalar v e → Encodes v e
    array : {vs : Values} {h e : List ℕ} → ArrayHead (count_values vs) h → EncodesValues vs e → Encodes (Array vs) (h ++ e)
    map : {ps : Pairs} {h e : List ℕ} → MapHead (count_pairs ps) h → EncodesPairs ps e → Encodes (Map ps) (h ++ e)

  -- the values one after another
  pub data EncodesValues : Values → List ℕ → Type 0 where
    none : EncodesValues no_values_lem []
    next : {v : Value} {vs : Values} {e f : List ℕ} → Encodes v e → EncodesValues vs f → EncodesValues (value v vs) (e ++ f)

  -- each key, and its value after it
  pub data EncodesPairs : Pairs → List ℕ → Type 0 where
    no_pair : EncodesPairs no_pairs []
    next_pair : {k v : Value} {ps : Pairs} {e f g : List ℕ} → Encodes k e → Encodes v f → EncodesPairs ps g → EncodesPairs (pair k v ps) (e ++ (f ++ g))

-- ---- too deep

-- the head of a container of so many items: of a map, keys and values both count
pub data Opens : ℕ → List ℕ → Type 0 where
  opens_array : {n : ℕ} {h : List ℕ} → ArrayHead n h → Opens n h
  opens_map : {n : ℕ} {h : List ℕ} → MapHead n h → Opens (n + n) h

-- from left to right all is well formed up to the whole head of a container that stands in a others
pub data TooDeep : ℕ → List ℕ → Type 0 where
  here : {count : ℕ} {h : List ℕ} → Opens count h → (rest : List ℕ) → TooDeep 0 (h ++ rest)
  inside : {a count : ℕ} {h e t : List ℕ} {vs : Values} → Opens count h → EncodesValues vs e → values_depth vs ≤ a
      → count_values vs < count → TooDeep a t → TooDeep (suc a) (h ++ (e ++ t))
