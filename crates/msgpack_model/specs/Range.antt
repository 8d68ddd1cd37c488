-- The integers that have an encoding are those from -2^63 to 2^64 - 1.
use Rattle.std.specs.Prelude.{ℕ, ◌-◌, ◌^◌, ◌≤◌, ◌<◌, List, ◌∷◌}
use Rattle.std.proofs.Math.Nat.{pow-le-pow_right}
use Rattle.std.proofs.Common.{lt_of_lt_of_le, arith, lit<}
use Rattle.endian.specs.Numbers.{big_bytes}
use Rattle.msgpack.specs.Readers.{plus, minus}
use Rattle.msgpack_model.specs.Values.{Integer}
use Rattle.msgpack_model.specs.Encoding.{Number, Signed, non_negative, negative, positive_fixint, negative_fixint, uint8, uint16, uint32, uint64, int8, int16, int32, int64, Encodes, scalar}
use Rattle.msgpack_model.specs.Writers.{number_written, number_lt}

-- over the width
plus_below : (w : ℕ) {n : ℕ} {e : List ℕ} → w ≤ 8 → Number w n e → n < 2 ^ 64
plus_below w h x = lt_of_lt_of_le (number_lt x) (pow-le-pow_right {n = 256} (lit< tt) h)

minus_within : (w : ℕ) {m : ℕ} {e : List ℕ} → w ≤ 8 → Signed w (minus m) e → (0 < m) × (m ≤ 2 ^ 63)
minus_within w h (negative {n = n} {m = m} x l z) =
    let all : 256 ^ w ≤ 2 ^ 64 = pow-le-pow_right {n = 256} (lit< tt) h in
    let below : n < 256 ^ w = number_lt x in
    (omega arith, omega arith)

pub plus_range : {n : ℕ} {e : List ℕ} → Encodes (Integer (plus n)) e → n < 2 ^ 64
plus_range (scalar (positive_fixint n h)) = omega arith
plus_range (scalar (uint8 x)) = plus_below 1 (omega arith) x
plus_range (scalar (uint16 x)) = plus_below 2 (omega arith) x
plus_range (scalar (uint32 x)) = plus_below 4 (omega arith) x
plus_range (scalar (uint64 x)) = plus_below 8 (omega arith) x
plus_range (scalar (int8 (non_negative x l))) = plus_below 1 (omega arith) x
plus_range (scalar (int16 (non_negative x l))) = plus_below 2 (omega arith) x
plus_range (scalar (int32 (non_negative x l))) = plus_below 4 (omega arith) x
plus_range (scalar (int64 (non_negative x l))) = plus_below 8 (omega arith) x

pub minus_range : {m : ℕ} {e : List ℕ} → Encodes (Integer (minus m)) e → (0 < m) × (m ≤ 2 ^ 63)
minus_range (scalar (negative_fixint n m h z)) = (omega arith, omega arith)
minus_range (scalar (int8 x)) = minus_within 1 (omega arith) x
minus_range (scalar (int16 x)) = minus_within 2 (omega arith) x
minus_range (scalar (int32 x)) = minus_within 4 (omega arith) x
minus_range (scalar (int64 x)) = minus_within 8 (omega arith) x

-- and each of them has one: those from 0 on by `unsigned-written`
pub minus_encoded : (m : ℕ) → 0 < m → m ≤ 2 ^ 63 → Encodes (Integer (minus m)) (0xd3 ∷ big_bytes 8 (2 ^ 64 - m))
minus_encoded m h k = scalar (int64 (negative {m = m} (number_written 8 (2 ^ 64 - m) (omega arith)) (omega arith) (omega arith)))
