-- XXH64 with seed 0, in the steps and names of the xxHash specification. Numbers have 64 bits: sums and products are remainders by 2 ^ 64.
use Rattle.std.specs.Prelude.{ℕ, zero, suc, ◌+◌, ◌-◌, ◌*◌, ◌/◌, ◌%◌, ◌^◌, ◌<◌, cond, List, length, take, drop, ◌==◌, bit_xor}
use Rattle.std.proofs.Common.{mod-lt, lt_of_le_of_lt, lit<}
use Rattle.std.proofs.lemmas.Nat.{xor_lt, shr_le}
use Rattle.endian.specs.Numbers.{little}

abbrev pub prime1 : ℕ
prime1 = 0x9E3779B185EBCA87

abbrev pub prime2 : ℕ
prime2 = 0xC2B2AE3D27D4EB4F

abbrev pub prime3 : ℕ
prime3 = 0x165667B19E3779F9

abbrev pub prime4 : ℕ
prime4 = 0x85EBCA77C2B2AE63

abbrev pub prime5 : ℕ
prime5 = 0x27D4EB2F165667C5

unfoldable pub add : ℕ → ℕ → ℕ
add a b = (a + b) % 2 ^ 64

unfoldable pub mul : ℕ → ℕ → ℕ
mul a b = a * b % 2 ^ 64

-- rotated left by r bits: `x <<< r`
unfoldable pub rotl : ℕ → ℕ → ℕ
rotl x r = x * 2 ^ r % 2 ^ 64 + x / 2 ^ (64 - r)

-- `x xor (x >> r)`
unfoldable pub fold_high : ℕ → ℕ → ℕ
fold_high x r = bit_xor x (x / 2 ^ r)

-- the lane of w bytes at a place of the input
unfoldable pub lane : List ℕ → ℕ → ℕ → ℕ
lane s at w = little (take w (drop at s))

-- n lanes of w bytes, the first at `at` and each `stride` after the one before, are taken into acc by `step`
unfoldable pub taken : (ℕ → ℕ → ℕ) → ℕ → ℕ → List ℕ → ℕ → ℕ → ℕ → ℕ
taken step w stride s at acc zero = acc
taken step w stride s at acc (suc n) = step (taken step w stride s at acc n) (lane s (at + stride * n) w)

-- ---- steps 1 to 3: stripes of 32 bytes, a lane of 8 to each of four accumulators

unfoldable pub round : ℕ → ℕ → ℕ
round acc x = mul (rotl (add acc (mul x prime2)) 31) prime1

unfoldable pub merge_accumulator : ℕ → ℕ → ℕ
merge_accumulator acc acc_n = add (mul (bit_xor acc (round 0 acc_n)) prime1) prime4

unfoldable pub converge : ℕ → ℕ → ℕ → ℕ → ℕ
converge acc1 acc2 acc3 acc4 =
    let sum = add (add (add (rotl acc1 1) (rotl acc2 7)) (rotl acc3 12)) (rotl acc4 18) in
    merge_accumulator (merge_accumulator (merge_accumulator (merge_accumulator sum acc1) acc2) acc3) acc4

-- the accumulator after n stripes; an input with none starts at prime5
unfoldable pub stripes : List ℕ → ℕ → ℕ
stripes s zero = prime5
stripes s (suc n) =
    converge
    (taken round 8 32 s 0 (add prime1 prime2) (suc n))
    (taken round 8 32 s 8 prime2 (suc n))
    (taken round 8 32 s 16 0 (suc n))
    (taken round 8 32 s 24 (2 ^ 64 - prime1) (suc n))

-- ---- step 5: the remaining input, in lanes of 8, 4 and 1 bytes

unfoldable pub consume8 : ℕ → ℕ → ℕ
consume8 acc x = add (mul (rotl (bit_xor acc (round 0 x)) 27) prime1) prime4

unfoldable pub consume4 : ℕ → ℕ → ℕ
consume4 acc x = add (mul (rotl (bit_xor acc (mul x prime1)) 23) prime2) prime3

unfoldable pub consume1 : ℕ → ℕ → ℕ
consume1 acc x = mul (rotl (bit_xor acc (mul x prime5)) 11) prime1

unfoldable pub consume : ℕ → ℕ → ℕ → ℕ
consume w acc x = cond (w == 8) (consume8 acc x) (cond (w == 4) (consume4 acc x) (consume1 acc x))

-- ---- step 6

unfoldable pub avalanche : ℕ → ℕ
avalanche acc = fold_high (mul (fold_high (mul (fold_high acc 33) prime2) 29) prime3) 32

-- ---- the hash; step 4 adds the length

unfoldable pub xxh64 : List ℕ → ℕ
xxh64 s =
    let n = length s in
    let acc = add (stripes s (n / 32)) n in
    let acc = taken (consume 8) 8 8 s (n / 32 * 32) acc (n % 32 / 8) in
    let acc = taken (consume 4) 4 4 s (n / 8 * 8) acc (n % 8 / 4) in
    let acc = taken (consume 1) 1 1 s (n / 4 * 4) acc (n % 4) in
    avalanche acc

-- ---- the hash has 64 bits

mul_lt : (a b : ℕ) → mul a b < 2 ^ 64
unfolding mul
mul_lt a b = mod-lt (a * b) (lit< tt)

fold_high_lt : (x r : ℕ) → x < 2 ^ 64 → fold_high x r < 2 ^ 64
unfolding fold_high
fold_high_lt x r h = xor_lt 64 x (x / 2 ^ r) h (lt_of_le_of_lt (shr_le x r) h)

avalanche_lt : (acc : ℕ) → avalanche acc < 2 ^ 64
unfolding avalanche
avalanche_lt acc = fold_high_lt (mul (fold_high (mul (fold_high acc 33) prime2) 29) prime3) 32 (mul_lt (fold_high (mul (fold_high acc 33) prime2) 29) prime3)

pub xxh64_lt : (s : List ℕ) → xxh64 s < 2 ^ 64
unfolding xxh64
xxh64_lt s = avalanche_lt _
