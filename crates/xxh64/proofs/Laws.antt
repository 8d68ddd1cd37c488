-- Laws on plain numbers that several proofs cite.
use Rattle.std.proofs.Common.{◌≡◌, ℕ, zero, suc, ◌+◌, ◌-◌, ◌*◌, ◌/◌, ◌%◌, ◌^◌, ◌<◌, ◌≤◌, List, length, take, drop, refl, ◌∙◌, subst, ap₂, add-zero, mod-lt, mul-le-mul_left, mul-suc, add-one, arith, length-drop, length-take-le, take-take, pow_pos, pow-add, shr_lt}
use native.Mathlib.Nat.{mul-mod_left}
use lib.Arith.{digits_lt}
use lib.Pow.{shl-shr, mod-pow-add}
use Rattle.endian.specs.Numbers.{little}
use Rattle.xxh64.specs.Xxh64.{prime5, lane, taken, round, converge, stripes, xxh64}
use Rattle.xxh64.specs.Parts.{fresh, finish, xxh64_finish}

-- ---- a rotation: the two parts are the two digits of a number below 2 ^ 64

shl_low : (x j r : ℕ) → x * 2 ^ r % 2 ^ (j + r) ≡ x % 2 ^ j * 2 ^ r
shl_low x j r =
    mod-pow-add (x * 2 ^ r) j r ∙ (λ i. shl-shr x r i % 2 ^ j * 2 ^ r + mul-mod_left x (2 ^ r) i) ∙ add-zero _

rotl_parts : (x j r : ℕ) → x < 2 ^ (r + j) → x * 2 ^ r % 2 ^ (j + r) + x / 2 ^ j < 2 ^ (j + r)
rotl_parts x j r h =
    rw (shl_low x j r, pow-add 2 j r) (digits_lt (mod-lt x (pow_pos j)) (shr_lt r j h))

pub rotl_lt : (x r : ℕ) → x < 2 ^ 64 → r < 64 → x * 2 ^ r % 2 ^ 64 + x / 2 ^ (64 - r) < 2 ^ 64
rotl_lt x r h l =
    let e : (64 - r) + r ≡ 64 = omega arith in
    let f : 64 ≡ r + (64 - r) = omega arith in
    subst (λ (w : ℕ). x * 2 ^ r % 2 ^ w + x / 2 ^ (64 - r) < 2 ^ w) e
    (rotl_parts x (64 - r) r (subst (λ (w : ℕ). x < 2 ^ w) f h))

-- ---- a lane, as a part of the input

module _ (s : List ℕ) (at w : ℕ) (inside : at + w ≤ length s) where
  part_width : (at + w) - at ≡ w
  part_width = omega arith

  pub part_holds : 0 + w ≤ length (take ((at + w) - at) (drop at s))
  part_holds = rw (part_width, length-take-le w (drop at s) (rw length-drop (omega arith))) (omega arith)

  pub lane_of_part : little (take w (drop 0 (take ((at + w) - at) (drop at s)))) ≡ lane s at w
  unfolding lane
  lane_of_part = rw (part_width, take-take w w (drop at s) (omega arith))

-- ---- the loops

-- a lane before the last lies inside
pub lane_inside : (at w n k len : ℕ) → at + w * n ≤ len → k < n → at + w * k + w ≤ len
lane_inside at w n k len h l =
    let e : w * suc k ≤ w * n = mul-le-mul_left w l in
    omega (arith, rw mul-suc at e)

-- one more lane
pub taken_more : (step : ℕ → ℕ → ℕ) (w stride : ℕ) (s : List ℕ) (at acc k : ℕ) {v x r : ℕ} → v ≡ taken step w stride s at acc k → x ≡ lane s (at + stride * k) w → r ≡ step v x → r ≡ taken step w stride s at acc (k + 1)
unfolding taken
taken_more step w stride s at acc k q e p = rw add-one (p ∙ ap₂ step q e)

-- after a stripe at least, the accumulators converge
pub stripes_more : (s : List ℕ) (n : ℕ) {a b c d : ℕ} → (n ≡ 0 → ⊥)
    → a ≡ taken round 8 32 s 0 fresh.acc1 n → b ≡ taken round 8 32 s 8 fresh.acc2 n → c ≡ taken round 8 32 s 16 fresh.acc3 n → d ≡ taken round 8 32 s 24 fresh.acc4 n
    → converge a b c d ≡ stripes s n
unfolding stripes fresh
stripes_more s zero h p q r t = absurd (h refl)
stripes_more s (suc n) h p q r t = λ i. converge (p i) (q i) (r i) (t i)

-- and without one the finish is all there is
pub short_finish : (s : List ℕ) → length s < 32 → finish prime5 (length s) s ≡ xxh64 s
unfolding stripes
short_finish s h =
    let none : length s / 32 ≡ 0 = omega arith in
    rw none at (xxh64_finish s)
