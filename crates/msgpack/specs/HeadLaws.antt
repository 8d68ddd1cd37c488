-- Laws of heads: what a number that was read says, and how large a first byte lets a head be.
use Rattle.std.specs.Prelude.{ℕ, ◌^◌, ◌≤◌, ◌<◌, Bool, true, false, cond, List, [], ◌∷◌, ◌≡◌, refl, leb, length, take, drop}
use Rattle.std.specs.Prelude.{Option, None, Some}
use Rattle.std.proofs.Math.Nat.{pow-le-pow_right}
use Rattle.std.proofs.Common.{lt_of_lt_of_le, arith, leb-true, lit<, length-drop, length-take-le}
use Rattle.slices.specs.Bytes.{AllBytes, take_bytes, drop_bytes}
use Rattle.slices.specs.Logic.{absurd_numbers}
use Rattle.slices.specs.Tables.{agree}
use Rattle.endian.specs.Numbers.{big, big_lt}
use Rattle.endian.specs.Places.{holds, number_at, Within, holds_within}
use Rattle.msgpack.specs.Formats.{width_of, amount_of, formats, format_of}
use Rattle.msgpack.specs.Items.{head_by, head_of}

-- ---- a number that was read

pub record NumberRead (order : List ℕ → ℕ) (s : List ℕ) (at w n : ℕ) : Type 0 where
  pub within : Within (length s) at w
  pub is : n ≡ order (take w (drop at s))

pub number_read : (order : List ℕ → ℕ) (s : List ℕ) (at w n : ℕ) → number_at order s at w ≡ Some n → NumberRead order s at w n
unfolding number_at
number_read order s at w n e = by (holds (length s) at w) refl e
  where
    by : (t : Bool) → holds (length s) at w ≡ t → cond t (Some (order (take w (drop at s)))) None ≡ Some n → NumberRead order s at w n
    by true h q = record { within = holds_within _ _ _ h; is = cc }
    by false h q = absurd_numbers (cc)

-- a number of at most 4 bytes
pub read_small : (s : List ℕ) (at w n : ℕ) → AllBytes s → w ≤ 4 → NumberRead big s at w n → n < 2 ^ 32
read_small s at w n bytes h r =
    let l : length (take w (drop at s)) ≡ w = length-take-le w (drop at s) (rw length-drop (omega (arith, r.within.inside))) in
    let b : big (take w (drop at s)) < 256 ^ w = rw l at (big_lt (take w (drop at s)) (take_bytes w (drop at s) (drop_bytes at bytes))) in
    rw r.is (lt_of_lt_of_le b (pow-le-pow_right {n = 256} (lit< tt) h))

-- ---- no first byte says a large number

pub record Narrow (width amount : ℕ) : Type 0 where
  pub width_small : width ≤ 4
  pub amount_small : amount ≤ 31

pub narrow : (b : ℕ) → b < 256 → Narrow (width_of (format_of b)) (amount_of (format_of b))
unfolding format_of formats
narrow b h = record {
  width_small = leb-true (width_of (format_of b)) 4 (agree (λ k. leb (width_of (format_of k)) 4) (λ k. true) 256 refl b h);
  amount_small = leb-true (amount_of (format_of b)) 31 (agree (λ k. leb (amount_of (format_of k)) 31) (λ k. true) 256 refl b h);
}

-- so that no head says one
pub head_small : (s : List ℕ) → AllBytes s → (head_of s).count < 2 ^ 33
unfolding head_of
head_small [] bytes = omega arith
head_small (b ∷ t) bytes = by (number_at big (b ∷ t) 1 (width_of (format_of b))) refl
  where
    by : (o : Option ℕ) → number_at big (b ∷ t) 1 (width_of (format_of b)) ≡ o → (head_by (format_of b) o).count < 2 ^ 33
    by None e = omega arith
    by (Some n) e =
        let few = narrow b (bytes.below 0) in
        let small = read_small (b ∷ t) 1 (width_of (format_of b)) n bytes few.width_small (number_read big (b ∷ t) 1 (width_of (format_of b)) n e) in
        omega (arith, few.amount_small)
