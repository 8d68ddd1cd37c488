-- What one more byte does to a number that is read or written a byte at a time.
use Prim.Native.Nat.{ℕ, zero, suc, ◌+◌, ◌*◌, ◌/◌, ◌%◌, ◌^◌, ◌≤◌, ◌<◌}
use mathlib.Core.Path.{◌≡◌, refl, sym, ap, ◌∙◌}
use mathlib.Core.List.{List, [], ◌∷◌, ◌++◌, append_assoc}
use native.Mathlib.Nat.{pow-suc, pow-le-pow_right, lt_of_lt_of_le}
use native.Mathlib.Numerals.{add-one}
use native.Mathlib.Omega.{arith}
use lib.Dec.{lit<}
use lib.ListN.{length, get_or, take, drop, length-drop, length-set, set}
use lib.Pow.{pow-add, shl_exact}
use lib.Seq.{take-suc, get_or-drop, length-take-le, drop-cons, get_or-set_same, drop-set-lt, take-set-le}
use Rattle.slices.specs.Bytes.{AllBytes, take_bytes, drop_bytes}
use Rattle.slices.specs.Overwriting.{overwritten, none_overwritten}
use Rattle.endian.specs.Numbers.{little, big, little_bytes, big_bytes, length_big_bytes, little_append, big_snoc, big_bytes_snoc}

-- ---- a byte shifted by i bytes

pow_bytes : (i : ℕ) → 2 ^ (8 * i) ≡ 256 ^ i
pow_bytes zero = refl
pow_bytes (suc i) =
    let e : 8 * suc i ≡ 8 * i + 8 = omega arith in
    rw (e, pow-add, pow_bytes i) (sym (pow-suc 256 i))

pub shifted : (i b : ℕ) → i < 8 → b < 256 → b * 2 ^ (8 * i) % 2 ^ 64 ≡ b * 256 ^ i
shifted i b h l = shl_exact 8 (8 * i) 64 l (omega arith) ∙ ap (λ (p : ℕ). b * p) (pow_bytes i)

-- ---- the number of i bytes, and of one more

module _ (s : List ℕ) (at i : ℕ) (within : at + i < length s) where
  part_length : length (take i (drop at s)) ≡ i
  part_length = length-take-le i (drop at s) (rw length-drop (omega arith))

  part_more : take (i + 1) (drop at s) ≡ take i (drop at s) ++ (get_or s (at + i) 0 ∷ [])
  part_more =
      let h : i < length (drop at s) = rw length-drop (omega arith) in
      rw (add-one, take-suc (drop at s) i 0, get_or-drop)

  pub big_more : {n b : ℕ} → n ≡ big (take i (drop at s)) → b ≡ get_or s (at + i) 0 → n * 256 + b ≡ big (take (i + 1) (drop at s))
  big_more p q = rw (part_more, big_snoc, p, q)

  pub little_more : {n b : ℕ} → n ≡ little (take i (drop at s)) → b ≡ get_or s (at + i) 0 → n + b * 256 ^ i ≡ little (take (i + 1) (drop at s))
  unfolding little
  little_more p q = rw (part_more, little_append, part_length, p, q) (omega arith)

-- ---- a number of at most 8 bytes fits

pub fits : (order : List ℕ → ℕ) → ((s : List ℕ) → AllBytes s → order s < 256 ^ length s) → (s : List ℕ) (at w : ℕ) → AllBytes s → at + w ≤ length s → w ≤ 8
    → order (take w (drop at s)) < 2 ^ 64
fits order bound s at w bytes within h =
    let l : length (take w (drop at s)) ≡ w = length-take-le w (drop at s) (rw length-drop (omega arith)) in
    lt_of_lt_of_le (rw l at (bound (take w (drop at s)) (take_bytes w (drop at s) (drop_bytes at bytes))))
    (pow-le-pow_right (lit< tt) h)

-- ---- one byte written

-- with the last byte of n written first, what is left to write is the other bytes
pub overwritten_digit : (s : List ℕ) (at w n : ℕ) → at + w < length s
    → overwritten (set s (at + w) (n % 256)) at (big_bytes w (n / 256)) ≡ overwritten s at (big_bytes (w + 1) n)
unfolding overwritten
overwritten_digit s at w n h =
    let here : drop (at + w) (set s (at + w) (n % 256)) ≡ n % 256 ∷ drop (suc (at + w)) s
    = drop-cons (set s (at + w) (n % 256)) (at + w) 0 (rw length-set h)
    ∙ rw (get_or-set_same s (at + w) (n % 256) 0 h, drop-set-lt (suc (at + w)) s (at + w) (n % 256) (omega arith)) in
    let next : at + (w + 1) ≡ suc (at + w) = omega arith in
    rw (length_big_bytes w (n / 256), length_big_bytes (w + 1) n, take-set-le at s (at + w) (n % 256) (omega arith), here, next, add-one w, big_bytes_snoc w n)
    (simp append_assoc)

pub overwritten_none : (s : List ℕ) (at n : ℕ) → overwritten s at (big_bytes 0 n) ≡ s
unfolding big_bytes little_bytes
overwritten_none s at n = none_overwritten s at
