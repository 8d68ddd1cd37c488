-- The short form row by row of the table: each row either is the one that the writer takes, or is longer, or is a signed form of an integer of at least 0.
use Rattle.std.specs.Prelude.{ℕ, ◌+◌, ◌-◌, ◌^◌, ◌≤◌, Bool, cond, List, ◌∷◌, ◌≡◌, eqb}
use Rattle.std.proofs.Math.Bool.{true, false}
use Rattle.std.proofs.Math.Path.{refl}
use Rattle.std.proofs.Common.{arith}
use borrow.Author.Tests.{leb-false}
use Rattle.std.proofs.Math.Dec.{leb}
use Rattle.msgpack.specs.Formats.{integer_kind, formats, format_of}
use Rattle.msgpack.specs.Readers.{minus}
use Rattle.msgpack_heads.specs.Heads.{Form, form, form_bytes}
use Rattle.msgpack.specs.Short.{fixed_holds, fits_in, short_width, argument_width, is_signed, signed_well, is_short}
use Rattle.msgpack_model.specs.Encoding.{Number}
use Rattle.msgpack_model.specs.Shorts.{negative_form, negative_integer, Verdict, same_row, longer_row, still}

-- ---- negative integers

-- the number n of w bytes that stands for -m
record Below (w n m : ℕ) : Type 0 where
  upper : 256 ^ w ≤ n + n
  sum : n + m ≡ 256 ^ w

same_negative : (s : Bool) (b w n m : ℕ) {e : List ℕ} → Number w n e → n + m ≡ 256 ^ w → s ≡ true → Verdict s (b ∷ e) (form_bytes (form b w) (256 ^ w - m))
same_negative s b w n m x z t = let is : 256 ^ w - m ≡ n = omega arith in rw is (same_row s b w n x t)

abbrev NegativeRow : ℕ → ℕ → ℕ → List ℕ → Type 0
NegativeRow w b m e = Verdict (eqb w (short_width integer_kind (minus m))) (b ∷ e) (negative_integer m)

module _ (m : ℕ) where
  abbrev negative_by : Bool → Bool → Bool → Bool → Form
  negative_by t u v z = cond t (form (256 - m) 0) (cond u (form 0xd0 1) (cond v (form 0xd1 2) (cond z (form 0xd2 4) (form 0xd3 8))))

  abbrev negative_width_by : Bool → Bool → Bool → Bool → ℕ
  negative_width_by t u v z = cond t 0 (cond u 1 (cond v 2 (cond z 4 8)))

  abbrev NegativeBy : ℕ → ℕ → List ℕ → Bool → Bool → Bool → Bool → Type 0
  NegativeBy w b e t u v z = Verdict (eqb w (negative_width_by t u v z)) (b ∷ e) (form_bytes (negative_by t u v z) (256 ^ (negative_by t u v z).width - m))

  negative_1 : (n : ℕ) {e : List ℕ} → Number 1 n e → Below 1 n m → NegativeRow 1 0xd0 m e
  unfolding short_width fits_in fixed_holds negative_form
  negative_1 n {e = e} x y = by (leb m 32) (leb m 128) (leb m 32768) (leb m 2147483648) refl
    where
      by : (t u v z : Bool) → leb m 128 ≡ u → NegativeBy 1 0xd0 e t u v z
      by true u v z p = longer_row _ 0xd0 1 n _ (form (256 - m) 0) x refl (omega arith)
      by false true v z p = same_negative _ 0xd0 1 n m x y.sum refl
      by false false v z p = absurd (omega (arith, leb-false m 128 p, y.upper, y.sum))

  negative_2 : (n : ℕ) {e : List ℕ} → Number 2 n e → Below 2 n m → NegativeRow 2 0xd1 m e
  unfolding short_width fits_in fixed_holds negative_form
  negative_2 n {e = e} x y = by (leb m 32) (leb m 128) (leb m 32768) (leb m 2147483648) refl
    where
      by : (t u v z : Bool) → leb m 32768 ≡ v → NegativeBy 2 0xd1 e t u v z
      by true u v z p = longer_row _ 0xd1 2 n _ (form (256 - m) 0) x refl (omega arith)
      by false true v z p = longer_row _ 0xd1 2 n _ (form 0xd0 1) x refl (omega arith)
      by false false true z p = same_negative _ 0xd1 2 n m x y.sum refl
      by false false false z p = absurd (omega (arith, leb-false m 32768 p, y.upper, y.sum))

  negative_4 : (n : ℕ) {e : List ℕ} → Number 4 n e → Below 4 n m → NegativeRow 4 0xd2 m e
  unfolding short_width fits_in fixed_holds negative_form
  negative_4 n {e = e} x y = by (leb m 32) (leb m 128) (leb m 32768) (leb m 2147483648) refl
    where
      by : (t u v z : Bool) → leb m 2147483648 ≡ z → NegativeBy 4 0xd2 e t u v z
      by true u v z p = longer_row _ 0xd2 4 n _ (form (256 - m) 0) x refl (omega arith)
      by false true v z p = longer_row _ 0xd2 4 n _ (form 0xd0 1) x refl (omega arith)
      by false false true z p = longer_row _ 0xd2 4 n _ (form 0xd1 2) x refl (omega arith)
      by false false false true p = same_negative _ 0xd2 4 n m x y.sum refl
      by false false false false p = absurd (omega (arith, leb-false m 2147483648 p, y.upper, y.sum))

  negative_8 : (n : ℕ) {e : List ℕ} → Number 8 n e → Below 8 n m → NegativeRow 8 0xd3 m e
  unfolding short_width fits_in fixed_holds negative_form
  negative_8 n {e = e} x y = by (leb m 32) (leb m 128) (leb m 32768) (leb m 2147483648)
    where
      by : (t u v z : Bool) → NegativeBy 8 0xd3 e t u v z
      by true u v z = longer_row _ 0xd3 8 n _ (form (256 - m) 0) x refl (omega arith)
      by false true v z = longer_row _ 0xd3 8 n _ (form 0xd0 1) x refl (omega arith)
      by false false true z = longer_row _ 0xd3 8 n _ (form 0xd1 2) x refl (omega arith)
      by false false false true = longer_row _ 0xd3 8 n _ (form 0xd2 4) x refl (omega arith)
      by false false false false = same_negative _ 0xd3 8 n m x y.sum refl

-- ---- integers, with their first bytes

below : (w n m : ℕ) → 256 ^ w ≤ n + n → n + m ≡ 256 ^ w → Below w n m
below w n m l z = record { upper = l; sum = z }

pub negative_row_1 : (n m : ℕ) {e : List ℕ} → Number 1 n e → 256 ^ 1 ≤ n + n → n + m ≡ 256 ^ 1 → Verdict (is_short 0xd0 (minus m)) (0xd0 ∷ e) (negative_integer m)
unfolding is_short argument_width signed_well is_signed format_of formats
negative_row_1 n m x l z = still _ (negative_1 m n x (below 1 n m l z))

pub negative_row_2 : (n m : ℕ) {e : List ℕ} → Number 2 n e → 256 ^ 2 ≤ n + n → n + m ≡ 256 ^ 2 → Verdict (is_short 0xd1 (minus m)) (0xd1 ∷ e) (negative_integer m)
unfolding is_short argument_width signed_well is_signed format_of formats
negative_row_2 n m x l z = still _ (negative_2 m n x (below 2 n m l z))

pub negative_row_4 : (n m : ℕ) {e : List ℕ} → Number 4 n e → 256 ^ 4 ≤ n + n → n + m ≡ 256 ^ 4 → Verdict (is_short 0xd2 (minus m)) (0xd2 ∷ e) (negative_integer m)
unfolding is_short argument_width signed_well is_signed format_of formats
negative_row_4 n m x l z = still _ (negative_4 m n x (below 4 n m l z))

pub negative_row_8 : (n m : ℕ) {e : List ℕ} → Number 8 n e → 256 ^ 8 ≤ n + n → n + m ≡ 256 ^ 8 → Verdict (is_short 0xd3 (minus m)) (0xd3 ∷ e) (negative_integer m)
unfolding is_short argument_width signed_well is_signed format_of formats
negative_row_8 n m x l z = still _ (negative_8 m n x (below 8 n m l z))
