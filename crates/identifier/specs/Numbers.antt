-- What the rules for a ULID are for: its characters write a number in base 32, most significant first. 26 characters are a ULID exactly when that
-- number is below 2^128, and the order of ULIDs as bytes is that of their numbers. So one digit decides: a greater one outweighs all after it.
use Rattle.std.specs.Prelude.{ℕ, ◌+◌, ◌*◌, ◌^◌, ◌<◌, ◌≡◌, refl, Bool, true, false, List, [], ◌∷◌, leb, ltb, length, get_or, replicate}
use Rattle.std.proofs.Common.{sym, ap, ◌∙◌, true≢false, le_of_lt, suc-mul, mul-le-mul_right, arith, ltb-true, ltb-false, lt-ltb, le-ltb}
use Rattle.std.proofs.Math.Nat.{pow-succ'}
use Rattle.std.proofs.Math.Dec.{leb-suc-suc}
use Rattle.slices.specs.Logic.{both}
use Rattle.identifier.specs.Texts.{member, all, before, before_found, less}
use Rattle.identifier.specs.Order.{Lower, first, later, lower, neither_less}
use Rattle.identifier.specs.Ulid.{alphabet, is_character, is_ulid, ulid_written, alphabet_order}

-- the value of a character: its place in the alphabet
unfoldable pub digit : ℕ → ℕ
digit x = length (before x alphabet)

-- the number that a text writes
unfoldable pub number : List ℕ → ℕ
number [] = 0
number (x ∷ s) = digit x * 32 ^ length s + number s

-- ---- characters

module _ (x : ℕ) (is : is_character x ≡ true) where
  digit_below : digit x < 32
  unfolding digit is_character alphabet
  digit_below = (before_found x alphabet is).0

  digit_at : get_or alphabet (digit x) 0 ≡ x
  unfolding digit is_character
  digit_at = (before_found x alphabet is).1

digit_order : (x y : ℕ) → is_character x ≡ true → is_character y ≡ true → ltb (digit x) (digit y) ≡ ltb x y
digit_order x y p q =
    sym (alphabet_order (digit x) (digit y) (digit_below x p) (digit_below y q)) ∙ rw (digit_at x p, digit_at y q)

-- at most `7`: the rule for the first character
digit_below_8 : (x : ℕ) → is_character x ≡ true → leb x 0x37 ≡ ltb (digit x) 8
unfolding digit is_character member before alphabet
digit_below_8 x p = sym (leb-suc-suc x 0x37) ∙ sym (digit_order x 0x38 p refl)

-- ---- a digit v, and after it a number r below the weight p of its place

outweighs : (v w r p : ℕ) → v < w → r < p → v * p + r < w * p
outweighs v w r p h g = omega (arith, suc-mul v p, mul-le-mul_right p h)

leads : (v w r p : ℕ) → r < p → ltb (v * p + r) (w * p) ≡ ltb v w
leads v w r p g = go (ltb v w) refl
  where
    go : (t : Bool) → ltb v w ≡ t → ltb (v * p + r) (w * p) ≡ t
    go true e = lt-ltb _ _ (outweighs v w r p (ltb-true v w e) g)
    go false e = le-ltb (v * p + r) (w * p) (omega (arith, mul-le-mul_right p (ltb-false v w e)))

-- ---- texts of characters

number_below : (s : List ℕ) → all is_character s ≡ true → number s < 32 ^ length s
unfolding all number
number_below [] a = omega arith
number_below (x ∷ s) a =
    let h = both (is_character x) (all is_character s) a in
    rw (pow-succ' 32 (length s)) (outweighs (digit x) 32 (number s) (32 ^ length s) (digit_below x h.0) (number_below s h.1))

number_rises : (s t : List ℕ) → length s ≡ length t → all is_character s ≡ true → all is_character t ≡ true → less s t ≡ true → number s < number t
unfolding all number less
number_rises [] [] n a b e = absurd (true≢false (sym e))
number_rises [] (y ∷ t) n a b e = absurd (omega arith)
number_rises (x ∷ s) [] n a b e = absurd (omega arith)
number_rises (x ∷ s) (y ∷ t) n a b e =
    let h = both (is_character x) (all is_character s) a in
    let k = both (is_character y) (all is_character t) b in
    let m : length s ≡ length t = omega arith in
    go h k m (lower x y s t e) (number_rises s t m h.1 k.1)
  where
    go : (is_character x ≡ true) × (all is_character s ≡ true) → (is_character y ≡ true) × (all is_character t ≡ true) → length s ≡ length t → Lower x y s t
        → (less s t ≡ true → number s < number t) → digit x * 32 ^ length s + number s < digit y * 32 ^ length t + number t
    go h k m (first l) r =
        let d : digit x < digit y = ltb-true _ _ (digit_order x y h.0 k.0 ∙ lt-ltb x y l) in
        rw (sym m) (omega (arith, outweighs (digit x) (digit y) (number s) (32 ^ length s) d (number_below s h.1)))
    go h k m (later q l) r = rw (q, m) (omega (arith, r l))

-- texts of one length are in the order of their numbers
pub number_order : (s t : List ℕ) → length s ≡ length t → all is_character s ≡ true → all is_character t ≡ true → less s t ≡ ltb (number s) (number t)
number_order s t n a b = go (less s t) (less t s) refl refl
  where
    go : (p q : Bool) → less s t ≡ p → less t s ≡ q → less s t ≡ ltb (number s) (number t)
    go true q e f = e ∙ sym (lt-ltb _ _ (number_rises s t n a b e))
    go false true e f = e ∙ sym (le-ltb _ _ (le_of_lt (number_rises t s (sym n) b a f)))
    go false false e f = e ∙ sym (le-ltb (number s) (number t) (omega (arith, ap number (neither_less s t e f))))

-- ---- ULIDs

-- 26 characters are a ULID exactly when their number has at most 128 bits
pub ulid_exactly : (s : List ℕ) → length s ≡ 26 → all is_character s ≡ true → is_ulid s ≡ ltb (number s) (2 ^ 128)
unfolding is_ulid all number
ulid_exactly [] n a = absurd (omega arith)
ulid_exactly (x ∷ s) n a =
    let h = both (is_character x) (all is_character s) a in
    let m : length s ≡ 25 = omega arith in
    let low : number s < 32 ^ 25 = rw m at (number_below s h.1) in
    rw (n, a, m) (digit_below_8 x h.0 ∙ sym (leads (digit x) 8 (number s) (32 ^ 25) low))

pub ulid_order : (s t : List ℕ) → is_ulid s ≡ true → is_ulid t ≡ true → less s t ≡ ltb (number s) (number t)
ulid_order s t p q =
    let a = ulid_written s p in
    let b = ulid_written t q in
    number_order s t (a.0 ∙ sym b.0) a.1 b.1

-- 7ZZZZZZZZZZZZZZZZZZZZZZZZZ has the greatest number of 128 bits
pub ulid_greatest : (is_ulid (0x37 ∷ replicate 25 0x5a) ≡ true) × (number (0x37 ∷ replicate 25 0x5a) + 1 ≡ 2 ^ 128)
unfolding is_ulid is_character all member alphabet number digit before
ulid_greatest = (refl, refl)
