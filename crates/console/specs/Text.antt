-- Numbers and refusals as the programs print them.
use Rattle.std.specs.Prelude.{ℕ, zero, suc, ◌-◌, ◌*◌, ◌/◌, ◌%◌, ◌^◌, ◌≤◌, ◌<◌, Bool, true, false, cond, List, [], ◌∷◌, ◌++◌, leb, ltb, ◌≡◌, refl, length}
use Rattle.std.proofs.Common.{lit<, pow-suc, arith, lt-ltb, le-ltb, leb-true, leb-false, length-append}
use Rattle.std.proofs.Math.Nat.{one-le-pow, pow-le-pow_right}
use Rattle.io.specs.Digits.{last_digits, hex_digit_ascii, IsDigitCount}

-- a number in decimal, with no leading zero; it has at most 20 digits
unfoldable pub decimal_of : ℕ → ℕ → List ℕ
decimal_of zero n = []
decimal_of (suc k) n = cond (ltb n 10) (hex_digit_ascii n ∷ []) (decimal_of k (n / 10) ++ (hex_digit_ascii (n % 10) ∷ []))

abbrev pub decimal : ℕ → List ℕ
decimal n = decimal_of 20 n

abbrev pub space : List ℕ
space = 0x20 ∷ []

abbrev pub newline : List ℕ
newline = 0x0A ∷ []

-- `refused `, ` at `
abbrev pub refused_word : List ℕ
refused_word = 0x72 ∷ 0x65 ∷ 0x66 ∷ 0x75 ∷ 0x73 ∷ 0x65 ∷ 0x64 ∷ 0x20 ∷ []

abbrev pub at_word : List ℕ
at_word = 0x20 ∷ 0x61 ∷ 0x74 ∷ 0x20 ∷ []

unfoldable pub refusal_line : ℕ → ℕ → List ℕ
refusal_line n place = refused_word ++ decimal n ++ at_word ++ decimal place ++ newline

-- a refusal that has no place
unfoldable pub refusal_alone : ℕ → List ℕ
refusal_alone n = refused_word ++ decimal n ++ newline

-- ---- lengths

decimal_of_length : (k n : ℕ) → length (decimal_of k n) ≤ k
unfolding decimal_of
decimal_of_length zero n = omega arith
decimal_of_length (suc k) n = go (ltb n 10) (decimal_of_length k (n / 10))
  where
    go : (t : Bool) → length (decimal_of k (n / 10)) ≤ k → length (cond t (hex_digit_ascii n ∷ []) (decimal_of k (n / 10) ++ (hex_digit_ascii (n % 10) ∷ []))) ≤ suc k
    go true h = omega arith
    go false h = rw length-append (omega arith)

pub decimal_length : (n : ℕ) → length (decimal n) ≤ 20
decimal_length n = decimal_of_length 20 n

fewest_before : (k n : ℕ) → 1 < suc k → 10 ^ suc k ≤ n → 10 ^ (suc k - 1) ≤ n / 10
fewest_before k n l least =
    let e : suc k - 1 ≡ k = omega arith in
    let more : 10 ^ k * 10 ≤ n = rw pow-suc at least in
    rw e (omega arith)

-- the fewest digits are those with no leading zero
pub fewest_decimal : (k j n : ℕ) → k ≤ j → IsDigitCount 10 1 n k → last_digits 10 k n ≡ decimal_of j n
unfolding decimal_of
fewest_decimal zero j n h f = absurd (omega (arith, f.0))
fewest_decimal (suc zero) (suc j) n h f =
    let l : n < 10 = f.1 in
    let e : n % 10 ≡ n = omega arith in
    rw (e, lt-ltb n 10 l)
fewest_decimal (suc (suc k)) (suc j) n h f =
    let p : suc (suc k) - 1 ≡ suc k = omega arith in
    let least : 10 ^ suc k ≤ n = rw p at (f.2 (omega arith)) in
    let more : 10 ^ k * 10 ≤ n = rw pow-suc at least in
    let most : n < 10 ^ suc k * 10 = rw (pow-suc 10 (suc k)) at f.1 in
    let one : 1 ≤ 10 ^ k = one-le-pow k 10 (lit< tt) in
    let rest : last_digits 10 (suc k) (n / 10) ≡ decimal_of j (n / 10)
    = fewest_decimal (suc k) j (n / 10) (omega arith) (omega arith, omega arith, λ l. fewest_before k n l least) in
    rw (le-ltb n 10 (omega arith), rest)
fewest_decimal (suc k) zero n h f = absurd (omega arith)

-- a number below b ^ m has at most m digits
pub places_most : (b least n k m : ℕ) → 0 < b → n < b ^ m → least ≤ m → IsDigitCount b least n k → k ≤ m
places_most b least n k m pos h few f = go (leb k m) refl
  where
    go : (t : Bool) → leb k m ≡ t → k ≤ m
    go true e = leb-true k m e
    go false e =
        let l : m < k = leb-false k m e in
        let j : m ≤ k - 1 = omega arith in
        let p : b ^ m ≤ b ^ (k - 1) = pow-le-pow_right pos j in
        absurd (omega (arith, f.2 (omega arith)))

pub refusal_length : (n place : ℕ) → length (refusal_line n place) ≤ 53
unfolding refusal_line
refusal_length n place = simp length-append (omega (arith, decimal_length n, decimal_length place))

pub refusal_alone_length : (n : ℕ) → length (refusal_alone n) ≤ 29
unfolding refusal_alone
refusal_alone_length n = simp length-append (omega (arith, decimal_length n))
