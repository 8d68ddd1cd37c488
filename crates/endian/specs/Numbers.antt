-- Numbers as bytes. Each law is stated once, over the width; the big-endian ones are the little-endian ones read from the other end.
use Rattle.std.specs.Prelude.{ℕ, zero, suc, ◌+◌, ◌*◌, ◌/◌, ◌%◌, ◌^◌, ◌<◌, ◌≡◌, refl, length}
use Rattle.std.proofs.Common.{sym, ap, ◌∙◌, pow-suc, arith, lit<}
use mathlib.Core.List.{List, [], ◌∷◌, ◌++◌, reverse, reverse-cons, reverse-append, reverse-reverse}
use Rattle.std.proofs.Math.Nat.{mod-one, one-le-pow}
use Rattle.std.proofs.Math.Arith.{mod-mul}
use Rattle.std.proofs.lemmas.List.{length-reverse}
use Rattle.slices.specs.Bytes.{AllBytes, none_bytes, tail_bytes, cons_bytes, reverse_bytes}

-- the number of a list of bytes, least significant byte first
unfoldable pub little : List ℕ → ℕ
little [] = 0
little (b ∷ s) = b + 256 * little s

-- the number of a list of bytes, most significant byte first
unfoldable pub big : List ℕ → ℕ
big s = little (reverse s)

-- the w bytes of n, least significant first; of a number that w bytes do not hold, those of its remainder by 256 ^ w
unfoldable pub little_bytes : ℕ → ℕ → List ℕ
little_bytes zero n = []
little_bytes (suc w) n = n % 256 ∷ little_bytes w (n / 256)

-- the w bytes of n, most significant first
unfoldable pub big_bytes : ℕ → ℕ → List ℕ
big_bytes w n = reverse (little_bytes w n)

-- ---- the length

pub length_little_bytes : (w n : ℕ) → length (little_bytes w n) ≡ w
unfolding little_bytes
length_little_bytes zero n = refl
length_little_bytes (suc w) n = ap suc (length_little_bytes w (n / 256))

pub length_big_bytes : (w n : ℕ) → length (big_bytes w n) ≡ w
unfolding big_bytes
length_big_bytes w n = length-reverse (little_bytes w n) ∙ length_little_bytes w n

-- ---- the bytes of a number are bytes

pub little_bytes_bytes : (w n : ℕ) → AllBytes (little_bytes w n)
unfolding little_bytes
little_bytes_bytes zero n = none_bytes
little_bytes_bytes (suc w) n = cons_bytes (omega arith) (little_bytes_bytes w (n / 256))

pub big_bytes_bytes : (w n : ℕ) → AllBytes (big_bytes w n)
unfolding big_bytes
big_bytes_bytes w n = reverse_bytes (little_bytes w n) (little_bytes_bytes w n)

-- ---- the bound

pub little_lt : (s : List ℕ) → AllBytes s → little s < 256 ^ length s
unfolding little
little_lt [] h = omega arith
little_lt (b ∷ s) h =
    let first : b < 256 = h.below 0 in
    let rest : little s < 256 ^ length s = little_lt s (tail_bytes h) in
    rw pow-suc (omega arith)

pub big_lt : (s : List ℕ) → AllBytes s → big s < 256 ^ length s
unfolding big
big_lt s h = rw length-reverse at (little_lt (reverse s) (reverse_bytes s h))

-- ---- the number of the bytes of a number

pub little_of_bytes : (w n : ℕ) → little (little_bytes w n) ≡ n % 256 ^ w
unfolding little little_bytes
little_of_bytes zero n = sym (mod-one n)
little_of_bytes (suc w) n =
    rw (pow-suc, mod-mul n (one-le-pow w 256 (lit< tt)) (lit< tt), little_of_bytes w (n / 256)) (omega arith)

pub big_of_bytes : (w n : ℕ) → big (big_bytes w n) ≡ n % 256 ^ w
unfolding big big_bytes
big_of_bytes w n = rw reverse-reverse (little_of_bytes w n)

-- ---- the bytes of the number of bytes

pub bytes_of_little : (s : List ℕ) → AllBytes s → little_bytes (length s) (little s) ≡ s
unfolding little little_bytes
bytes_of_little [] h = refl
bytes_of_little (b ∷ s) h =
    let first : b < 256 = h.below 0 in
    let low : (b + 256 * little s) % 256 ≡ b = omega arith in
    let high : (b + 256 * little s) / 256 ≡ little s = omega arith in
    rw (low, high, bytes_of_little s (tail_bytes h))

pub bytes_of_big : (s : List ℕ) → AllBytes s → big_bytes (length s) (big s) ≡ s
unfolding big big_bytes
bytes_of_big s h =
    rw (← length-reverse s, bytes_of_little (reverse s) (reverse_bytes s h), reverse-reverse)

-- the bytes of a number are those of its remainder
pub big_bytes_mod : (w n : ℕ) → big_bytes w (n % 256 ^ w) ≡ big_bytes w n
big_bytes_mod w n = rw (length_big_bytes, big_of_bytes) at (bytes_of_big (big_bytes w n) (big_bytes_bytes w n))

-- ---- one byte more

pub little_append : (s t : List ℕ) → little (s ++ t) ≡ little s + 256 ^ length s * little t
unfolding little
little_append [] t = omega arith
little_append (b ∷ s) t = rw (little_append s t, pow-suc) (omega arith)

pub big_snoc : (s : List ℕ) (b : ℕ) → big (s ++ (b ∷ [])) ≡ big s * 256 + b
unfolding big little
big_snoc s b = rw reverse-append (omega arith)

pub big_bytes_snoc : (w n : ℕ) → big_bytes (suc w) n ≡ big_bytes w (n / 256) ++ (n % 256 ∷ [])
unfolding big_bytes little_bytes
big_bytes_snoc w n = reverse-cons (n % 256) (little_bytes w (n / 256))
