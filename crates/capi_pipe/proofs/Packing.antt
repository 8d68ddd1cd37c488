-- Four words and the 32 bytes that they hold, written and read.
use Prim.Native.Nat.{ℕ, ◌+◌, ◌≤◌}
use mathlib.Core.List.{List, [], ◌∷◌, ◌++◌, append_assoc, append-nil}
use mathlib.Core.Path.{◌≡◌, refl, sym, ap, ◌∙◌}
use native.Mathlib.Nat.{zero-add}
use native.Mathlib.Omega.{arith}
use lib.ListN.{length, take, drop, length-append, take-append-drop, drop_of_length-le}
use lib.Seq.{drop-drop}
use Rattle.slices.specs.Bytes.{AllBytes, take_bytes, drop_bytes}
use Rattle.slices.specs.Lists.{part_length}
use Rattle.slices.specs.Overwriting.{overwritten, none_overwritten, overwritten_more, length_overwritten}
use Rattle.endian.specs.Numbers.{big, big_bytes, length_big_bytes, bytes_of_big}
use Rattle.endian.specs.Places.{written_at, number_written}
use Rattle.capi_pipe.specs.Bytes.{unpacked}

-- more after what was written to the front
pub written_more : (x z t u : List ℕ) (at : ℕ) → x ≡ overwritten z 0 t → length t ≡ at → at + length u ≤ length z
    → (length x ≡ length z) × (overwritten x at u ≡ overwritten z 0 (t ++ u))
written_more x z t u at e l fits =
    rw (e, ← l) (length_overwritten z 0 t (omega arith), rw zero-add at (overwritten_more z 0 t u (omega arith)))

-- ---- words become bytes

next_number : (x z t : List ℕ) (at n : ℕ) → x ≡ overwritten z 0 t → length t ≡ at → at + 8 ≤ length z
    → written_at x at 8 n ≡ overwritten z 0 (t ++ big_bytes 8 n)
next_number x z t at n e l fits =
    let w : length (big_bytes 8 n) ≡ 8 = length_big_bytes 8 n in
    let more = written_more x z t (big_bytes 8 n) at e l (omega arith) in
    number_written x at 8 n (record { narrow = omega arith; inside = omega (arith, more.0) }) ∙ more.1

overwritten_whole : (z t : List ℕ) → length t ≡ length z → overwritten z 0 t ≡ t
unfolding overwritten
overwritten_whole z t l =
    let none : drop (0 + length t) z ≡ [] = drop_of_length-le z {i = 0 + length t} (omega arith) in
    ap (λ (r : List ℕ). t ++ r) none ∙ append-nil t

pub bytes_written : (z : List ℕ) (a b c d : ℕ) → length z ≡ 32
    → written_at (written_at (written_at (written_at z 0 8 a) 8 8 b) 16 8 c) 24 8 d ≡ unpacked (a ∷ b ∷ c ∷ d ∷ [])
unfolding unpacked
bytes_written z a b c d long =
    let la : length (big_bytes 8 a) ≡ 8 = length_big_bytes 8 a in
    let lb : length (big_bytes 8 a ++ big_bytes 8 b) ≡ 16 = rw length-append (omega (arith, length_big_bytes 8 b)) in
    let lc : length (big_bytes 8 a ++ big_bytes 8 b ++ big_bytes 8 c) ≡ 24 = rw length-append (omega (arith, length_big_bytes 8 c)) in
    let first = next_number z z [] 0 a (sym (none_overwritten z 0)) refl (omega arith) in
    let second = next_number _ z (big_bytes 8 a) 8 b first la (omega arith) in
    let third = next_number _ z (big_bytes 8 a ++ big_bytes 8 b) 16 c second lb (omega arith) in
    let fourth = next_number _ z (big_bytes 8 a ++ big_bytes 8 b ++ big_bytes 8 c) 24 d third lc (omega arith) in
    fourth
    ∙ overwritten_whole z _ (rw length-append (omega (arith, length_big_bytes 8 d)))
    ∙ simp (append_assoc, append-nil)

-- ---- bytes become words

module _ (s : List ℕ) (bytes : AllBytes s) (long : length s ≡ 32) where
  part_back : (at : ℕ) → at + 8 ≤ 32 → big_bytes 8 (big (take 8 (drop at s))) ≡ take 8 (drop at s)
  part_back at fits =
      let w : length (take 8 (drop at s)) ≡ 8 = part_length s at 8 (omega arith) in
      rw w at (bytes_of_big (take 8 (drop at s)) (take_bytes 8 (drop at s) (drop_bytes at bytes)))

  part_then_rest : (at : ℕ) → take 8 (drop at s) ++ drop (at + 8) s ≡ drop at s
  part_then_rest at = ap (λ (t : List ℕ). take 8 (drop at s) ++ t) (sym (drop-drop 8 at s)) ∙ take-append-drop 8 (drop at s)

  pub packed_back : unpacked (big (take 8 (drop 0 s)) ∷ big (take 8 (drop 8 s)) ∷ big (take 8 (drop 16 s)) ∷ big (take 8 (drop 24 s)) ∷ []) ≡ s
  unfolding unpacked
  packed_back =
      let none : drop 32 s ≡ [] = drop_of_length-le s {i = 32} (omega arith) in
      rw (
        part_back 0 (omega arith),
        part_back 8 (omega arith),
        part_back 16 (omega arith),
        part_back 24 (omega arith),
        ← none,
        part_then_rest 24,
        part_then_rest 16,
        part_then_rest 8,
        part_then_rest 0,
      )
