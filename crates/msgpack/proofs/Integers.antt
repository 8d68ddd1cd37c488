-- Integers: how many bytes one has, and halves of the numbers that so many bytes hold.
use Prim.Native.Nat.{ℕ, ◌+◌, ◌*◌, ◌^◌, ◌≤◌, ◌<◌}
use mathlib.Core.Bool.{true, cond}
use mathlib.Core.List.{List, [], ◌∷◌}
use Rattle.std.specs.Prelude.{Option, None, Some}
use mathlib.Core.Path.{◌≡◌, refl}
use native.Mathlib.Omega.{arith}
use borrow.Author.Tests.{leb-true, eq-eqb}
use lib.Dec.{leb, eqb}
use lib.ListN.{length, get_or, take, drop, length-drop}
use lib.Seq.{length-take-le}
use Rattle.slices.specs.Bytes.{AllBytes, take_bytes, drop_bytes}
use Rattle.slices.specs.Tables.{agree}
use Rattle.endian.specs.Numbers.{big, big_lt}
use Rattle.endian.specs.Places.{number_at}
use Rattle.msgpack.specs.Formats.{integer_kind, kind_of, width_of, amount_of, formats, format_of}
use Rattle.msgpack.specs.Items.{head_by, head_of}
use Rattle.msgpack.specs.Readers.{half}
use Rattle.msgpack.specs.HeadLaws.{number_read}
use Rattle.msgpack.specs.ShortLaws.{nothing_read}

-- an integer's format counts no bytes but its own, 8 at most
integer_format : (b : ℕ) → b < 256 → kind_of (format_of b) ≡ integer_kind → width_of (format_of b) * 9 + amount_of (format_of b) ≤ 8
unfolding format_of formats
integer_format b h k =
    let all : cond (eqb (kind_of (format_of b)) integer_kind) (leb (width_of (format_of b) * 9 + amount_of (format_of b)) 8) true ≡ true
    = agree (λ k. cond (eqb (kind_of (format_of k)) integer_kind) (leb (width_of (format_of k) * 9 + amount_of (format_of k)) 8) true) (λ k. true) 256 refl b h in
    leb-true (width_of (format_of b) * 9 + amount_of (format_of b)) 8 (rw (eq-eqb _ _ k) at all)

pub integer_narrow : (s : List ℕ) → AllBytes s → (head_of s).kind ≡ integer_kind → (head_of s).count ≤ 8
unfolding head_of
integer_narrow [] bytes k = omega arith
integer_narrow (b ∷ t) bytes k = by (number_at big (b ∷ t) 1 (width_of (format_of b))) refl k
  where
    by : (r : Option ℕ) → number_at big (b ∷ t) 1 (width_of (format_of b)) ≡ r → (head_by (format_of b) r).kind ≡ integer_kind → (head_by (format_of b) r).count ≤ 8
    by (Some n) e q =
        let f = integer_format b (bytes.below 0) q in
        let w : width_of (format_of b) ≡ 0 = omega arith in
        omega (arith, nothing_read (b ∷ t) (width_of (format_of b)) n w (number_read big (b ∷ t) 1 (width_of (format_of b)) n e))
    by None e q = omega arith

-- the number of the w bytes at a place is one of those that w bytes hold
pub part_lt : (s : List ℕ) (at w : ℕ) → AllBytes s → at + w ≤ length s → big (take w (drop at s)) < 256 ^ w
part_lt s at w bytes h =
    let l : length (take w (drop at s)) ≡ w = length-take-le w (drop at s) (rw length-drop (omega arith)) in
    rw l at (big_lt (take w (drop at s)) (take_bytes w (drop at s) (drop_bytes at bytes)))

abbrev pub halves : List ℕ
halves = 0 ∷ 0x80 ∷ 0x8000 ∷ 0x80_0000 ∷ 0x8000_0000 ∷ 0x80_0000_0000 ∷ 0x8000_0000_0000 ∷ 0x80_0000_0000_0000 ∷ 0x8000_0000_0000_0000 ∷ []

pub halves_are : (w : ℕ) → w ≤ 8 → get_or halves w 0 ≡ half w
halves_are w h = agree (λ k. get_or halves k 0) half 9 refl w (omega arith)

-- a number of w bytes is at most twice the half
pub two_halves : (w n : ℕ) → n < 256 ^ w → n ≤ half w + half w
two_halves w n h = omega arith
