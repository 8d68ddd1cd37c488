-- Bytes in words: eight in each, the first one highest.
use Rattle.std.specs.Prelude.{ℕ, ◌*◌, List, [], ◌∷◌, ◌++◌, ◌≡◌, refl, length}
use Rattle.std.proofs.Common.{arith, length-append}
use Rattle.endian.specs.Numbers.{big_bytes, length_big_bytes}

unfoldable pub unpacked : List ℕ → List ℕ
unpacked [] = []
unpacked (n ∷ ns) = big_bytes 8 n ++ unpacked ns

pub length_unpacked : (ns : List ℕ) → length (unpacked ns) ≡ 8 * length ns
unfolding unpacked
length_unpacked [] = refl
length_unpacked (n ∷ ns) = rw length-append (omega (arith, length_big_bytes 8 n, length_unpacked ns))
