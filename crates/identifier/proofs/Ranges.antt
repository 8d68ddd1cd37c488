-- The ranges that the code tests are the alphabet: one computation over the 256 bytes.
use Prim.Native.Nat.{ℕ, ◌<◌}
use mathlib.Core.Bool.{Bool, ◌&&◌, ◌||◌}
use mathlib.Core.Path.{◌≡◌, refl}
use lib.Dec.{leb}
use Rattle.slices.specs.Tables.{agree}
use Rattle.identifier.specs.Texts.{member}
use Rattle.identifier.specs.Ulid.{alphabet, is_character}

abbrev between : ℕ → ℕ → ℕ → Bool
between first last x = leb first x && leb x last

-- 0 to 9, A to H, J and K, M and N, P to T, V to Z
abbrev pub in_ranges : ℕ → Bool
in_ranges x = between 48 57 x || between 65 72 x || between 74 75 x || between 77 78 x || between 80 84 x || between 86 90 x

pub ranges_are : (x : ℕ) → x < 256 → in_ranges x ≡ is_character x
unfolding is_character member alphabet
ranges_are x h = agree in_ranges is_character 256 refl x h
