-- What one pass over a whole item tells its callers: of each key asked for the place of its last value, by what `last_value` finds.
use Rattle.std.specs.Prelude.{ℕ, zero, suc, ◌≤◌, ◌<◌, true, false, List, [], ◌∷◌, ◌≡◌, refl, length, get_or}
use Rattle.std.proofs.Common.{sym, ap, ◌∙◌, arith}
use Rattle.slices.specs.Bytes.{none_bytes, cons_bytes}
use Rattle.msgpack.specs.Items.{whole, pass_over}
use Rattle.msgpack.specs.Lookup.{found, broken, last_value}
use Rattle.msgpack.specs.Pairs.{code_of, position, keys_asked, Asked, is_repeated, place_told, PairsRead}
use Rattle.msgpack.specs.LookupLaws.{value_inside}
use Rattle.msgpack.specs.declared.Pairs.{Pairs}

-- a key of one byte
pub letter_asked : (keys : List ℕ) (b : ℕ) → b < 256 → position keys (code_of (b ∷ [])) < keys_asked → Asked keys (b ∷ [])
letter_asked keys b byte h = record { bytes = cons_bytes byte none_bytes; short = omega arith; listed = h }

module _ (s keys : List ℕ) (r : Pairs) (read : PairsRead s keys r) (n : ℕ) (w : pass_over s ≡ whole n) (key : List ℕ) (a : Asked keys key) where
  pub place_is : r.map ≡ true → last_value key s ≡ place_told (get_or r.places (position keys (code_of key)) 0)
  place_is m = sym (rw (m, w) at (read.place key a))

  pub no_map : r.map ≡ false → last_value key s ≡ broken
  no_map m = sym (rw (m, w) at (read.place key a))

-- of a key of one byte, which is the j-th asked for
module _ (s keys : List ℕ) (r : Pairs) (read : PairsRead s keys r) (n : ℕ) (w : pass_over s ≡ whole n) where
  pub letter_place : (b j : ℕ) → b < 256 → j < keys_asked → position keys (code_of (b ∷ [])) ≡ j → r.map ≡ true
      → last_value (b ∷ []) s ≡ place_told (get_or r.places j 0)
  letter_place b j byte l e m =
      place_is s keys r read n w (b ∷ []) (letter_asked keys b byte (omega arith)) m ∙ ap (λ (k : ℕ). place_told (get_or r.places k 0)) e

  pub letter_repeats : (b j : ℕ) → b < 256 → j < keys_asked → position keys (code_of (b ∷ [])) ≡ j → is_repeated (b ∷ []) s ≡ get_or r.repeated j false
  letter_repeats b j byte l e =
      sym (read.repeated (b ∷ []) (letter_asked keys b byte (omega arith))) ∙ ap (λ (k : ℕ). get_or r.repeated k false) e

  pub no_letter : (b j : ℕ) → b < 256 → j < keys_asked → position keys (code_of (b ∷ [])) ≡ j → r.map ≡ false → last_value (b ∷ []) s ≡ broken
  no_letter b j byte l e m = no_map s keys r read n w (b ∷ []) (letter_asked keys b byte (omega arith)) m

-- a place that is told lies inside
pub told_inside : (key s : List ℕ) (p : ℕ) → last_value key s ≡ place_told p → p ≤ length s
told_inside key s zero e = omega arith
told_inside key s (suc p) e = omega (arith, value_inside key s (suc p) e)

pub told_found : (p : ℕ) → (p ≡ 0 → ⊥) → place_told p ≡ found p
told_found zero h = absurd (h refl)
told_found (suc p) h = refl
