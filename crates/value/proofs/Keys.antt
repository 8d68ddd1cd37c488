-- The keys of a header and of the map in `s`: where one pass over the map tells their values, and whether they repeat.
use Prim.Native.Nat.{ℕ, ◌<◌}
use mathlib.Core.Bool.{Bool, true, false, ◌||◌}
use mathlib.Core.List.{List, [], ◌∷◌}
use mathlib.Core.Path.{◌≡◌, refl, sym, ap, ◌∙◌}
use native.Mathlib.Omega.{arith}
use lib.Dec.{ltb}
use lib.ListN.{get_or, take}
use Rattle.slices.specs.Logic.{or_false, or_assoc}
use Rattle.endian.specs.Numbers.{little, big}
use Rattle.msgpack.specs.Items.{whole, pass_over, WholeItem}
use Rattle.msgpack.specs.Lookup.{broken, last_value}
use Rattle.msgpack.specs.Pairs.{code_of, position, keys_asked, is_repeated, place_told, PairsRead}
use Rattle.msgpack.specs.PairLaws.{letter_asked, place_is, no_map}
use Rattle.msgpack.specs.FrontLaws.{value_front, times_front}
use Rattle.msgpack.specs.Views.{repeats, byte_view}
use Rattle.msgpack.specs.declared.Pairs.{Pairs}
use Rattle.value.specs.Header.{primary_key, secondary_key, length_key, compression_key, encryption_key, version_key, HeaderAt}
use Rattle.value.specs.Header as keys

-- ---- a header: the first item of s

abbrev header_keys : List ℕ
header_keys = 0x165 ∷ 0x173 ∷ 0x163 ∷ 0x17a ∷ 0x176 ∷ 0 ∷ 0 ∷ 0 ∷ []

module _ (s : List ℕ) (r : Pairs) (read : PairsRead s header_keys r) (n : ℕ) (w : pass_over s ≡ whole n) where
  letter_place : (b : ℕ) → b < 256 → position header_keys (code_of (b ∷ [])) < keys_asked → r.map ≡ true
      → last_value (b ∷ []) (take n s) ≡ place_told (get_or r.places (position header_keys (code_of (b ∷ []))) 0)
  letter_place b byte h m = value_front (b ∷ []) s n w ∙ place_is s header_keys r read n w (b ∷ []) (letter_asked header_keys b byte h) m

  letter_repeats : (b : ℕ) → b < 256 → position header_keys (code_of (b ∷ [])) < keys_asked
      → is_repeated (b ∷ []) (take n s) ≡ get_or r.repeated (position header_keys (code_of (b ∷ []))) false
  letter_repeats b byte h = ap (ltb 1) (times_front (b ∷ []) s n w) ∙ sym (read.repeated (b ∷ []) (letter_asked header_keys b byte h))

  abbrev told : ℕ → Bool
  told j = get_or r.repeated j false

  abbrev any_repeated : Bool
  any_repeated = (((told 0 || told 1) || told 2) || told 3) || told 4

  header_repeats_lem : repeats byte_view keys.header_keys (take n s) ≡ any_repeated
  unfolding repeats position code_of big little
  header_repeats_lem =
      rw (
        letter_repeats 0x65 (omega arith) (omega arith),
        letter_repeats 0x73 (omega arith) (omega arith),
        letter_repeats 0x63 (omega arith) (omega arith),
        letter_repeats 0x7a (omega arith) (omega arith),
        letter_repeats 0x76 (omega arith) (omega arith),
      ) (simp (or_assoc, or_false) refl)

  pub header_places : r.map ≡ true
      → HeaderAt (take n s)
      (record {
        e = get_or r.places 0 0;
        s = get_or r.places 1 0;
        c = get_or r.places 2 0;
        z = get_or r.places 3 0;
        v = get_or r.places 4 0;
        repeated = any_repeated;
      })
  unfolding position code_of big little
  header_places m = record {
    primary = letter_place 0x65 (omega arith) (omega arith) m;
    secondary = letter_place 0x73 (omega arith) (omega arith) m;
    compression = letter_place 0x63 (omega arith) (omega arith) m;
    encryption = letter_place 0x7a (omega arith) (omega arith) m;
    version = letter_place 0x76 (omega arith) (omega arith) m;
    repeated = header_repeats_lem;
  }

  pub no_header : r.map ≡ false → last_value primary_key (take n s) ≡ broken
  unfolding position code_of big little
  no_header m = value_front primary_key s n w ∙ no_map s header_keys r read n w primary_key (letter_asked header_keys 0x65 (omega arith) (omega arith)) m

-- ---- the map in `s`

abbrev secondary_keys : List ℕ
secondary_keys = 0x16c ∷ 0x163 ∷ 0x17a ∷ 0 ∷ 0 ∷ 0 ∷ 0 ∷ 0 ∷ []

pub record SecondaryAt (m places : List ℕ) (repeated : List Bool) : Type 0 where
  pub size : last_value length_key m ≡ place_told (get_or places 0 0)
  pub compression : last_value compression_key m ≡ place_told (get_or places 1 0)
  pub encryption : last_value encryption_key m ≡ place_told (get_or places 2 0)
  pub repeats : repeats byte_view keys.secondary_keys m ≡ ((get_or repeated 0 false || get_or repeated 1 false) || get_or repeated 2 false)

module _ (s : List ℕ) (r : Pairs) (read : PairsRead s secondary_keys r) where
  flag : (b : ℕ) → b < 256 → position secondary_keys (code_of (b ∷ [])) < keys_asked
      → is_repeated (b ∷ []) s ≡ get_or r.repeated (position secondary_keys (code_of (b ∷ []))) false
  flag b byte h = sym (read.repeated (b ∷ []) (letter_asked secondary_keys b byte h))

  secondary_repeats : repeats byte_view keys.secondary_keys s
      ≡ ((get_or r.repeated 0 false || get_or r.repeated 1 false) || get_or r.repeated 2 false)
  unfolding repeats position code_of big little
  secondary_repeats =
      rw (flag 0x6c (omega arith) (omega arith), flag 0x63 (omega arith) (omega arith), flag 0x7a (omega arith) (omega arith)) (simp (or_assoc, or_false) refl)

module _ (s : List ℕ) (r : Pairs) (read : PairsRead s secondary_keys r) (w : WholeItem s) where
  pub secondary_places : r.map ≡ true → SecondaryAt s r.places r.repeated
  unfolding position code_of big little
  secondary_places m = record {
    size = place_is s secondary_keys r read w.size w.is length_key (letter_asked secondary_keys 0x6c (omega arith) (omega arith)) m;
    compression = place_is s secondary_keys r read w.size w.is compression_key (letter_asked secondary_keys 0x63 (omega arith) (omega arith)) m;
    encryption = place_is s secondary_keys r read w.size w.is encryption_key (letter_asked secondary_keys 0x7a (omega arith) (omega arith)) m;
    repeats = secondary_repeats s r read;
  }

  pub no_secondary : r.map ≡ false → last_value length_key s ≡ broken
  unfolding position code_of big little
  no_secondary m = no_map s secondary_keys r read w.size w.is length_key (letter_asked secondary_keys 0x6c (omega arith) (omega arith)) m
