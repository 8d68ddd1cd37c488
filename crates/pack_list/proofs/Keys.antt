-- The keys of a list, of an entry and of a range: where one pass over a whole item tells their values, and whether they repeat.
use Prim.Native.Nat.{ℕ}
use mathlib.Core.Bool.{Bool, true, false, ◌||◌}
use mathlib.Core.List.{List, [], ◌∷◌}
use mathlib.Core.Path.{◌≡◌, refl}
use native.Mathlib.Omega.{arith}
use lib.ListN.{get_or}
use Rattle.slices.specs.Logic.{or_false, or_assoc}
use Rattle.endian.specs.Numbers.{little, big}
use Rattle.msgpack.specs.Items.{pass_over, WholeItem}
use Rattle.msgpack.specs.Lookup.{broken, last_value}
use Rattle.msgpack.specs.Pairs.{code_of, position, place_told, PairsRead}
use Rattle.msgpack.specs.PairLaws.{letter_place, letter_repeats, no_letter}
use Rattle.msgpack.specs.Views.{size_of, repeats, byte_view}
use Rattle.msgpack.specs.declared.Pairs.{Pairs}
use Rattle.primary.specs.Answers.{beside_block}
use Rattle.pack_list.specs.Lists.{entries_key, pack_key, start_key, length_key, list_keys, entry_keys, range_keys}
use Rattle.pack_list.specs.Answers.{EntryAt}

-- ---- a range

abbrev pub range_codes : List ℕ
range_codes = 0x173 ∷ 0x16c ∷ 0 ∷ 0 ∷ 0 ∷ 0 ∷ 0 ∷ 0 ∷ []

pub record RangeAt (m places : List ℕ) (repeated : List Bool) : Type 0 where
  pub start : last_value start_key m ≡ place_told (get_or places 0 0)
  pub size : last_value length_key m ≡ place_told (get_or places 1 0)
  pub repeats : repeats byte_view range_keys m ≡ (get_or repeated 0 false || get_or repeated 1 false)

module _ (s : List ℕ) (r : Pairs) (read : PairsRead s range_codes r) (w : WholeItem s) where
  range_repeats_lem : repeats byte_view range_keys s ≡ (get_or r.repeated 0 false || get_or r.repeated 1 false)
  unfolding repeats position code_of big little
  range_repeats_lem =
      rw (
        letter_repeats s range_codes r read w.size w.is 0x73 0 (omega arith) (omega arith) refl,
        letter_repeats s range_codes r read w.size w.is 0x6c 1 (omega arith) (omega arith) refl,
      )
      (simp or_false refl)

  pub range_places : r.map ≡ true → RangeAt s r.places r.repeated
  unfolding position code_of big little
  range_places m = record {
    start = letter_place s range_codes r read w.size w.is 0x73 0 (omega arith) (omega arith) refl m;
    size = letter_place s range_codes r read w.size w.is 0x6c 1 (omega arith) (omega arith) refl m;
    repeats = range_repeats_lem;
  }

  pub no_range_map : r.map ≡ false → last_value start_key s ≡ broken
  unfolding position code_of big little
  no_range_map = no_letter s range_codes r read w.size w.is 0x73 0 (omega arith) (omega arith) refl

-- ---- an entry

abbrev pub entry_codes : List ℕ
entry_codes = 0x170 ∷ 0x16f ∷ 0x174 ∷ 0x145 ∷ 0x14e ∷ 0 ∷ 0 ∷ 0 ∷ []

module _ (s : List ℕ) (r : Pairs) (read : PairsRead s entry_codes r) (w : WholeItem s) where
  abbrev told : ℕ → Bool
  told j = get_or r.repeated j false

  abbrev any_repeated : Bool
  any_repeated = (((told 0 || told 1) || told 2) || told 3) || told 4

  entry_repeats_lem : repeats byte_view entry_keys s ≡ any_repeated
  unfolding repeats position code_of big little
  entry_repeats_lem =
      rw (
        letter_repeats s entry_codes r read w.size w.is 0x70 0 (omega arith) (omega arith) refl,
        letter_repeats s entry_codes r read w.size w.is 0x6f 1 (omega arith) (omega arith) refl,
        letter_repeats s entry_codes r read w.size w.is 0x74 2 (omega arith) (omega arith) refl,
        letter_repeats s entry_codes r read w.size w.is 0x45 3 (omega arith) (omega arith) refl,
        letter_repeats s entry_codes r read w.size w.is 0x4e 4 (omega arith) (omega arith) refl,
      )
      (simp (or_assoc, or_false) refl)

  pub entry_places : (size : ℕ) → size_of (pass_over s) ≡ size → r.map ≡ true
      → EntryAt s
      (record {
        size = size;
        pack = get_or r.places 0 0;
        source = get_or r.places 1 0;
        stored = get_or r.places 2 0;
        lengths = get_or r.places 3 0;
        deltas = get_or r.places 4 0;
        repeated = any_repeated;
      })
  unfolding position code_of big little
  entry_places size sized m = record {
    size = sized;
    pack = letter_place s entry_codes r read w.size w.is 0x70 0 (omega arith) (omega arith) refl m;
    source = letter_place s entry_codes r read w.size w.is 0x6f 1 (omega arith) (omega arith) refl m;
    stored = letter_place s entry_codes r read w.size w.is 0x74 2 (omega arith) (omega arith) refl m;
    lengths = letter_place s entry_codes r read w.size w.is 0x45 3 (omega arith) (omega arith) refl m;
    deltas = letter_place s entry_codes r read w.size w.is 0x4e 4 (omega arith) (omega arith) refl m;
    repeated = entry_repeats_lem;
  }

  pub no_entry_map : r.map ≡ false → last_value pack_key s ≡ broken
  unfolding position code_of big little
  no_entry_map = no_letter s entry_codes r read w.size w.is 0x70 0 (omega arith) (omega arith) refl

-- ---- a list

abbrev pub list_codes : List ℕ
list_codes = beside_block 0x150

module _ (s : List ℕ) (r : Pairs) (read : PairsRead s list_codes r) (w : WholeItem s) where
  pub entries_place : r.map ≡ true → last_value entries_key s ≡ place_told (get_or r.places 1 0)
  unfolding position code_of big little
  entries_place = letter_place s list_codes r read w.size w.is 0x50 1 (omega arith) (omega arith) refl

  pub list_repeats_lem : repeats byte_view list_keys s ≡ get_or r.repeated 1 false
  unfolding repeats position code_of big little
  list_repeats_lem = rw (letter_repeats s list_codes r read w.size w.is 0x50 1 (omega arith) (omega arith) refl, or_false)

  pub no_list_map : r.map ≡ false → last_value entries_key s ≡ broken
  unfolding position code_of big little
  no_list_map = no_letter s list_codes r read w.size w.is 0x50 1 (omega arith) (omega arith) refl
