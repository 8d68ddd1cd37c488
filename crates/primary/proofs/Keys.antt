-- The keys of primary parts: where one pass over a whole item tells their values, and whether they repeat.
use Prim.Native.Nat.{ℕ, ◌<◌}
use mathlib.Core.Bool.{Bool, true, false, ◌||◌}
use mathlib.Core.List.{List, [], ◌∷◌}
use mathlib.Core.Path.{◌≡◌, refl, sym}
use native.Mathlib.Omega.{arith}
use lib.ListN.{length, get_or}
use Rattle.slices.specs.Logic.{or_false, or_assoc}
use Rattle.slices.specs.Bytes.{none_bytes, cons_bytes}
use Rattle.endian.specs.Numbers.{little, big}
use Rattle.std.specs.Prelude.{Result, Ok, Err}
use Rattle.slices.specs.Logic.{absurd_numbers}
use Rattle.refusals.specs.Answers.{Answer, refused}
use Rattle.msgpack.specs.Items.{whole, passage_of, pass_over}
use Rattle.msgpack.specs.Lookup.{broken, last_value}
use Rattle.msgpack.specs.Pairs.{code_of, position, Asked, is_repeated, place_told, PairsRead}
use Rattle.msgpack.specs.PairLaws.{place_is, letter_place, letter_repeats, no_letter}
use Rattle.msgpack.specs.Views.{repeats, byte_view}
use Rattle.msgpack.specs.declared.Pairs.{Pairs}
use Rattle.primary.specs.Parts.{is_of_length, fills, ulid_key, bucket_key, object_key, identifier_key, deleted_key, delete_id_key}
use Rattle.primary.specs.Parts as keys
use Rattle.primary.specs.Answers.{number_of, places_by, IdentifierAt}
use Rattle.primary.specs.Filling.{fills_is, fills_whole}
use Rattle.primary.specs.declared.Fault.{Fault}
use Rattle.primary.specs.declared.Fault.TheVariants.{NotWhole, NotAsDescribed}

module _ (s keys : List ℕ) (r : Pairs) (read : PairsRead s keys r) (n : ℕ) (w : pass_over s ≡ whole n) where
  identifier_places : position keys (code_of ulid_key) ≡ 0 → position keys (code_of bucket_key) ≡ 1 → position keys (code_of object_key) ≡ 2
      → r.map ≡ true → IdentifierAt s r.places
  identifier_places v b o m = record {
    ulid = letter_place s keys r read n w 118 0 (omega arith) (omega arith) v m;
    bucket = letter_place s keys r read n w 98 1 (omega arith) (omega arith) b m;
    object = letter_place s keys r read n w 111 2 (omega arith) (omega arith) o m;
  }

-- ---- a part that is one whole map, by the places told, or that is not

pub record WholeMap (s : List ℕ) (r : Pairs) (places : List ℕ) : Type 0 where
  pub filled : fills s ≡ true
  pub whole_part : pass_over s ≡ whole (length s)
  pub is_map : r.map ≡ true
  pub told : places ≡ r.places

module _ (s keys : List ℕ) (r : Pairs) (read : PairsRead s keys r) where
  test : (t : Bool) → is_of_length (length s) (passage_of r.passed) ≡ t → fills s ≡ t
  test t e = fills_is s _ t read.passed (sym e)

  pub whole_map : (places : List ℕ) → ◌≡◌ {A = Result (List ℕ) Fault} (Ok places) (places_by (is_of_length (length s) (passage_of r.passed)) r.map r.places)
      → WholeMap s r places
  whole_map places e = by (is_of_length (length s) (passage_of r.passed)) r.map refl refl e
    where
      by : (t m : Bool) → is_of_length (length s) (passage_of r.passed) ≡ t → r.map ≡ m
          → ◌≡◌ {A = Result (List ℕ) Fault} (Ok places) (places_by t m r.places) → WholeMap s r places
      by true true f g h = record { filled = test true f; whole_part = fills_whole s (test true f); is_map = g; told = cc }
      by true false f g h = absurd_numbers (cc)
      by false m f g h = absurd_numbers (cc)

  pub no_whole_map : {A : Type 0} (f : Fault) (a : Answer A)
      → ◌≡◌ {A = Result (List ℕ) Fault} (Err f) (places_by (is_of_length (length s) (passage_of r.passed)) r.map r.places)
      → (fills s ≡ false → refused 16 ≡ a) → (fills s ≡ true → pass_over s ≡ whole (length s) → r.map ≡ false → refused 17 ≡ a)
      → refused (number_of f) ≡ a
  no_whole_map {A} f a e not_whole no_map = by (is_of_length (length s) (passage_of r.passed)) r.map refl refl e
    where
      by : (t m : Bool) → is_of_length (length s) (passage_of r.passed) ≡ t → r.map ≡ m
          → ◌≡◌ {A = Result (List ℕ) Fault} (Err f) (places_by t m r.places) → ◌≡◌ {A = Answer A} (refused (number_of f)) a
      by true true g h i = absurd_numbers (cc)
      by true false g h i = let is : f ≡ NotAsDescribed = cc in rw is (no_map (test true g) (fills_whole s (test true g)) h)
      by false m g h i = let is : f ≡ NotWhole = cc in rw is (not_whole (test false g))

-- ---- an identifier's map

abbrev pub identifier_keys : List ℕ
identifier_keys = 0x176 ∷ 0x162 ∷ 0x16f ∷ 0 ∷ 0 ∷ 0 ∷ 0 ∷ 0 ∷ []

module _ (s : List ℕ) (r : Pairs) (read : PairsRead s identifier_keys r) (n : ℕ) (w : pass_over s ≡ whole n) where
  pub map_identifier : r.map ≡ true → IdentifierAt s r.places
  unfolding position code_of big little
  map_identifier = identifier_places s identifier_keys r read n w refl refl refl

  pub no_identifier : r.map ≡ false → last_value ulid_key s ≡ broken
  unfolding position code_of big little
  no_identifier = no_letter s identifier_keys r read n w 118 0 (omega arith) (omega arith) refl

  -- and outside it one that repeats, or none
  pub map_repeats : (outside : Bool) → (outside || repeats byte_view keys.identity_keys s) ≡ (((outside || get_or r.repeated 0 false) || get_or r.repeated 1 false) || get_or r.repeated 2 false)
  unfolding repeats position code_of big little
  map_repeats outside =
      rw (
        letter_repeats s identifier_keys r read n w 118 0 (omega arith) (omega arith) refl,
        letter_repeats s identifier_keys r read n w 98 1 (omega arith) (omega arith) refl,
        letter_repeats s identifier_keys r read n w 111 2 (omega arith) (omega arith) refl,
      )
      (simp (or_assoc, or_false) refl)

-- ---- a block

module _ (s others : List ℕ) (r : Pairs) (read : PairsRead s (0x149 ∷ others) r) (n : ℕ) (w : pass_over s ≡ whole n) where
  pub block_place : r.map ≡ true → last_value identifier_key s ≡ place_told (get_or r.places 0 0)
  unfolding position code_of big little
  block_place = letter_place s (0x149 ∷ others) r read n w 73 0 (omega arith) (omega arith) refl

  pub block_repeats_lem : repeats byte_view keys.block_keys s ≡ get_or r.repeated 0 false
  unfolding repeats position code_of big little
  block_repeats_lem = rw (letter_repeats s (0x149 ∷ others) r read n w 73 0 (omega arith) (omega arith) refl, or_false)

  pub no_block_map : r.map ≡ false → last_value identifier_key s ≡ broken
  unfolding position code_of big little
  no_block_map = no_letter s (0x149 ∷ others) r read n w 73 0 (omega arith) (omega arith) refl

-- ---- a version, and a version delete: the fourth key asked for is its own, the others an identifier's

abbrev pub flags : List Bool → Bool
flags told = ((get_or told 3 false || get_or told 0 false) || get_or told 1 false) || get_or told 2 false

abbrev pub version_keys : List ℕ
version_keys = 0x176 ∷ 0x162 ∷ 0x16f ∷ 0x164 ∷ 0 ∷ 0 ∷ 0 ∷ 0 ∷ []

module _ (s : List ℕ) (r : Pairs) (read : PairsRead s version_keys r) (n : ℕ) (w : pass_over s ≡ whole n) where
  pub version_identifier : r.map ≡ true → IdentifierAt s r.places
  unfolding position code_of big little
  version_identifier = identifier_places s version_keys r read n w refl refl refl

  pub flag_place : r.map ≡ true → last_value deleted_key s ≡ place_told (get_or r.places 3 0)
  unfolding position code_of big little
  flag_place = letter_place s version_keys r read n w 100 3 (omega arith) (omega arith) refl

  pub version_repeats : repeats byte_view keys.version_keys s ≡ flags r.repeated
  unfolding repeats position code_of big little
  version_repeats =
      rw (
        letter_repeats s version_keys r read n w 100 3 (omega arith) (omega arith) refl,
        letter_repeats s version_keys r read n w 118 0 (omega arith) (omega arith) refl,
        letter_repeats s version_keys r read n w 98 1 (omega arith) (omega arith) refl,
        letter_repeats s version_keys r read n w 111 2 (omega arith) (omega arith) refl,
      )
      (simp (or_assoc, or_false) refl)

  pub no_version_map : r.map ≡ false → last_value ulid_key s ≡ broken
  unfolding position code_of big little
  no_version_map = no_letter s version_keys r read n w 118 0 (omega arith) (omega arith) refl

abbrev pub delete_keys : List ℕ
delete_keys = 0x176 ∷ 0x162 ∷ 0x16f ∷ 0x13f3f3f ∷ 0 ∷ 0 ∷ 0 ∷ 0 ∷ []

module _ (s : List ℕ) (r : Pairs) (read : PairsRead s delete_keys r) (n : ℕ) (w : pass_over s ≡ whole n) where
  pub delete_identifier : r.map ≡ true → IdentifierAt s r.places
  unfolding position code_of big little
  delete_identifier = identifier_places s delete_keys r read n w refl refl refl

  asked : Asked delete_keys delete_id_key
  unfolding position code_of big little
  asked =
      let mark : 63 < 256 = omega arith in
      record { bytes = cons_bytes mark (cons_bytes mark (cons_bytes mark none_bytes)); short = omega arith; listed = omega arith }

  pub delete_id_place : r.map ≡ true → last_value delete_id_key s ≡ place_told (get_or r.places 3 0)
  unfolding position code_of big little
  delete_id_place m = place_is s delete_keys r read n w delete_id_key asked m

  id_repeats : is_repeated delete_id_key s ≡ get_or r.repeated 3 false
  unfolding position code_of big little
  id_repeats = sym (read.repeated delete_id_key asked)

  pub delete_repeats : repeats byte_view keys.version_delete_keys s ≡ flags r.repeated
  unfolding repeats position code_of big little
  delete_repeats =
      rw (
        id_repeats,
        letter_repeats s delete_keys r read n w 118 0 (omega arith) (omega arith) refl,
        letter_repeats s delete_keys r read n w 98 1 (omega arith) (omega arith) refl,
        letter_repeats s delete_keys r read n w 111 2 (omega arith) (omega arith) refl,
      )
      (simp (or_assoc, or_false) refl)

  pub no_delete_map : r.map ≡ false → last_value ulid_key s ≡ broken
  unfolding position code_of big little
  no_delete_map = no_letter s delete_keys r read n w 118 0 (omega arith) (omega arith) refl
