-- What is found at a place of a part, read at the front of the rest of the part, and that it lies inside the part.
use Prim.Native.Nat.{ℕ, ◌+◌, ◌≤◌}
use mathlib.Core.List.{List}
use Rattle.std.specs.Prelude.{None, Some}
use mathlib.Core.Path.{◌≡◌, sym, subst}
use native.Mathlib.Omega.{arith}
use lib.ListN.{length, take, drop, length-drop}
use lib.Seq.{drop-drop}
use Rattle.slices.specs.Logic.{absurd_numbers}
use Rattle.slices.specs.Places.{Inside}
use Rattle.slices.specs.declared.Place.{Place}
use Rattle.msgpack.specs.Formats.{text_kind}
use Rattle.msgpack.specs.Readers.{part, read_text}
use Rattle.msgpack.specs.ReaderLaws.{part_inside, part_there}
use Rattle.msgpack.specs.Lookup.{last_value, at_place}
use Rattle.msgpack.specs.Pairs.{place_told}
use Rattle.msgpack.specs.PairLaws.{told_inside}
use Rattle.msgpack.specs.Views.{text_at, byte_view, read_front}
use Rattle.primary.specs.Parts.{text_under}
use Rattle.primary.specs.Answers.{AllInside, TextInside, TextsInside}
use Rattle.primary.specs.declared.Texts.{Texts}

-- ---- answers with a place inside, or with none

pub text_inside : (s : List ℕ) (t : Place) → Inside s t → TextInside s (Some t)
text_inside s t h = record { text = λ u e. let same : t ≡ u = cc in subst (λ v. Inside s v) same h }

pub no_text : (s : List ℕ) → TextInside s None
no_text s = record { text = λ u e. absurd_numbers (cc) }

pub texts_inside : (s : List ℕ) (t : Texts) → AllInside s t → TextsInside s (Some t)
texts_inside s t h = record { texts = λ u e. let same : t ≡ u = cc in subst (λ v. AllInside s v) same h }

pub no_texts : (s : List ℕ) → TextsInside s None
no_texts s = record { texts = λ u e. absurd_numbers (cc) }

-- ---- a text at a place

module _ (s : List ℕ) (at : ℕ) where
  module _ (start len : ℕ) (e : Some (part start len) ≡ read_text (drop at s)) where
    pub text_found : Some (take len (drop (at + start) s)) ≡ text_at (drop at s)
    unfolding text_at
    text_found = rw (sym e, drop-drop)

    pub text_ends : Inside s (record { start = at + start; len = len })
    text_ends = record {
      end =
          let h = part_inside text_kind (drop at s) (part start len) (sym e) in
          let there = part_there text_kind (drop at s) (part start len) (omega arith) (sym e) in
          omega (arith, h, there, length-drop at s);
    }

  pub text_missing : None ≡ read_text (drop at s) → None ≡ text_at (drop at s)
  unfolding text_at
  text_missing e = rw (sym e)

-- ---- the text under a key, by the place told of it

pub text_told : (key m : List ℕ) (p : ℕ) → last_value key m ≡ place_told p → at_place None (λ n. text_at (drop n m)) (place_told p) ≡ text_under byte_view key m
unfolding text_under
text_told key m p e = rw e (sym (read_front None text_at m (place_told p)))

-- inside the part
pub told_within : (s : List ℕ) (at : ℕ) → at ≤ length s → (key : List ℕ) (p : ℕ) → last_value key (drop at s) ≡ place_told p → at + p ≤ length s
told_within s at within key p e = omega (arith, told_inside key (drop at s) p e, length-drop at s)
