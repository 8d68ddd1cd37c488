-- The words of the records told so far, of which the first so many are written.
use Prim.Native.Nat.{ℕ, ◌+◌, ◌*◌, ◌≤◌, ◌<◌, min}
use mathlib.Core.Bool.{Bool, true, false, cond}
use mathlib.Core.List.{List, [], ◌∷◌, ◌++◌}
use mathlib.Core.Path.{◌≡◌, refl, sym, ap, ◌∙◌}
use native.Mathlib.Omega.{arith}
use borrow.Author.Tests.{ltb-true, ltb-false, le-leb, lt-leb}
use lib.Dec.{ltb}
use lib.ListN.{length, take, drop, length-drop, length-take}
use lib.Seq.{take-add, take_all, take-length, length-take-le}
use Rattle.slices.specs.Overwriting.{overwritten, overwritten_more, none_overwritten, length_overwritten}
use Rattle.pack.specs.declared.Entry.{Entry}
use Rattle.pack.specs.Reading.{Reading}
use Rattle.pipe.specs.Feeding.{words_in, words_of, told, short, fed, words_after}

pub length_words : (es : List Entry) → length (words_of es) ≡ 4 * length es
unfolding words_of
length_words [] = refl
length_words (e ∷ es) = let n = length_words es in omega arith

words_append : (es fs : List Entry) → words_of (es ++ fs) ≡ words_of es ++ words_of fs
unfolding words_of
words_append [] fs = refl
words_append (e ∷ es) fs = ap (λ l. words_in e ++ l) (words_append es fs)

-- so many of the records are written
unfoldable pub written : List ℕ → List Entry → ℕ → ℕ → List ℕ
written words es room count = overwritten words 0 (words_of (take (min room count) es))

pub written_none : (words : List ℕ) (es : List Entry) (room : ℕ) → words ≡ written words es room 0
unfolding written words_of
written_none words es room =
    let none_yet : min room 0 ≡ 0 = omega arith in
    sym (rw none_yet (none_overwritten words 0))

module _ (words : List ℕ) (es : List Entry) (room : ℕ) (fits : 4 * room ≤ length words) where
  front_fits : (n : ℕ) → n ≤ room → 4 * length (take n es) ≤ 4 * room
  front_fits n l = omega (arith, length-take n es)

  pub length_written : (count : ℕ) → length (written words es room count) ≡ length words
  unfolding written
  length_written count =
      length_overwritten words 0 (words_of (take (min room count) es))
      (omega (arith, length_words (take (min room count) es), front_fits (min room count) (omega arith)))

  keeps : (count : ℕ) → room ≤ count → written words es room count ≡ written words es room (count + 1)
  unfolding written
  keeps count l =
      let same : min room count ≡ min room (count + 1) = omega arith in
      ap (λ (n : ℕ). overwritten words 0 (words_of (take n es))) same

  adds : (count : ℕ) (x : Entry) → count < room → count < length es → take (count + 1) es ≡ take count es ++ (x ∷ [])
      → overwritten (written words es room count) (4 * count) (words_in x) ≡ written words es room (count + 1)
  unfolding written words_of
  adds count x l inside one =
      let before : min room count ≡ count = omega arith in
      let after : min room (count + 1) ≡ count + 1 = omega arith in
      let n : length (words_of (take count es)) ≡ 4 * count = length_words (take count es) ∙ ap (λ (k : ℕ). 4 * k) (length-take-le count es (omega arith)) in
      let place : 4 * count ≡ 0 + length (words_of (take count es)) = omega arith in
      ap (λ (k : ℕ). overwritten (overwritten words 0 (words_of (take k es))) (4 * count) (words_in x)) before
      ∙ ap (λ (k : ℕ). overwritten (overwritten words 0 (words_of (take count es))) k (words_in x)) place
      ∙ overwritten_more words 0 (words_of (take count es)) (words_in x) (omega arith)
      ∙ ap (overwritten words 0) (sym (words_append (take count es) (x ∷ [])))
      ∙ ap (λ (l : List Entry). overwritten words 0 (words_of l)) (sym one)
      ∙ ap (λ (k : ℕ). overwritten words 0 (words_of (take k es))) (sym after)

  pub written_more : (count : ℕ) (x : Entry) (rest : List Entry) → drop count es ≡ x ∷ rest
      → cond (ltb count room) (overwritten (written words es room count) (4 * count) (words_in x)) (written words es room count) ≡ written words es room (count + 1)
  written_more count x rest e = go (ltb count room) refl
    where
      fresh_one : take (count + 1) es ≡ take count es ++ (x ∷ [])
      fresh_one = take-add count 1 es ∙ ap (λ l. take count es ++ take 1 l) e

      inside : count < length es
      inside = omega (arith, sym (length-drop count es) ∙ ap length e)

      go : (t : Bool) → ltb count room ≡ t
          → cond t (overwritten (written words es room count) (4 * count) (words_in x)) (written words es room count) ≡ written words es room (count + 1)
      go true l = adds count x (ltb-true count room l) inside fresh_one
      go false l = keeps count (ltb-false count room l)

  -- all were told
  pub written_all : (count : ℕ) → count ≡ length es → written words es room count ≡ overwritten words 0 (words_of (take room es))
  unfolding written
  written_all count e = ap (λ (l : List Entry). overwritten words 0 (words_of l)) (go (ltb count room) refl)
    where
      go : (t : Bool) → ltb count room ≡ t → take (min room count) es ≡ take room es
      go true l =
          let m = ltb-true count room l in
          take_all (min room count) es (omega arith) ∙ sym (take_all room es (omega arith))
      go false l =
          let m = ltb-false count room l in
          let same : min room count ≡ room = omega arith in
          ap (λ (n : ℕ). take n es) same

-- ---- what the whole call says and leaves

module _ (r : Reading) (words : List ℕ) where
  pub too_short : length words < 4 * length r.entries → (short ≡ fed r (length words)) × (words ≡ words_after r words)
  unfolding fed words_after
  too_short l = rw (lt-leb (4 * length r.entries) (length words) l) (refl, refl)

  module _ (l : 4 * length r.entries ≤ length words) where
    pub all_fed : told (length r.entries) r.ending ≡ fed r (length words)
    unfolding fed
    all_fed = rw (le-leb (4 * length r.entries) (length words) l)

    pub all_written : overwritten words 0 (words_of (take (length r.entries) r.entries)) ≡ words_after r words
    unfolding words_after overwritten
    all_written =
        let n : 0 + 4 * length r.entries ≡ 4 * length r.entries = omega arith in
        rw (le-leb (4 * length r.entries) (length words) l, take-length r.entries, length_words r.entries)
        (ap (λ (k : ℕ). words_of r.entries ++ drop k words) n)
