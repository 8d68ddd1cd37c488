-- The answer of `vof_item`, and the lent words at exit, from what was read: the words are stored exactly where there is room.
use Prim.Native.Nat.{ℕ, ◌%◌, ◌^◌, ◌<◌}
use mathlib.Core.Bool.{Bool, true, false, cond}
use mathlib.Core.List.{List, [], ◌∷◌}
use mathlib.Core.Path.{◌≡◌, refl, sym, ap, ◌∙◌}
use native.Mathlib.Omega.{arith}
use lib.Dec.{leb}
use lib.ListN.{length}
use Rattle.slices.specs.Overwriting.{written_bytes}
use Rattle.refusals.specs.Answers.{refused}
use Rattle.std.specs.Prelude.{Result, Ok, Err}
use Rattle.msgpack.specs.Formats.{kind_index}
use Rattle.msgpack.specs.Items.{number_of}
use Rattle.msgpack_forms.specs.Items.{integer_by, item_at, item_read}
use Rattle.msgpack_forms.specs.declared.Item as read
use Rattle.msgpack.specs.declared.Fault.{Fault}
use Rattle.msgpack.specs.declared.Fault.TheVariants.{Cut, TooDeep}
use Rattle.words.specs.Words.{answer, answer_whole, flag}
use Rattle.capi_items.specs.Items.{kind_number, magnitude, is_negative, item_answer, item_told}

by_magnitude : (negative : Bool) (n : ℕ) → magnitude (integer_by negative n) ≡ n
by_magnitude true n = refl
by_magnitude false n = refl

by_sign : (negative : Bool) (n : ℕ) → is_negative (integer_by negative n) ≡ negative
by_sign true n = refl
by_sign false n = refl

-- 9 or 10
fault_small : (f : Fault) → number_of f < 256
fault_small Cut = omega arith
fault_small TooDeep = omega arith

-- `r` is what the code read
module _ (s words : List ℕ) (r : Result read.Item Fault) (reads : item_read r ≡ item_at s) where
  -- what is answered, and what is left
  abbrev Tells : ℕ → List ℕ → Type 0
  Tells x left = (x ≡ item_answer (item_at s) (length words)) × (left ≡ item_told (item_at s) words)

  pub item_refused : (f : Fault) → r ≡ Err f → Tells (answer (number_of f) 0 % 2 ^ 64) words
  item_refused f is =
      let e : item_at s ≡ refused (number_of f) = sym reads ∙ ap item_read is in
      rw (answer_whole (number_of f) 0 (fault_small f) (omega arith), e) (refl, refl)

  pub item_words_lem : (i : read.Item) → r ≡ Ok i → (kind negative short : ℕ) → kind ≡ kind_number (kind_index i.kind)
      → negative ≡ flag i.negative → short ≡ flag i.short
      → Tells (cond (leb 5 (length words)) (answer 0 0) (answer 19 0)) (written_bytes words 0 (kind ∷ i.size ∷ i.argument ∷ negative ∷ short ∷ []))
  unfolding written_bytes
  item_words_lem i is kind negative short k n t =
      rw (k, n, t, sym reads ∙ ap item_read is, by_magnitude i.negative i.argument, by_sign i.negative i.argument) (refl, refl)
