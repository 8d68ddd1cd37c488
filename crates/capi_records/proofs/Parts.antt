-- The answer of `vof_value`, and the lent words at exit, from what was read: the words are stored exactly where there is room, and that is what is answered.
use Prim.Native.Nat.{ℕ, ◌+◌, ◌%◌, ◌^◌, ◌<◌}
use mathlib.Core.Bool.{true, false}
use mathlib.Core.List.{List}
use mathlib.Core.Path.{◌≡◌, refl, sym, ◌∙◌}
use Rattle.std.specs.Prelude.{Result}
use native.Mathlib.Omega.{arith}
use lib.Dec.{leb}
use lib.ListN.{length}
use Rattle.slices.specs.Overwriting.{written_bytes}
use Rattle.refusals.specs.Limit.{pack_limit}
use Rattle.refusals.specs.Answers.{granted, refused}
use Rattle.value.specs.Reading.{reading, answer_of}
use Rattle.value.specs.declared.Fault.{Fault}
use Rattle.value.specs.declared.Told.{Told}
use Rattle.words.specs.Words.{answer, answer_whole}
use Rattle.capi_records.specs.Values.{told_words, value_answer, value_told}

-- `r` is what the code read
module _ (s words : List ℕ) (r : Result Told Fault) (read : answer_of r ≡ reading pack_limit s) where
  -- what is answered, and what is left
  abbrev Tells : ℕ → List ℕ → Type 0
  Tells x left = (x ≡ value_answer (reading pack_limit s) (length words)) × (left ≡ value_told (reading pack_limit s) words)

  pub value_refused : (n : ℕ) → answer_of r ≡ refused n → n < 256 → Tells (answer n 0 % 2 ^ 64) words
  value_refused n is small = rw (answer_whole n 0 small (omega arith), sym read ∙ is) (refl, refl)

  module _ (t : Told) (is : answer_of r ≡ granted t) (list : List ℕ) (are : list ≡ told_words t) where
    pub value_short : leb (0 + length list) (length words) ≡ false → Tells (answer 19 0) (written_bytes words 0 list)
    unfolding written_bytes
    value_short h =
        let few : leb 10 (length words) ≡ false = rw are at h in
        rw (sym read ∙ is, h, few) (refl, refl)

    pub value_told_lem : leb (0 + length list) (length words) ≡ true → Tells (answer 0 0) (written_bytes words 0 list)
    unfolding written_bytes
    value_told_lem h =
        let enough : leb 10 (length words) ≡ true = rw are at h in
        rw (sym read ∙ is, h, enough, are) (refl, refl)
