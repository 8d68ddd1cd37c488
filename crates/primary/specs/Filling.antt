-- Whether one whole item fills a part, by what passing over it gave.
use Rattle.std.specs.Prelude.{ℕ, Bool, true, false, List, ◌≡◌, refl, length}
use Rattle.std.proofs.Common.{ap, ◌∙◌, eqb-true}
use Rattle.slices.specs.Logic.{absurd_numbers}
use Rattle.refusals.specs.Answers.{Answer, refused}
use Rattle.msgpack.specs.Items.{Passage, whole, cut, too_deep, pass_over}
use Rattle.primary.specs.Parts.{is_of_length, fills, if_fills}

pub fills_is : (s : List ℕ) (p : Passage) (t : Bool) → p ≡ pass_over s → t ≡ is_of_length (length s) p → fills s ≡ t
unfolding fills
fills_is s p t e f = rw (← e, f)

pub fills_whole : (s : List ℕ) → fills s ≡ true → pass_over s ≡ whole (length s)
unfolding fills
fills_whole s e = by (pass_over s) refl e
  where
    by : (p : Passage) → pass_over s ≡ p → is_of_length (length s) p ≡ true → pass_over s ≡ whole (length s)
    by (whole m) q f = q ∙ ap whole (eqb-true m (length s) f)
    by cut q f = absurd_numbers (cc)
    by too_deep q f = absurd_numbers (cc)

pub not_filled : {A : Type 0} (s : List ℕ) (next : Answer A) → fills s ≡ false → refused 16 ≡ if_fills s next
not_filled s next w = rw w
