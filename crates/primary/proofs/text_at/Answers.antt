-- `primary::text_at` meets its contract: what stands at the front of the rest of the part stands at that place of the part.
use Rattle.std.specs.Prelude.{Some}
use mathlib.Core.Path.{◌≡◌, sym, ap, ◌∙◌}
use native.Mathlib.Omega.{arith}
use lib.ListN.{drop}
use Rattle.msgpack.specs.Readers.{part, part_of, read_text}
use Rattle.primary.proofs.Places.{text_inside, text_found, text_ends, text_missing}
use Rattle.primary.proofs.text_at.Goals as goal
use Rattle.primary.proofs.text_at.Goals.{In_ok-text}

text_read : (c : In_ok-text) → Some (part c.in_ok-text.text.start c.in_ok-text.text.len) ≡ read_text (drop c.args.at c.args.part.now)
text_read c = ap part_of (sym c.in_ok-text.was) ∙ c.read_text.ensures.result_value ∙ ap read_text c.from.ensures.result_value

pub returns-in_err-text-clause-result_value : goal.returns-in_err-text-clause-result_value
returns-in_err-text-clause-result_value c =
    rw c.from_residual.ensures (text_missing c.args.part.now c.args.at (ap part_of (sym c.in_err-text.was) ∙ c.read_text.ensures.result_value ∙ ap read_text c.from.ensures.result_value))

pub overflow_add-result : goal.overflow_add-result
overflow_add-result c = omega (arith, (text_ends c.args.part.now c.args.at _ _ (text_read (goal.at.overflow_add-result c).In_ok-text)).end)

pub returns-clause-result_value : goal.returns-clause-result_value
returns-clause-result_value c = text_found _ _ _ _ (text_read (goal.at.returns-clause-result_value c).In_ok-text)

pub returns-clause-inside : goal.returns-clause-inside
returns-clause-inside c = text_inside _ _ (text_ends c.args.part.now c.args.at _ _ (text_read (goal.at.returns-clause-inside c).In_ok-text))
