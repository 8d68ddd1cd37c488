-- `primary::identifier_at` meets its contract: a text, in which no key can repeat, or else a map's texts.
use Rattle.std.specs.Prelude.{None, Some}
use mathlib.Core.Path.{◌≡◌, refl, ◌∙◌}
use lib.ListN.{drop}
use Rattle.slices.specs.Places.{part_at}
use Rattle.msgpack.specs.Views.{text_at}
use Rattle.primary.specs.Parts.{identity_keys}
use Rattle.primary.proofs.Readings.{shape_is, text_once}
use Rattle.primary.proofs.identifier_at.Goals as goal
use Rattle.primary.proofs.identifier_at.Goals.{In-Some, In_default}

-- a text stands there
text : (c : In-Some) → Some (part_at c.args.part.now c.in-Some.text)
    ≡ text_at (drop c.args.at c.args.part.now)
text c = c.in-Some.ensures.result_value

pub returns-then-repeated-clause-result_value : goal.returns-then-repeated-clause-result_value
returns-then-repeated-clause-result_value c =
    let k = c in
    rw (← shape_is _ _ _ (text (goal.at.returns-then-repeated-clause-result_value k).In-Some) refl, text_once _ identity_keys _ (text (goal.at.returns-then-repeated-clause-result_value k).In-Some), c.if-repeated.true)

-- no text stands there
no_text : (c : In_default) → None ≡ text_at (drop c.args.at c.args.part.now)
no_text c = c.in_default.ensures.result_value

pub returns-clause-result_value : goal.returns-clause-result_value
returns-clause-result_value c =
    let k = c in
    c.from_composite.ensures.result_value ∙ rw (← shape_is _ _ _ (text (goal.at.returns-clause-result_value k).In-Some) refl, text_once _ identity_keys _ (text (goal.at.returns-clause-result_value k).In-Some), c.if-repeated.false)

pub returns-in_default-clause-result_value : goal.returns-in_default-clause-result_value
returns-in_default-clause-result_value c = c.from_map.ensures.result_value ∙ rw (← shape_is _ None _ (no_text (goal.at.returns-in_default-clause-result_value c).In_default) refl)
