-- The test has shown what the struct names, and that its lengths are within the arrays.
use mathlib.Core.Path.{refl, sym, ◌∙◌}
use Rattle.writer.proofs.Calls.{Named, admitted_named}
use Rattle.writer.proofs.admitted_texts.Goals as goal
use Rattle.writer.proofs.admitted_texts.Goals.{Else-not-is_admitted}

known : (c : Else-not-is_admitted) → Named c.args.id.now
known c = admitted_named _ (sym c.is_admitted.ensures ∙ c.if-not-is_admitted.false)

pub returns-then-not-is_admitted : goal.returns-then-not-is_admitted
returns-then-not-is_admitted c = (refl, sym c.is_admitted.ensures ∙ c.if-not-is_admitted.true)

pub shared_ref_as_front-result : goal.shared_ref_as_front-result
shared_ref_as_front-result c = (known (goal.at.shared_ref_as_front-result c).Else-not-is_admitted).bucket

pub shared_ref_as_front-result-2 : goal.shared_ref_as_front-result-2
shared_ref_as_front-result-2 c = (known (goal.at.shared_ref_as_front-result-2 c).Else-not-is_admitted).object

pub returns : goal.returns
returns c =
    let n = known (goal.at.returns c).Else-not-is_admitted in
    (n.names, n.valid)
