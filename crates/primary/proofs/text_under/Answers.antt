-- `primary::text_under` meets its contract: at 0 the key is missing.
use mathlib.Core.Path.{sym, ap, ◌∙◌}
use lib.Seq.{drop-drop}
use Rattle.msgpack.specs.PairLaws.{told_found}
use Rattle.msgpack.specs.Views.{text_at}
use Rattle.primary.proofs.Places.{no_text}
use Rattle.primary.proofs.text_under.Goals as goal

pub returns-then-place-eq0-clause-result_value : goal.returns-then-place-eq0-clause-result_value
returns-then-place-eq0-clause-result_value c = rw c.if-place-eq0.true

pub returns-then-place-eq0-clause-inside : goal.returns-then-place-eq0-clause-inside
returns-then-place-eq0-clause-inside c = no_text _

pub returns-clause-result_value : goal.returns-clause-result_value
returns-clause-result_value c =
    let a = c.args in
    c.text_at.ensures.result_value ∙ rw (told_found _ c.if-place-eq0.false) (ap text_at (sym (drop-drop a.place a.at a.part.now)))

pub returns-clause-inside : goal.returns-clause-inside
returns-clause-inside c = c.text_at.ensures.inside
