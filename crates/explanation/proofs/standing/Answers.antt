-- `explanation::standing` meets its contract: itself where nothing else is current, or the current version starts there.
use mathlib.Core.Path.{◌∙◌}
use Rattle.explanation.proofs.Rows.{none_current, itself_current, other_current}
use Rattle.explanation.proofs.standing.Goals as goal

pub returns-in_default : goal.returns-in_default
returns-in_default c =
    let b = c in
    c.own.ensures ∙ none_current b.args.pack.now b.args.found b.args.at b.args.deleted c.in_default.is

pub returns-then-c-at : goal.returns-then-c-at
returns-then-c-at c =
    let b = c in
    c.own-then-c-at.ensures
    ∙ itself_current b.args.pack.now b.args.found b.args.at b.args.deleted _ c.in-Some.is c.if-c-at.true

pub returns : goal.returns
returns c =
    let b = c in
    other_current b.args.pack.now b.args.found b.args.at b.args.deleted _ c.in-Some.is c.if-c-at.false
