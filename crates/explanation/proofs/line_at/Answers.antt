-- `explanation::line_at` meets its contract, test by test.
use borrow.Author.Tests.{not-true, not-false}
use mathlib.Core.Path.{◌∙◌}
use Rattle.explanation.proofs.Rows.{none_told, other_told, line_told}
use Rattle.std.proofs.Common.{ap, not}
use Rattle.explanation.proofs.line_at.Goals as goal

pub returns-in_default : goal.returns-in_default
returns-in_default c =
    let b = c in
    none_told _ _ b.args.pack.now b.args.bucket.now b.args.object.now b.args.at b.args.v c.in_default.not-Version

pub returns-then-not-has_name : goal.returns-then-not-has_name
returns-then-not-has_name c =
    let b = c in
    other_told _ _ b.args.pack.now b.args.bucket.now b.args.object.now b.args.at b.args.v _ _ _ c.in-Version.is
    (not-true _ (rw c.has_name.ensures at (ap not c.if-not-has_name.true)))

pub returns : goal.returns
returns c =
    let b = c in
    (rw c.part-ulid.ensures.result_value at c.row_of.ensures)
    ∙ line_told _ _ b.args.pack.now b.args.bucket.now b.args.object.now b.args.at b.args.v _ _ _ c.in-Version.is
    (not-false _ (rw c.has_name.ensures at (ap not c.if-not-has_name.false)))
