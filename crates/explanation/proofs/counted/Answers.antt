-- `explanation::counted` meets its contract, test by test.
use borrow.Author.Tests.{not-true, not-false}
use Rattle.explanation.proofs.Rows.{none_counted, other_counted, one_counted}
use Rattle.std.proofs.Common.{ap, not}
use Rattle.explanation.proofs.counted.Goals as goal

pub returns-in_default : goal.returns-in_default
returns-in_default c =
    let b = c in
    none_counted b.args.pack.now b.args.bucket.now b.args.object.now b.args.role c.in_default.not-Version

pub returns-then-not-has_name : goal.returns-then-not-has_name
returns-then-not-has_name c =
    let b = c in
    other_counted b.args.pack.now b.args.bucket.now b.args.object.now b.args.role _ _ _ c.in-Version.is
    (not-true _ (rw c.has_name.ensures at (ap not c.if-not-has_name.true)))

pub returns : goal.returns
returns c =
    let b = c in
    one_counted b.args.pack.now b.args.bucket.now b.args.object.now b.args.role _ _ _ c.in-Version.is
    (not-false _ (rw c.has_name.ensures at (ap not c.if-not-has_name.false)))
