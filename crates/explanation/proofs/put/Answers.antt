-- `explanation::put` meets its contract: a line takes three words, and none takes none.
use mathlib.Core.Path.{sym, ap, ◌∙◌}
use Prim.Native.Nat.{◌+◌, ◌*◌, ◌≤◌}
use native.Mathlib.Omega.{arith}
use lib.ListN.{length}
use Rattle.slices.specs.Overwriting.{overwritten, written_within, none_overwritten}
use Rattle.explanation.specs.Answers.{row_in, words_in}
use Rattle.explanation.proofs.put.Goals as goal

pub returns-in-None-clause-count : goal.returns-in-None-clause-count
returns-in-None-clause-count c =
    let is = c.in-None.is in
    rw is (omega arith)

pub returns-in-None-clause-told : goal.returns-in-None-clause-told
returns-in-None-clause-told c =
    let is = c.in-None.is in
    rw is (sym (none_overwritten _ _))

pub returns-in-Some-clause-count : goal.returns-in-Some-clause-count
returns-in-Some-clause-count c =
    let is = c.in-Some.is in
    rw is

pub returns-in-Some-clause-told : goal.returns-in-Some-clause-told
returns-in-Some-clause-told c =
    let b = c in
    let is = c.in-Some.is in
    let room : 3 * b.args.i + 3 ≤ length b.args.told.now = omega (arith, b.requires, ap (λ t. length (words_in t)) is) in
    let row = c.in-Some.r in
    c.store.ensures.told_after ∙ written_within b.args.told.now (3 * b.args.i) (row_in row) room ∙ ap (λ t. overwritten b.args.told.now (3 * b.args.i) (words_in t)) (sym is)
