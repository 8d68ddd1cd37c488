-- `slices::from` meets its contract: past the end nothing is left.
use mathlib.Core.Path.{ap}
use native.Mathlib.Omega.{arith}
use lib.ListN.{drop_of_length-le}
use Rattle.slices.specs.Lists.{part_to_end, part_to_itself}
use Rattle.slices.proofs.from.Goals as goal

pub returns-then-end-at-clause-result_value : goal.returns-then-end-at-clause-result_value
returns-then-end-at-clause-result_value c =
    let a = c.args in
    simp (part_to_itself, drop_of_length-le a.s.now {i = a.at} (omega arith))

pub returns-then-end-at-clause-address : goal.returns-then-end-at-clause-address
returns-then-end-at-clause-address c =
    let a = c.args in
    ap (λ o. (a.s.ref_ptr.0, o)) (omega arith)

pub returns-clause-result_value : goal.returns-clause-result_value
returns-clause-result_value c =
    let a = c.args in
    part_to_end a.at a.s.now

pub returns-clause-address : goal.returns-clause-address
returns-clause-address c =
    let a = c.args in
    ap (λ o. (a.s.ref_ptr.0, o)) (omega arith)
