-- `deposit::check_records` meets its contract: the records passed may be deposited.
use mathlib.Core.Path.{sym, ap}
use native.Mathlib.Omega.{arith}
use Rattle.deposit.specs.Packs.{outcome_by}
use Rattle.deposit.proofs.Walks.{walks_first, walks_last, walks_on, walks_fault, walks_forward, header_inside}
use Rattle.deposit.proofs.check_records.Goals as goal

pub loop-at-init : goal.loop-at-init
loop-at-init c = walks_first _ c.requires

pub overflow_add-value : goal.overflow_add-value
overflow_add-value c = let l = c in omega (arith, header_inside _ _ l.loop-at.invariant (omega arith))

pub check_record-requires : goal.check_record-requires
check_record-requires c = let l = c in header_inside _ _ l.loop-at.invariant (omega arith)

pub returns-in-Err : goal.returns-in-Err
returns-in-Err c =
    let d = c in
    let p = d in
    let l = p in
    sym (ap (outcome_by _) (walks_fault _ _ l.loop-at.invariant (omega arith) p.pass_at-passed.result p.pass_at-passed.ensures _
    (d.in-Err.ensures)))

pub loop-at-smaller : goal.loop-at-smaller
loop-at-smaller c =
    let p = c in
    let l = p in
    let f = walks_forward _ _ l.loop-at.invariant (omega arith) p.pass_at-passed.result p.pass_at-passed.ensures in
    omega (arith, f.0, f.1)

pub loop-at-preserved : goal.loop-at-preserved
loop-at-preserved c =
    let d = c in
    let p = d in
    let l = p in
    walks_on _ _ l.loop-at.invariant (omega arith) p.pass_at-passed.result p.pass_at-passed.ensures
    (d.in_default.ensures)

pub returns : goal.returns
returns c = let l = c in sym (ap (outcome_by _) (walks_last _ _ l.loop-at.invariant (omega arith)))
