-- `explanation::count_versions` meets its contract: what was counted so far and what is left make the whole.
use native.Mathlib.Omega.{arith}
use Rattle.lookup_records.specs.Walk.{walk_on}
use Rattle.explanation.proofs.Lines.{counts_none, counts_more, counts_all}
use Rattle.explanation.proofs.count_versions.Goals as goal

pub loop-at-init : goal.loop-at-init
loop-at-init c = counts_none _ _ _ c.requires

pub overflow_add-count : goal.overflow_add-count
overflow_add-count c =
    let l = c.loop-at in
    let v = c.visit-v in
    let walked = walk_on _ _ _ v.result l.invariant.checked (omega arith) v.ensures in
    omega (arith, (counts_more _ _ _ _ _ l.invariant v.result walked _ c.counted-count.ensures).few, walked.inside)

pub loop-at-smaller : goal.loop-at-smaller
loop-at-smaller c =
    let l = c.loop-at in
    let v = c.visit-v in
    let walked = walk_on _ _ _ v.result l.invariant.checked (omega arith) v.ensures in
    omega (arith, walked.forward, walked.inside)

pub loop-at-preserved : goal.loop-at-preserved
loop-at-preserved c =
    let l = c.loop-at in
    let v = c.visit-v in
    let walked = walk_on _ _ _ v.result l.invariant.checked (omega arith) v.ensures in
    counts_more _ _ _ _ _ l.invariant v.result walked _ c.counted-count.ensures

pub returns : goal.returns
returns c = counts_all _ _ _ _ _ c.loop-at.invariant (omega arith)
