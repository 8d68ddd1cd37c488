-- `capi_pack::scan::fill` meets its contract: what the whole leaves is what the rest leaves from here.
use native.Mathlib.Omega.{arith}
use Rattle.capi_pack.proofs.Entries.{starts, goes_on, ends}
use Rattle.capi_pack.proofs.scan.fill.Goals as goal

pub loop-i-init : goal.loop-i-init
loop-i-init c = starts _ _ _

pub overflow_mul-i : goal.overflow_mul-i
overflow_mul-i c = omega arith

pub loop-i-smaller : goal.loop-i-smaller
loop-i-smaller c = omega arith

pub loop-i-preserved : goal.loop-i-preserved
loop-i-preserved c =
    let l = c in
    let b = l in
    let passed = c.pass_at-passed in
    goes_on b.args.pack.now b.args.told.now b.args.n b.requires l.loop-i.told l.loop-i.i l.loop-i.at l.loop-i.invariant (omega arith)
    passed.result passed.ensures _ c.store.ensures.told_after

pub shape_of-told : goal.shape_of-told
shape_of-told c = c.loop-i.invariant.long

pub returns : goal.returns
returns c =
    let b = c in
    ends b.args.pack.now b.args.told.now b.args.n b.requires c.loop-i.told c.loop-i.i c.loop-i.at c.loop-i.invariant (omega arith)
