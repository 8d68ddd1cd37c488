-- `explanation::fill` meets its contract: what the whole leaves is what the rest leaves from here.
use native.Mathlib.Omega.{arith}
use Rattle.lookup_records.specs.Walk.{walk_on}
use Rattle.lookup.specs.Answers.{candidate_in}
use Rattle.explanation.proofs.Lines.{fill_starts, line_fits, fill_more, fill_ends}
use Rattle.explanation.proofs.fill.Goals as goal

pub loop-at-init : goal.loop-at-init
loop-at-init c = let b = c in fill_starts b.args.pack.now b.args.bucket.now b.args.object.now _ _ b.requires.0 b.requires.1

pub put-i-requires : goal.put-i-requires
put-i-requires c =
    let l = c in
    let b = l in
    let v = c.visit-v in
    let walked = walk_on _ _ _ v.result l.loop-at.invariant.checked (omega arith) v.ensures in
    line_fits b.args.pack.now b.args.bucket.now b.args.object.now (candidate_in b.args.pack.now b.args.found) _ _ _ _ l.loop-at.invariant v.result walked c.line_at-line.result c.line_at-line.ensures

pub loop-at-smaller : goal.loop-at-smaller
loop-at-smaller c =
    let l = c in
    let b = l in
    let v = c.visit-v in
    let walked = walk_on _ _ _ v.result l.loop-at.invariant.checked (omega arith) v.ensures in
    omega (arith, walked.forward, walked.inside)

pub loop-at-preserved : goal.loop-at-preserved
loop-at-preserved c =
    let l = c in
    let b = l in
    let v = c.visit-v in
    let walked = walk_on _ _ _ v.result l.loop-at.invariant.checked (omega arith) v.ensures in
    let line = c.line_at-line in
    rw c.put-i.ensures.count (fill_more b.args.pack.now b.args.bucket.now b.args.object.now (candidate_in b.args.pack.now b.args.found) _ _ _ _ l.loop-at.invariant v.result walked line.result line.ensures _ c.put-i.ensures.told)

pub shape_of-told : goal.shape_of-told
shape_of-told c = c.loop-at.invariant.long

pub returns : goal.returns
returns c = let b = c in fill_ends b.args.pack.now b.args.bucket.now b.args.object.now _ _ _ _ _ c.loop-at.invariant (omega arith)
