-- Part after part, each where the last one ended.
use Rattle.held_identifier.proofs.Buffers.{composite_put}
use lib.ListN.{length-set}
use mathlib.Core.Path.{◌∙◌}
use native.Mathlib.Omega.{arith}
use Rattle.held_identifier.proofs.Texts.put_composite.Goals as goal

pub put-requires-2 : goal.put-requires-2
put-requires-2 c =
    let p = c in
    simp length-set (omega (arith, p.put.auto.out, p.requires))

pub bounds-out-slash : goal.bounds-out-slash
bounds-out-slash c =
    let q = c in
    let p = q in
    omega (arith, simp length-set at q.put-2.auto.out, p.put.auto.out, p.requires)

pub put-requires-3 : goal.put-requires-3
put-requires-3 c =
    let q = c in
    let p = q in
    simp length-set (omega (arith, simp length-set at q.put-2.auto.out, p.put.auto.out, p.requires))

pub shape_of-out : goal.shape_of-out
shape_of-out c =
    let r = c in
    let q = r in
    let p = q in
    (simp length-set at r.put-3.auto.out) ∙ (simp length-set at q.put-2.auto.out) ∙ p.put.auto.out

pub returns : goal.returns
returns c =
    let r = c in
    let q = r in
    let p = q in
    let s = p in
    composite_put _ _ _ _ _ _ _ _ s.requires.0 s.requires.1 p.put.ensures q.put-2.ensures r.put-3.ensures
