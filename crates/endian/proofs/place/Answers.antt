-- `endian::place` meets its contract. The invariant: what is left to write, written into the buffer as it is now, gives the whole result.
use mathlib.Core.Path.{◌≡◌, sym, ◌∙◌}
use Prim.Native.Nat.{◌+◌, ◌-◌}
use native.Mathlib.Omega.{arith}
use lib.ListN.{length-set}
use Rattle.endian.proofs.Digits.{overwritten_digit, overwritten_none}
use Rattle.endian.proofs.place.Goals as goal

pub loop-left-preserved : goal.loop-left-preserved
loop-left-preserved c =
    let a = c.args in
    let v = c.loop-left in
    let e : v.left - 1 + 1 ≡ v.left = omega arith in
    (omega arith, rw length-set v.invariant.1, rw (overwritten_digit v.out a.at (v.left - 1) v.rest (omega arith), e) v.invariant.2)

pub returns : goal.returns
returns c =
    let v = c.loop-left in
    let e : v.left ≡ 0 = omega arith in
    sym (overwritten_none v.out c.args.at v.rest) ∙ rw e at v.invariant.2
