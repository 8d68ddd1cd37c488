-- `list_pack::put_lines` meets its contract. The invariant: the lines of the entries so far have been put, of at most 64 bytes each.
use native.Mathlib.Omega.{arith}
use lib.Seq.{take_all}
use Rattle.list_pack.proofs.Lines.{no_lines, more_lines}
use Rattle.list_pack.proofs.put_lines.Goals as goal

pub loop-e-init : goal.loop-e-init
loop-e-init c = no_lines c.args.out.now c.args.entries.now

pub loop-e-preserved : goal.loop-e-preserved
loop-e-preserved c =
    more_lines _ _ _ c.loop-e-test.true (omega (arith, c.requires.0)) c.requires.1 c.loop-e.invariant c.put_line-at.ensures

pub returns : goal.returns
returns c =
    let v = c.loop-e.invariant in
    (rw (take_all c.loop-e.e-index c.args.entries.now c.loop-e-test.false) at v.so_far, omega (arith, v.short, c.loop-e.auto.e-index-end, c.requires.0))
