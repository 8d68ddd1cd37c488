-- `why_current::put_rows` meets its contract. The invariant: the lines of the first i rows have been put, of at most 54 bytes each.
use native.Mathlib.Omega.{arith}
use Rattle.why_current.proofs.Rows.{no_rows_lem, more_rows}
use Rattle.why_current.proofs.put_rows.Goals as goal

pub loop-i-init : goal.loop-i-init
loop-i-init c = (omega arith, no_rows_lem c.args.out.now c.args.told.now c.args.ulid.now)

pub loop-i-preserved : goal.loop-i-preserved
loop-i-preserved c =
    let v = c.loop-i in
    (omega arith, more_rows c.args.told.now c.args.ulid.now v.i (omega (arith, c.requires.0.0)) c.requires.1 c.requires.2 v.invariant.1 c.put_row-at.ensures)
