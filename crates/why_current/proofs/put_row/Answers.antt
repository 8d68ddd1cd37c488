-- `why_current::put_row` meets its contract. Its parts, one after the other, are the line, and each has room.
use native.Mathlib.Omega.{arith}
use Rattle.console.proofs.Lines.{room_behind}
use Rattle.why_current.proofs.Rows.{row_put}
use Rattle.why_current.proofs.put_row.Goals as goal

pub put_reason-after-requires : goal.put_reason-after-requires
put_reason-after-requires c =
    (c.requires.0, room_behind c.args.start 32 (omega (arith, c.requires.1)) c.put_decimal-number.ensures c.put-before.ensures)

pub returns : goal.returns
returns c =
    row_put c.args.start c.args.reason c.args.place c.args.ulid.now c.requires.0 c.requires.1
    c.put_decimal-number.ensures c.put-before.ensures c.put_reason-after.ensures c.put.ensures
