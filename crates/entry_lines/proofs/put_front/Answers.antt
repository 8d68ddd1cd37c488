-- `entry_lines::put_front` meets its contract. Its parts, one after the other, are the front of a line, and each has room.
use borrow.Author.Rules.{rules}
use native.Mathlib.Omega.{arith}
use lib.Dec.{lit≤}
use Rattle.console.proofs.Lines.{room_behind}
use Rattle.entry_lines.proofs.Lines.{front_put}
use Rattle.entry_lines.proofs.put_front.Goals as goal

pub put_hex-tag-requires : goal.put_hex-tag-requires
put_hex-tag-requires c =
    let room = room_behind c.args.e.start 26 c.requires c.put_decimal-start.ensures c.put-before.ensures in
    ((lit≤ tt, lit≤ tt), (search rules, omega arith))

pub returns : goal.returns
returns c =
    front_put c.args.e c.requires c.put_decimal-start.ensures c.put-before.ensures c.put_hex-tag.ensures c.put-after.ensures c.put_decimal-length.ensures c.put.ensures
