-- `entry_lines::put_line` meets its contract. The hash and the line end have room behind the front.
use Prim.Native.Nat.{◌+◌, ◌≤◌}
use native.Mathlib.Omega.{arith}
use lib.Dec.{lit≤}
use lib.ListN.{length}
use Rattle.entry_lines.proofs.Lines.{room_behind_front, line_put}
use borrow.Author.Rules.{rules}
use Rattle.entry_lines.proofs.put_line.Goals as goal

pub put_hex-hash-requires : goal.put_hex-hash-requires
put_hex-hash-requires c =
    let fits : c.args.at + 64 ≤ length c.args.out.now = omega arith in
    let room = room_behind_front c.args.e fits c.put_front-front.ensures in
    ((lit≤ tt, lit≤ tt), (search rules, omega arith))

pub returns : goal.returns
returns c = record {
  fits = λ h. line_put c.args.e h c.put_front-front.ensures c.put_hex-hash.ensures c.put.ensures;
  keeps = λ h. absurd (omega arith);
}
