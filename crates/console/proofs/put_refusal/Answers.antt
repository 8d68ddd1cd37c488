-- `console::put_refusal` meets its contract. Its parts, one after the other, are the line, and each has room.
use native.Mathlib.Omega.{arith}
use Rattle.console.proofs.Lines.{refusal_put}
use Rattle.console.proofs.put_refusal.Goals as goal

pub returns : goal.returns
returns c =
    record {
      fits = λ h. refusal_put c.args.number c.args.place h c.put-word.ensures c.put_decimal-after.ensures c.put-between.ensures c.put_decimal-end.ensures c.put.ensures;
      keeps = λ h. absurd (omega arith);
    }
