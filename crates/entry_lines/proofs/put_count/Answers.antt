-- `entry_lines::put_count` meets its contract. Its parts, one after the other, are the line, and each has room.
use native.Mathlib.Omega.{arith}
use Rattle.console.proofs.Lines.{numbered_put}
use Rattle.entry_lines.specs.Text.{records_word, count_line}
use Rattle.entry_lines.proofs.put_count.Goals as goal

pub returns : goal.returns
unfolding count_line
returns c = record {
  fits = λ h. numbered_put records_word c.args.n h c.put-word.ensures c.put_decimal-count.ensures c.put.ensures;
  keeps = λ h. absurd (omega arith);
}
