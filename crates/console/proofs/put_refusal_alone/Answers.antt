-- `console::put_refusal_alone` meets its contract, as `put_refusal` does.
use native.Mathlib.Omega.{arith}
use Rattle.console.specs.Text.{refused_word, refusal_alone}
use Rattle.console.proofs.Lines.{numbered_put}
use Rattle.console.proofs.put_refusal_alone.Goals as goal

pub returns : goal.returns
unfolding refusal_alone
returns c =
    record {
      fits = λ h. numbered_put refused_word c.args.number h c.put-word.ensures c.put_decimal-after.ensures c.put.ensures;
      keeps = λ h. absurd (omega arith);
    }
