-- The bytes of the number lie within, so that they are written.
use mathlib.Core.Path.{refl}
use Rattle.writer.proofs.Chains.{number_put}
use Rattle.writer.proofs.put_number.Goals as goal

pub returns-clause-puts : goal.returns-clause-puts
returns-clause-puts c =
    let entry = c in
    number_put entry.args.width entry.args.n c.write_big.ensures.out_after refl entry.requires.0 entry.requires.1

pub returns-clause-value : goal.returns-clause-value
returns-clause-value c = refl
