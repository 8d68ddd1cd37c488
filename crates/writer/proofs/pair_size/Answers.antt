-- Each text is its head and its bytes.
use native.Mathlib.Omega.{arith}
use Rattle.writer.proofs.Fixed.{length_pair}
use Rattle.writer.proofs.pair_size.Goals as goal

pub returns : goal.returns
returns c =
    let entry = c in
    (omega (arith, length_pair entry.args.key.now entry.args.text.now, c.text_head_size.ensures.0, c.text_head_size-2.ensures.0), omega (arith, c.text_head_size.ensures.1, c.text_head_size-2.ensures.1))
