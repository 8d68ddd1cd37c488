-- An integer below 128 has its own form; the others are as wide as the heads of bytes.
use mathlib.Core.Path.{◌∙◌}
use native.Mathlib.Omega.{arith}
use Rattle.writer.proofs.Sizes.{unsigned_short, unsigned_long}
use Rattle.writer.proofs.unsigned_size.Goals as goal

pub returns-then-n-lt128 : goal.returns-then-n-lt128
returns-then-n-lt128 c = (unsigned_short _ c.if-n-lt128.true, omega arith)

pub returns : goal.returns
returns c = (c.binary_head_size.ensures.0 ∙ unsigned_long _ c.if-n-lt128.false (omega arith), c.binary_head_size.ensures.1)
