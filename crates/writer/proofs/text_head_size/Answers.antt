-- A text below 32 bytes has its own form; the others are as wide as those of bytes.
use mathlib.Core.Path.{◌∙◌}
use native.Mathlib.Omega.{arith}
use Rattle.writer.proofs.Sizes.{text_short, text_long}
use Rattle.writer.proofs.text_head_size.Goals as goal

pub returns-then-n-lt32 : goal.returns-then-n-lt32
returns-then-n-lt32 c = (text_short _ c.if-n-lt32.true, omega arith)

pub returns : goal.returns
returns c = (c.binary_head_size.ensures.0 ∙ text_long _ c.if-n-lt32.false, c.binary_head_size.ensures.1)
