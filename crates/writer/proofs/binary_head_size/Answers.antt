-- The sizes of the three forms of bytes.
use native.Mathlib.Omega.{arith}
use Rattle.writer.proofs.Sizes.{binary_short, binary_middle, binary_long}
use Rattle.writer.proofs.binary_head_size.Goals as goal

pub returns-then-n-lt256 : goal.returns-then-n-lt256
returns-then-n-lt256 c = (binary_short _ c.if-n-lt256.true, omega arith)

pub returns-then-n-lt65536 : goal.returns-then-n-lt65536
returns-then-n-lt65536 c = (binary_middle _ c.if-n-lt256.false c.if-n-lt65536.true, omega arith)

pub returns : goal.returns
returns c = (binary_long _ c.if-n-lt65536.false, omega arith)
