-- `endian::byte` meets its contract. A byte of a slice is below 256.
use native.Mathlib.Omega.{arith}
use Rattle.endian.proofs.byte.Goals as goal

pub overflow_cast-result : goal.overflow_cast-result
overflow_cast-result c = omega (arith, c.type_inv.s c.args.i)

pub returns : goal.returns
returns c = omega (arith, c.type_inv.s c.args.i)
