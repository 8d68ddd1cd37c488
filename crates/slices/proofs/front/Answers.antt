-- `slices::front` meets its contract: of a shorter slice all is taken.
use mathlib.Core.Path.{sym, refl}
use native.Mathlib.Omega.{arith}
use lib.Seq.{take_all, length-take-le}
use Rattle.slices.proofs.front.Goals as goal

pub returns-then-s-n-clause-result_value : goal.returns-then-s-n-clause-result_value
returns-then-s-n-clause-result_value c = sym (take_all c.args.n c.args.s.now (omega arith))

pub returns-then-s-n-clause-address : goal.returns-then-s-n-clause-address
returns-then-s-n-clause-address c = refl

pub slice_bounds-result-end : goal.slice_bounds-result-end
slice_bounds-result-end c = sym (length-take-le c.args.n c.args.s.now (omega arith))
