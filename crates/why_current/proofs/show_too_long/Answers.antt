-- `why_current::show_too_long` meets its contract. The line lies within the buffer.
use native.Mathlib.Omega.{arith}
use lib.Seq.{length-take-le}
use mathlib.Core.Path.{sym}
use Rattle.why_current.proofs.Answers.{too_long_within}
use Rattle.why_current.proofs.show_too_long.Goals as goal

pub slice_bounds-out-end : goal.slice_bounds-out-end
slice_bounds-out-end g c = too_long_within (omega arith) c.put_refusal-n.auto.out c.put_refusal-n.ensures

pub slice_bounds-write_out-end : goal.slice_bounds-write_out-end
slice_bounds-write_out-end g c = sym (length-take-le _ _ (too_long_within (omega arith) c.put_refusal-n.auto.out c.put_refusal-n.ensures))
