-- `slices::same_bytes` meets its contract: the comparison is the library's.
use mathlib.Core.Path.{◌∙◌}
use Rattle.slices.proofs.Comparisons.{pointwise_same}
use Rattle.slices.proofs.same_bytes.Goals as goal

pub returns : goal.returns
returns c = c.eq.ensures ∙ pointwise_same c.args.a.now c.args.b.now
