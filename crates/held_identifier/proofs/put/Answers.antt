-- The bytes lie within, so that they are written.
use mathlib.Core.Path.{◌∙◌}
use Rattle.slices.specs.Overwriting.{written_within}
use Rattle.held_identifier.proofs.put.Goals as goal

pub returns : goal.returns
returns c = c.write_bytes.ensures.out_after ∙ written_within _ _ _ c.requires
