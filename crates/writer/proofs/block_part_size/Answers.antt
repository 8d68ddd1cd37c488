-- The fixed bytes, and the composite text with its head.
use native.Mathlib.Omega.{arith}
use Rattle.identifier.specs.Composite.{composite_length}
use Rattle.identifier.specs.Identity.{sizes}
use Rattle.writer.proofs.Fixed.{block_part_size}
use Rattle.writer.proofs.block_part_size.Goals as goal

pub overflow_add-text-2 : goal.overflow_add-text-2
overflow_add-text-2 c = omega (arith, sizes _ c.requires)

pub overflow_add-result : goal.overflow_add-result
overflow_add-result c = omega (arith, sizes _ c.requires, c.text_head_size.ensures.1)

pub overflow_add-result-2 : goal.overflow_add-result-2
overflow_add-result-2 c = omega (arith, sizes _ c.requires, c.text_head_size.ensures.1)

pub returns : goal.returns
returns c =
    let entry = c in
    (block_part_size _ _ _ (composite_length _ entry.requires) c.text_head_size.ensures.0, omega (arith, sizes _ entry.requires, c.text_head_size.ensures.1))
