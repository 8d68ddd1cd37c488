-- The head, and then the composite text.
use native.Mathlib.Omega.{arith}
use Rattle.identifier.specs.Composite.{composite_length}
use Rattle.identifier.specs.Identity.{sizes}
use Rattle.writer.proofs.Composites.{composite_room, composite_put}
use Rattle.writer.proofs.put_composite.Goals as goal

pub overflow_add-n-2 : goal.overflow_add-n-2
overflow_add-n-2 c = omega (arith, sizes _ c.requires.0)

pub overflow_cast-n : goal.overflow_cast-n
overflow_cast-n c =
    let entry = c in
    omega (arith, sizes _ entry.requires.0)

pub overflow_add-result : goal.overflow_add-result
overflow_add-result c =
    let at_place = c in
    let at-write-text-head = at_place in
    let entry = at-write-text-head in
    let h = composite_room entry.args.out.now entry.args.at _ (composite_length _ entry.requires.0) at-write-text-head.write_text_head.ensures.result_value at-write-text-head.write_text_head.ensures.out_after at_place.place-start.ensures entry.requires.1 in omega arith

pub returns : goal.returns
returns c =
    let at_place = c in
    let at-write-text-head = at_place in
    let entry = at-write-text-head in
    composite_put entry.args.out.now entry.args.at _ (composite_length _ entry.requires.0) at-write-text-head.write_text_head.ensures.result_value at-write-text-head.write_text_head.ensures.out_after at_place.place-start.ensures entry.requires.1 entry.requires.0 c.write_parts.ensures.holds
