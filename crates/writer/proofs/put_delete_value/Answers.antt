-- The header, and then the primary part.
use native.Mathlib.Omega.{arith}
use Rattle.writer.specs.Values.{part_header}
use Rattle.writer.proofs.Fixed.{part_value_lem}
use Rattle.writer.proofs.Chains.{first_fits, next_fits, puts_both}
use Rattle.writer.proofs.put_delete_value.Goals as goal

pub put_part_header-start-requires : goal.put_part_header-start-requires
put_part_header-start-requires c =
    let entry = c in
    (omega arith, first_fits (part_header entry.args.part) _ (part_value_lem _ _ entry.requires.2) _ _ entry.requires.4)

pub put_delete_part-requires : goal.put_delete_part-requires
put_delete_part-requires c =
    let at-put-part-header = c in
    let entry = at-put-part-header in
    (entry.requires.0, entry.requires.1, next_fits _ _ (part_value_lem _ _ entry.requires.2) at-put-part-header.put_part_header-start.ensures entry.requires.4)

pub returns : goal.returns
returns c = puts_both _ _ (part_value_lem _ _ c.requires.2) c.put_part_header-start.ensures c.put_delete_part.ensures c.requires.4
