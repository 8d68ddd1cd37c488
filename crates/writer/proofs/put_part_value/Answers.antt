-- The header, and then the primary part.
use mathlib.Core.Path.{refl}
use lib.ListN.{length}
use Rattle.writer.specs.Values.{part_header, part_value}
use Rattle.writer.proofs.Chains.{first_fits, next_fits, puts_both}
use Rattle.writer.proofs.put_part_value.Goals as goal

pub put_part_header-start-requires : goal.put_part_header-start-requires
unfolding part_value
put_part_header-start-requires c =
    let entry = c in
    (entry.requires.0, first_fits (part_header (length entry.args.part.now)) entry.args.part.now refl _ _ entry.requires.1)

pub put-requires : goal.put-requires
unfolding part_value
put-requires c =
    let at-put-part-header = c in
    let entry = at-put-part-header in
    next_fits _ _ refl at-put-part-header.put_part_header-start.ensures entry.requires.1

pub returns : goal.returns
unfolding part_value
returns c =
    let at-put-part-header = c in
    let entry = at-put-part-header in
    puts_both _ _ refl at-put-part-header.put_part_header-start.ensures c.put.ensures entry.requires.1
