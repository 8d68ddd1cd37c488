-- The fixed bytes, and then the composite text.
use Rattle.writer.proofs.Fixed.{block_part_lem, block_part_start}
use Rattle.writer.proofs.Chains.{first_fits, next_fits, puts_both}
use Rattle.writer.proofs.put_block_part.Goals as goal

pub put-start-requires : goal.put-start-requires
put-start-requires c =
    let entry = c in
    first_fits block_part_start _ (block_part_lem _) _ _ entry.requires.1

pub put_composite-requires : goal.put_composite-requires
put_composite-requires c =
    let at-put = c in
    let entry = at-put in
    (entry.requires.0, next_fits _ _ (block_part_lem _) at-put.put-start.ensures entry.requires.1)

pub returns : goal.returns
returns c =
    let at-put = c in
    let entry = at-put in
    puts_both _ _ (block_part_lem _) at-put.put-start.ensures c.put_composite.ensures entry.requires.1
