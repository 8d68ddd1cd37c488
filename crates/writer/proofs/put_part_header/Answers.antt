-- The map's head, and then the key `e`.
use Rattle.writer.proofs.Fixed.{part_header_lem, part_start}
use Rattle.writer.proofs.Chains.{first_fits, next_fits, puts_both}
use Rattle.writer.proofs.put_part_header.Goals as goal

pub put-key-requires : goal.put-key-requires
put-key-requires c = first_fits part_start _ (part_header_lem _) _ _ c.requires.1

pub put_primary-requires : goal.put_primary-requires
put_primary-requires c =
    let at-put = c in
    let entry = at-put in
    (entry.requires.0, next_fits _ _ (part_header_lem _) at-put.put-key.ensures entry.requires.1)

pub returns : goal.returns
returns c =
    let at-put = c in
    let entry = at-put in
    puts_both _ _ (part_header_lem _) at-put.put-key.ensures c.put_primary.ensures entry.requires.1
