-- The fixed bytes, and then the length.
use Rattle.writer.proofs.Fixed.{secondary, secondary_start}
use Rattle.writer.proofs.Chains.{first_fits, next_fits, puts_both, head_put}
use Rattle.writer.proofs.put_secondary.Goals as goal

pub put-length-requires : goal.put-length-requires
put-length-requires c = first_fits secondary_start _ (secondary _) _ _ c.requires

pub returns : goal.returns
returns c =
    let at-write-unsigned = c in
    let at-put = at-write-unsigned in
    let entry = at-put in
    let first = at-put.put-length.ensures in
    let head = head_put at-write-unsigned.write_unsigned.ensures.result_value at-write-unsigned.write_unsigned.ensures.out_after c.place.ensures (next_fits _ _ (secondary _) first entry.requires) in
    puts_both _ _ (secondary _) first head entry.requires
