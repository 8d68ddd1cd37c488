-- The fixed bytes, and then the head of the primary part.
use Rattle.writer.proofs.Fixed.{primary, primary_start}
use Rattle.writer.proofs.Chains.{first_fits, next_fits, puts_both, head_put}
use Rattle.writer.proofs.put_primary.Goals as goal

pub put-head-requires : goal.put-head-requires
put-head-requires c = first_fits primary_start _ (primary _) _ _ c.requires.1

pub returns : goal.returns
returns c =
    let at-write-binary-head = c in
    let at-put = at-write-binary-head in
    let entry = at-put in
    let first = at-put.put-head.ensures in
    let head = head_put at-write-binary-head.write_binary_head.ensures.result_value at-write-binary-head.write_binary_head.ensures.out_after c.place.ensures (next_fits _ _ (primary _) first entry.requires.1) in
    puts_both _ _ (primary _) first head entry.requires.1
