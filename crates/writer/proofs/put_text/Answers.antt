-- The head, and then the text.
use mathlib.Core.Path.{refl}
use lib.ListN.{length}
use Rattle.msgpack_heads.specs.Heads.{text_head}
use Rattle.writer.specs.Putting.{Puts}
use Rattle.writer.specs.Values.{text_item}
use Rattle.writer.proofs.Chains.{first_fits, next_fits, puts_both, head_put}
use Rattle.writer.proofs.put_text.Goals as goal
use Rattle.writer.proofs.put_text.Goals.{After-put-arg-1}

-- the head is written
head : (c : After-put-arg-1) → Puts c.args.out.now c.args.at (text_head (length c.args.s.now)) c.write_text_head.new.out c.place-start.result
unfolding text_item
head c = head_put c.write_text_head.ensures.result_value c.write_text_head.ensures.out_after c.place-start.ensures (first_fits (text_head (length c.args.s.now)) c.args.s.now refl _ _ c.requires.1)

pub put-requires : goal.put-requires
unfolding text_item
put-requires c = next_fits _ _ refl (head (goal.at.put-requires c).After-put-arg-1) c.requires.1

pub returns : goal.returns
unfolding text_item
returns c = puts_both _ _ refl (head (goal.at.returns c).After-put-arg-1) c.put.ensures c.requires.1
