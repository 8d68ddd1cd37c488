-- `msgpack_heads::write_text_head` meets its contract: the form is the shortest, and small.
use Rattle.msgpack_heads.specs.Heads.{form_read}
use Rattle.msgpack_heads.proofs.Forms.{chosen_small, chosen_written, text_small}
use Rattle.msgpack_heads.proofs.write_text_head.Goals as goal

pub put-requires : goal.put-requires
put-requires c = chosen_small (form_read c.text_form.result) _ c.text_form.ensures (text_small c.args.n)

pub returns : goal.returns
returns c =
    let f = c.text_form in
    let p = c.put.ensures in
    let a = c.args in
    let w = chosen_written (form_read f.result) _ f.ensures a.out.now a.at a.n _ _ p.result_value p.out_after in
    record { result_value = w.0; out_after = w.1 }
