-- `demands::write_delete_of_then_read` meets its contract: what is asked for is a `vd` made for the identifier that the struct names.
use borrow.Author.Rules.{rules}
use Rattle.slices.specs.Bytes.{AllBytes}
use Rattle.held_identifier.specs.Held.{named}
use Rattle.writer.specs.Writing.{deletion, of_identity}
use Rattle.demands.proofs.Calls.{count_inside}
use Rattle.demands.proofs.ReadBacks.{read_back_holds}
use Rattle.demands.proofs.write_delete_of_then_read.Goals as goal

pub read_back-requires : goal.read_back-requires
read_back-requires c =
    let written = c.write_delete_of-written in
    let start = c in
    let asked = of_identity (λ i. deletion i start.args.deleteid.now) (named start.args.id) in
    count_inside start.args.used asked start.args.buf.now _ _ written.ensures.answer written.auto.buf

pub returns : goal.returns
returns c =
    let written = c.write_delete_of-written in
    let after : AllBytes written.new.buf = record { below = λ k. search rules } in
    read_back_holds _ _ _ _ _ after written.result written.ensures.answer written.ensures.buffer c.read_back.ensures.result_value c.read_back.ensures.inside
