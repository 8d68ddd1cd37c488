-- `demands::write_pack_list_then_read` meets its contract: what is asked for is a `vr` part.
use borrow.Author.Rules.{rules}
use Rattle.slices.specs.Bytes.{AllBytes}
use Rattle.std.specs.Prelude.{Some}
use Rattle.writer.specs.Writing.{pack_list}
use Rattle.demands.proofs.Calls.{count_inside}
use Rattle.demands.proofs.ReadBacks.{read_back_holds}
use Rattle.demands.proofs.write_pack_list_then_read.Goals as goal

pub read_back-requires : goal.read_back-requires
read_back-requires c =
    let written = c.write_pack_list-written in
    let start = c in
    count_inside start.args.used (Some (pack_list start.args.part.now)) start.args.buf.now _ _ written.ensures.answer written.auto.buf

pub returns : goal.returns
returns c =
    let written = c.write_pack_list-written in
    let after : AllBytes written.new.buf = record { below = λ k. search rules } in
    read_back_holds _ _ _ _ _ after written.result written.ensures.answer written.ensures.buffer c.read_back.ensures.result_value c.read_back.ensures.inside
