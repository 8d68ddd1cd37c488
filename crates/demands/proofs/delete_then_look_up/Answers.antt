-- `demands::delete_then_look_up` meets its contract: what is asked for is a `vd`.
use borrow.Author.Rules.{rules}
use Rattle.std.specs.Prelude.{Some}
use mathlib.Core.Path.{refl}
use Rattle.slices.specs.Bytes.{AllBytes}
use Rattle.writer.specs.Writing.{version_delete}
use Rattle.demands.proofs.Calls.{deletion_inside, deletion_holds}
use Rattle.demands.proofs.delete_then_look_up.Goals as goal

pub look_up-requires : goal.look_up-requires
look_up-requires c =
    let written = c.write_part-written in
    let start = c in
    deletion_inside start.args.used (Some (version_delete start.args.part.now)) start.args.buf.now _ written.ensures written.auto.buf

pub returns : goal.returns
returns c =
    let written = c.write_part-written in
    let after : AllBytes written.new.buf = record { below = λ k. search rules } in
    deletion_holds _ _ _ _ _ _ _ refl after written.result (rw c.is_name.ensures at written.ensures)
    c.look_up.ensures.result_value c.look_up.ensures.inside
