-- `demands::delete_version_then_look_up` meets its contract: what the struct names is asked for as a `vd`.
use borrow.Author.Rules.{rules}
use Rattle.slices.specs.Bytes.{AllBytes}
use Rattle.held_identifier.specs.Held.{named}
use Rattle.writer.specs.Writing.{deletion, of_identity}
use Rattle.demands.proofs.Calls.{asks_deletion, deletion_inside, deletion_holds}
use Rattle.demands.proofs.delete_version_then_look_up.Goals as goal

pub look_up-requires : goal.look_up-requires
look_up-requires c =
    let written = c.write_made-written in
    let start = c in
    let asked = of_identity (λ i. deletion i start.args.deleteid.now) (named start.args.id) in
    deletion_inside start.args.used asked start.args.buf.now _ written.ensures written.auto.buf

pub returns : goal.returns
returns c =
    let written = c.write_made-written in
    let start = c in
    let after : AllBytes written.new.buf = record { below = λ k. search rules } in
    deletion_holds _ _ _ _ _ _ _ (asks_deletion start.args.deleteid.now (named start.args.id)) after written.result
    (rw c.is_name.ensures at written.ensures) c.look_up.ensures.result_value c.look_up.ensures.inside
