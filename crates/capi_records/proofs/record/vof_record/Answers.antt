-- `capi_records::record::vof_record` meets its contract: each arm is how the record at the place is told.
use mathlib.Core.Path.{sym, ap, ◌∙◌}
use Rattle.std.specs.Prelude.{Err}
use native.Mathlib.Omega.{arith}
use Rattle.records.specs.Answers.{place_of}
use Rattle.capi_records.proofs.Records.{is_record, refused_holds, alone_holds}
use Rattle.capi_records.proofs.record.vof_record.Goals as goal

pub returns-in-Ok : goal.returns-in-Ok
returns-in-Ok c =
    let read = c.read_at in
    c.tell.ensures _ (is_record c.args.pack.now c.args.at read.result read.ensures.result_value read.ensures.inside _ c.in-Ok.is)

pub returns-in-Err-Outside : goal.returns-in-Err-Outside
returns-in-Err-Outside c =
    let read = sym c.read_at.ensures.result_value ∙ ap (place_of c.args.pack.now) c.in-Err-Outside.is ∙ ap (λ f. place_of c.args.pack.now (Err f)) c.in-Err-Outside.field-0-is in
    rw c.answer.ensures (alone_holds _ _ _ _ 20 read (omega arith))

pub returns-in-Err-Pack : goal.returns-in-Err-Pack
returns-in-Err-Pack c =
    let read = sym c.read_at.ensures.result_value ∙ ap (place_of c.args.pack.now) c.in-Err-Pack.is ∙ ap (λ f. place_of c.args.pack.now (Err f)) c.in-Err-Pack.field-0-is in
    rw (c.answer-in-Err-Pack.ensures, c.from.ensures, c.place.ensures) (refused_holds _ _ _ _ _ _ read (omega (arith, c.from.ensures, c.from.type_inv)))

pub returns-in-Err-Record : goal.returns-in-Err-Record
returns-in-Err-Record c =
    let read = sym c.read_at.ensures.result_value ∙ ap (place_of c.args.pack.now) c.in-Err-Record.is ∙ ap (λ f. place_of c.args.pack.now (Err f)) c.in-Err-Record.field-0-is in
    rw (c.answer-in-Err-Record.ensures, c.from-in-Err-Record.ensures)
    (alone_holds _ _ _ _ _ read (omega (arith, c.from-in-Err-Record.ensures, c.from-in-Err-Record.type_inv)))
