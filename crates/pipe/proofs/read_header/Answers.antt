-- `pipe::read_header` meets its contract: a header that is refused, and one whose value begins.
use mathlib.Core.List.{[]}
use mathlib.Core.Path.{◌≡◌, sym, ap, ◌∙◌}
use native.Mathlib.Omega.{arith}
use Rattle.xxh64.specs.Parts.{Hashing, hashing_of, fresh}
use Rattle.tlv.specs.Found.{found_header, number_of}
use Rattle.pipe.specs.Taking.{in_header, refusing, proceed, valued}
use Rattle.pipe.specs.States.{record_at}
use Rattle.pipe.proofs.Calls.{goes_on, header_refuses, header_passes}
use Rattle.pipe.proofs.read_header.Goals as goal

pub take_value-requires-clause-count_bound : goal.take_value-requires-clause-count_bound
unfolding hashing_of fresh
take_value-requires-clause-count_bound c =
    let none_yet : c.new.result.count ≡ 0 = ap (λ (h : Hashing). h.count) c.new.ensures in
    (omega arith, omega (arith, c.requires.0))

pub take_value-requires-clause-records_le_start : goal.take_value-requires-clause-records_le_start
take_value-requires-clause-records_le_start c = (c.requires.1, c.requires.2)

pub returns-in-Err : goal.returns-in-Err
returns-in-Err c =
    let s = c in
    let state = s.args.state in
    let g = record_at state (in_header []) in
    let fault = c.in-Err in
    let read = c.read in
    c.refuse.ensures
    ∙ ap (λ n. refusing n state.start) c.from.ensures
    ∙ header_refuses g state.header s.args.part.now s.args.taken (number_of fault.f) (sym read.ensures ∙ ap found_header fault.is)

pub returns-in-Ok : goal.returns-in-Ok
returns-in-Ok c =
    let s = c in
    let state = s.args.state in
    let g = record_at state (in_header []) in
    let passed = c.in-Ok in
    let read = c.read in
    c.take_value.ensures
    ∙ ap (λ (h : Hashing). proceed s.args.taken (valued g state.header h) (goes_on s.args.part.now)) c.new.ensures
    ∙ header_passes g state.header s.args.part.now s.args.taken passed.field-0 (sym read.ensures ∙ ap found_header passed.is)
