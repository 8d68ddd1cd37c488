-- `tlv::step_front` meets its contract. A step is what the header is found to be, and then the value.
use mathlib.Core.Path.{sym, ◌∙◌}
use Rattle.std.proofs.lemmas.Result.{err_from_is_err_and}
use Rattle.tlv.specs.Found.{step_of_header, step_of_fault}
use Rattle.tlv.proofs.step_front.Goals as goal

pub step_value-requires : goal.step_value-requires
step_value-requires c = sym c.in_ok-h.ensures

pub returns : goal.returns
returns c =
    let b = c in
    c.step_value.ensures ∙ sym (step_of_header b.args.s.now b.requires _ (sym c.in_ok-h.ensures))

pub returns-in_err-h : goal.returns-in_err-h
returns-in_err-h c =
    let p = err_from_is_err_and c.from_residual.result c.from_residual.ensures.1 in
    rw (p.1, p.2) (sym (step_of_fault c.args.s.now c.requires _ (sym c.in_err-h.ensures)))
