-- `msgpack_forms::read_item` meets its contract: the item is passed over, and its form is that at the front.
use mathlib.Core.Path.{◌≡◌, sym, ap, ◌∙◌}
use Rattle.std.proofs.lemmas.Result.{err_from_is_err_and}
use Rattle.msgpack.specs.Formats.{kind_index, unused_kind}
use Rattle.msgpack.specs.Items.{Head, whole, pass_over}
use Rattle.msgpack_forms.proofs.Places.{whole_used, item_told_lem, item_fault}
use Rattle.msgpack_forms.proofs.read_item.Goals as goal
use Rattle.msgpack_forms.proofs.read_item.Goals.{In_ok-size}

-- the item was passed over
passed : (c : In_ok-size) → pass_over c.args.s.now ≡ whole c.in_ok-size.size
passed c = sym c.in_ok-size.ensures

pub form_at-form-requires : goal.form_at-form-requires
form_at-form-requires c =
    let is = c.head_at-h.ensures.is in
    (c.head_at-h.ensures, λ (u : kind_index c.head_at-h.result.kind ≡ unused_kind). whole_used _ _ _ (passed (goal.at.form_at-form-requires c).In_ok-size) (sym (ap (λ (h : Head). h.kind) is) ∙ u))

pub returns : goal.returns
returns c = item_told_lem c.args.s.now _ _ _ (passed (goal.at.returns c).In_ok-size) (ap (λ (h : Head). h.kind) c.head_at-h.ensures.is) c.form_at-form.ensures

pub returns-in_err-size : goal.returns-in_err-size
returns-in_err-size c =
    let p = err_from_is_err_and c.from_residual.result c.from_residual.ensures.1 in
    rw (p.1, p.2) (item_fault _ c.in_err-size.field-0.0 (sym c.in_err-size.ensures))
