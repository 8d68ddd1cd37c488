-- `msgpack_forms::short_container`, `short_item` and `short_items` meet their contracts together: the allowance falls where a container is entered.
use Prim.Native.Nat.{ℕ, ◌+◌, ◌-◌}
use mathlib.Core.Path.{◌≡◌, sym, ap, ◌∙◌}
use native.Mathlib.Nat.{add-zero}
use native.Mathlib.Omega.{arith}
use borrow.Author.Tests.{not-true, not-false}
use lib.ListN.{drop, length-drop}
use Rattle.std.specs.Prelude.{Err}
use Rattle.std.proofs.lemmas.Result.{err_from_is_err_and}
use borrow.Author.Tests.{eqb-true, eqb-false}
use Rattle.msgpack.specs.KindLaws.{same_index, container_kind, flat_kind}
use Rattle.msgpack.specs.declared.Kind.TheVariants.{Unused}
use Rattle.msgpack.specs.Items.{head_read, whole, passage_of, beyond}
use Rattle.msgpack.specs.Passages.{beyond_fault, fault_behind, fault_first, passed_from, first, onward, none_left, head_inside, items_exact}
use Rattle.msgpack_forms.specs.Items.{Form, form_at, short_item}
use Rattle.msgpack_forms.specs.ShortLaws.{not_short}
use Rattle.msgpack_forms.proofs.Places.{short_inside, container, deep_at, unused_at, flat_at, cut_at}
use Rattle.msgpack_forms.proofs.+short_container_short_item_short_items.Goals as goal
use Rattle.msgpack_forms.proofs.+short_container_short_item_short_items.Goals.{short_container-After-short_items, short_item-After-form_at-form}

pub short_container-returns-then-allowance-eq0 : goal.short_container-returns-then-allowance-eq0
short_container-returns-then-allowance-eq0 t c = let a = c in deep_at _ a.args.at a.args.s.now (head_read a.args.h) a.requires.0.is a.requires.1 a.requires.2 c.if-allowance-eq0.true

-- the container, by what passing over its items gave
passed_container : (t : ℕ) (c : short_container-After-short_items t)
    → beyond c.args.h.size (passage_of c.short_items.result) ≡ short_item c.args.allowance (drop c.args.at c.args.s.now)
passed_container t c =
    let r = c.requires in
    container _ c.args.at c.args.s.now (head_read c.args.h) r.0.is r.1 r.2 (omega (arith, c.if-allowance-eq0.false)) _ (c.items_of-items.ensures ∙ items_exact _ _ r.0.small) _
    c.short_items.ensures

pub short_container-overflow_add-result : goal.short_container-overflow_add-result
short_container-overflow_add-result t c =
    omega (arith, short_inside _ c.args.at c.args.s.now _ (sym (rw c.in_ok-n.was at (passed_container t (goal.at.short_container-overflow_add-result t c).After-short_items))))

pub short_container-returns : goal.short_container-returns
short_container-returns t c = rw c.in_ok-n.was at (passed_container t (goal.at.short_container-returns t c).After-short_items)

pub short_container-returns-in_err-n : goal.short_container-returns-in_err-n
short_container-returns-in_err-n t c =
    let p = err_from_is_err_and c.from_residual.result c.from_residual.ensures.1 in
    let f = c.in_err-n.field-0.0 in
    rw (p.1, p.2) (sym (beyond_fault c.args.h.size f) ∙ rw c.in_err-n.was at (passed_container t (goal.at.short_container-returns-in_err-n t c).After-short_items))

pub short_item-returns-then-eq : goal.short_item-returns-then-eq
short_item-returns-then-eq t c = unused_at _ c.args.at c.args.s.now (head_read c.args.h) c.requires.is (eqb-true _ _ (sym (c.if-eq.ensures ∙ same_index c.args.h.kind Unused)))

-- what the form says of the item at the place
form_is : (t : ℕ) (c : short_item-After-form_at-form t)
    → c.form_at-form.result.short ≡ (form_at (drop c.args.at c.args.s.now)).short
form_is t c = ap (λ (f : Form). f.short) c.form_at-form.ensures

pub short_item-returns-then-not-form : goal.short_item-returns-then-not-form
short_item-returns-then-not-form t c = sym (not_short _ _ (sym (form_is t (goal.at.short_item-returns-then-not-form t c).After-form_at-form) ∙ not-true _ c.if-not-form.true))

pub short_item-short_container-requires : goal.short_item-short_container-requires
short_item-short_container-requires t c =
    let d = c in
    (omega arith, (d.requires, container_kind _ c.in-Array.is, sym (form_is t (goal.at.short_item-short_container-requires t d).After-form_at-form) ∙ not-false _ c.if-not-form.false))

pub short_item-overflow_sub-s : goal.short_item-overflow_sub-s
short_item-overflow_sub-s t c =
    let d = c in
    let a = d in
    omega (arith, head_inside a.args.at a.args.s.now (head_read a.args.h) a.requires.is (eqb-false _ _ (sym (c.if-eq.ensures ∙ same_index c.args.h.kind Unused))))

pub short_item-returns-in_default : goal.short_item-returns-in_default
short_item-returns-in_default t c =
    let d = c in
    let a = d in
    let short = sym (form_is t (goal.at.short_item-returns-in_default t d).After-form_at-form) ∙ not-false _ c.if-not-form.false in
    flat_at _ a.args.at a.args.s.now (head_read a.args.h) a.requires.is (flat_kind _ c.in_default.not-Array c.in_default.not-Map) (eqb-false _ _ (sym (c.if-eq.ensures ∙ same_index c.args.h.kind Unused))) short
    (omega (arith, c.if-length-s.true, length-drop a.args.at a.args.s.now))

pub short_item-returns-in_default-2 : goal.short_item-returns-in_default-2
short_item-returns-in_default-2 t c =
    let d = c in
    let a = d in
    let short = sym (form_is t (goal.at.short_item-returns-in_default-2 t d).After-form_at-form) ∙ not-false _ c.if-not-form.false in
    cut_at _ a.args.at a.args.s.now (head_read a.args.h) a.requires.is (flat_kind _ c.in_default.not-Array c.in_default.not-Map) (eqb-false _ _ (sym (c.if-eq.ensures ∙ same_index c.args.h.kind Unused))) short
    (omega (arith, c.if-length-s.false, length-drop a.args.at a.args.s.now))

pub short_items-overflow_add-at : goal.short_items-overflow_add-at
short_items-overflow_add-at t c = omega (arith, short_inside _ c.loop.at c.args.s.now _ (sym c.in_ok-at.ensures))

pub short_items-loop-preserved : goal.short_items-loop-preserved
short_items-loop-preserved t c =
    let l = c.loop in
    let next : c.args.count - l.counter - 1 ≡ c.args.count - (l.counter + 1) = omega arith in
    (omega (arith, l.invariant.0), rw next at (l.invariant.1 ∙ onward _ l.at (c.args.count - l.counter) _ _ (omega arith) (sym c.in_ok-at.ensures)))

pub short_items-returns-in_err-at : goal.short_items-returns-in_err-at
short_items-returns-in_err-at t c =
    let l = c.loop in
    let p = err_from_is_err_and c.from_residual.result c.from_residual.ensures.1 in
    let f = c.in_err-at.field-0.0 in
    let left = c.args.count - l.counter in
    rw (p.1, p.2)
    (sym (fault_behind _ _ f
    (l.invariant.1 ∙ ap (beyond l.at) (first _ left _ (passage_of (Err f)) (omega arith) (sym c.in_err-at.ensures) ∙ fault_first f _) ∙ beyond_fault l.at f)))

pub short_items-overflow_sub-result : goal.short_items-overflow_sub-result
short_items-overflow_sub-result t c = c.loop.invariant.0

pub short_items-returns : goal.short_items-returns
short_items-returns t c =
    let l = c.loop in
    sym (passed_from _ l.at _ (l.invariant.1 ∙ ap (beyond l.at) (none_left _ (c.args.count - l.counter) _ (omega arith)) ∙ ap whole (add-zero l.at)))
