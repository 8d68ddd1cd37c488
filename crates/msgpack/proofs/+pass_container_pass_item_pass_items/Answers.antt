-- `msgpack::pass_container`, `pass_item` and `pass_items` meet their contracts together.
use Rattle.std.proofs.Common.{◌≡◌, ◌+◌, ◌-◌, ◌<◌, arith, sym, ap, ◌∙◌, length-drop, add-zero}
use Rattle.std.proofs.lemmas.Result.{err_from_is_err_and}
use Rattle.std.specs.Prelude.{Err}
use Rattle.msgpack.specs.Items.{head_read, whole, passage_of, beyond}
use Rattle.msgpack.specs.Formats.{kind_index, unused_kind}
use Rattle.msgpack.specs.KindLaws.{container_kind, flat_kind, used_kind}
use Rattle.msgpack.specs.PassingLaws.{too_deep_lem, unused, flat_whole, flat_cut}
use Rattle.msgpack.specs.Passages.{beyond_fault, fault_behind, fault_first, passed_from, first, onward, none_left, item_inside, head_inside, items_exact, container}
use Rattle.msgpack.proofs.+pass_container_pass_item_pass_items.Goals as goal

-- ---- a container

pub pass_container-returns-then-allowance-eq0 : goal.pass_container-returns-then-allowance-eq0
pass_container-returns-then-allowance-eq0 t c =
    let r = c.requires in
    too_deep_lem _ _ (head_read c.args.h) r.0.is r.1 c.if-allowance-eq0.true

pub pass_container-returns-in_err-n : goal.pass_container-returns-in_err-n
pass_container-returns-in_err-n t c =
    let r = c.requires in
    let p = err_from_is_err_and c.from_residual.result c.from_residual.ensures.1 in
    let f = c.in_err-n.field-0.0 in
    rw (p.1, p.2)
    (sym (beyond_fault c.args.h.size f) ∙ container _ _ _ (head_read c.args.h) r.0.is r.1 (omega arith) _ (c.items_of.ensures ∙ items_exact _ _ r.0.small) (passage_of (Err f)) c.in_err-n.ensures)

pub pass_container-overflow_add-result : goal.pass_container-overflow_add-result
pass_container-overflow_add-result t c =
    let r = c.requires in
    let some : 0 < c.args.allowance = omega arith in
    let p = container _ _ _ (head_read c.args.h) r.0.is r.1 some _ (c.items_of.ensures ∙ items_exact _ _ r.0.small) (whole c.in_ok-n.n) c.in_ok-n.ensures in
    omega (arith, item_inside _ c.args.at c.args.s.now _ (sym p))

pub pass_container-returns : goal.pass_container-returns
pass_container-returns t c =
    let r = c.requires in
    container _ _ _ (head_read c.args.h) r.0.is r.1 (omega arith) _ (c.items_of.ensures ∙ items_exact _ _ r.0.small) (whole c.in_ok-n.n) c.in_ok-n.ensures

-- ---- an item

pub pass_item-returns-in-Unused : goal.pass_item-returns-in-Unused
pass_item-returns-in-Unused t c =
    let u : kind_index c.args.h.kind ≡ unused_kind = ap kind_index c.in-Unused.is in
    unused _ _ (head_read c.args.h) c.requires.is (omega arith) u

pub pass_item-pass_container-requires : goal.pass_item-pass_container-requires
pass_item-pass_container-requires t c = (omega arith, (c.requires, container_kind _ c.in-Array.is))

pub pass_item-overflow_sub-s : goal.pass_item-overflow_sub-s
pass_item-overflow_sub-s t c =
    omega (arith, head_inside c.args.at c.args.s.now (head_read c.args.h) c.requires.is (used_kind _ c.in_default.not-Unused))

pub pass_item-returns-in_default : goal.pass_item-returns-in_default
pass_item-returns-in_default t c =
    flat_whole
    _ _
    (head_read c.args.h)
    c.requires.is (flat_kind _ c.in_default.not-Array c.in_default.not-Map) (used_kind _ c.in_default.not-Unused)
    (omega (arith, length-drop c.args.at c.args.s.now))

pub pass_item-returns-in_default-2 : goal.pass_item-returns-in_default-2
pass_item-returns-in_default-2 t c =
    flat_cut
    _ _
    (head_read c.args.h)
    c.requires.is (flat_kind _ c.in_default.not-Array c.in_default.not-Map) (used_kind _ c.in_default.not-Unused)
    (omega (arith, length-drop c.args.at c.args.s.now))

-- ---- several items

pub pass_items-overflow_add-at : goal.pass_items-overflow_add-at
pass_items-overflow_add-at t c =
    omega (arith, item_inside c.args.allowance c.loop.at c.args.s.now c.in_ok-at.field-0 (sym c.in_ok-at.ensures))

pub pass_items-loop-preserved : goal.pass_items-loop-preserved
pass_items-loop-preserved t c =
    let l = c.loop in
    let next : c.args.count - l.counter - 1 ≡ c.args.count - (l.counter + 1) = omega arith in
    (omega (arith, l.invariant.0), rw next at (l.invariant.1 ∙ onward _ l.at (c.args.count - l.counter) _ _ (omega arith) (sym c.in_ok-at.ensures)))

pub pass_items-returns-in_err-at : goal.pass_items-returns-in_err-at
pass_items-returns-in_err-at t c =
    let l = c.loop in
    let p = err_from_is_err_and c.from_residual.result c.from_residual.ensures.1 in
    let f = c.in_err-at.field-0.0 in
    let left = c.args.count - l.counter in
    rw (p.1, p.2)
    (sym (fault_behind _ _ f
    (l.invariant.1 ∙ ap (beyond l.at) (first _ left _ (passage_of (Err f)) (omega arith) (sym c.in_err-at.ensures) ∙ fault_first f _) ∙ beyond_fault l.at f)))

pub pass_items-overflow_sub-result : goal.pass_items-overflow_sub-result
pass_items-overflow_sub-result t c = c.loop.invariant.0

pub pass_items-returns : goal.pass_items-returns
pass_items-returns t c =
    let l = c.loop in
    sym (passed_from _ l.at _ (l.invariant.1 ∙ ap (beyond l.at) (none_left _ (c.args.count - l.counter) _ (omega arith)) ∙ ap whole (add-zero l.at)))
