-- `tlv::step_value` meets its contract. The header is whole, so that 32 bytes stand before the value.
use borrow.Author.Tests.{leb-true, leb-false}
use mathlib.Core.Path.{sym, ◌∙◌}
use Prim.Native.Nat.{◌-◌, ◌≤◌}
use native.Mathlib.Omega.{arith}
use lib.ListN.{length}
use Rattle.tlv.specs.Found.{header_found}
use Rattle.tlv.proofs.Rows.{value_cut, value_differs, value_agrees}
use Rattle.tlv.proofs.step_value.Goals as goal
use Rattle.tlv.proofs.step_value.Goals.{Else-not-value_fits}

pub overflow_sub-left : goal.overflow_sub-left
overflow_sub-left c = (header_found c.args.s.now c.args.h c.requires).0

-- the value lies inside
inside : (c : Else-not-value_fits) → (32 ≤ length c.args.s.now) × (c.args.h.length ≤ length c.args.s.now - 32)
inside c =
    let b = c in
    ((header_found b.args.s.now b.args.h b.requires).0, leb-true _ _ (sym c.value_fits.ensures ∙ c.if-not-value_fits.false))

pub returns-then-not-value_fits : goal.returns-then-not-value_fits
returns-then-not-value_fits c =
    let b = c in
    value_cut b.args.s.now b.args.h b.requires (leb-false _ _ (sym c.value_fits.ensures ∙ c.if-not-value_fits.true))

pub overflow_add-end : goal.overflow_add-end
overflow_add-end c = omega (arith, (inside c).0, (inside c).1)

pub slice_bounds-xxh64-end : goal.slice_bounds-xxh64-end
slice_bounds-xxh64-end c = omega (arith, (inside c).0, (inside c).1)

pub returns-then-h-xxh64 : goal.returns-then-h-xxh64
returns-then-h-xxh64 c =
    let b = c in
    value_differs b.args.s.now b.args.h b.requires (inside (goal.at.returns-then-h-xxh64 c).Else-not-value_fits).1 _ c.xxh64.ensures c.if-h-xxh64.true

pub returns : goal.returns
returns c =
    let b = c in
    value_agrees b.args.s.now b.args.h b.requires (inside (goal.at.returns c).Else-not-value_fits).1 _ c.xxh64.ensures c.if-h-xxh64.false
