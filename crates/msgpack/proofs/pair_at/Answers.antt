-- `msgpack::pair_at` meets its contract: the key is passed over, and then the value.
use Prim.Native.Nat.{◌+◌}
use mathlib.Core.Path.{sym}
use native.Mathlib.Omega.{arith}
use Rattle.std.proofs.lemmas.Result.{err_from_is_err_and}
use Rattle.msgpack.specs.Pairs.{pair_at}
use Rattle.msgpack.proofs.Maps.{fault_told}
use Rattle.msgpack.specs.Passages.{item_inside}
use Rattle.msgpack.proofs.pair_at.Goals as goal

pub pass_item-requires : goal.pass_item-requires
pass_item-requires c = c.head_at-h.ensures

pub returns-in_err-value : goal.returns-in_err-value
unfolding pair_at
returns-in_err-value c =
    let p = err_from_is_err_and c.from_residual.result c.from_residual.ensures.1 in
    rw (p.1, p.2) (rw (sym c.in_err-value.ensures) (fault_told c.in_err-value.field-0.0 _))

pub returns-in_err-next : goal.returns-in_err-next
unfolding pair_at
returns-in_err-next c =
    let p = err_from_is_err_and c.from_residual-in_err-next.result c.from_residual-in_err-next.ensures.1 in
    rw (p.1, p.2) (rw (sym c.in_ok-value.ensures, sym c.in_err-next.ensures) (fault_told c.in_err-next.field-0.0 _))

pub overflow_add-value : goal.overflow_add-value
overflow_add-value c = omega (arith, item_inside _ c.args.at c.args.s.now _ (sym c.in_ok-value.ensures))

pub overflow_add-next : goal.overflow_add-next
overflow_add-next c = omega (arith, item_inside _ (c.args.at + c.in_ok-value.field-0) c.args.s.now _ (sym c.in_ok-next.ensures))

pub returns : goal.returns
unfolding pair_at
returns c = rw (sym c.in_ok-value.ensures, sym c.in_ok-next.ensures, c.code_at-code.ensures)
