-- `pack_list::after` meets its contract: a whole item ends inside the part.
use Prim.Native.Nat.{◌+◌}
use Rattle.std.specs.Prelude.{ℕ, Result, Err}
use mathlib.Core.Path.{◌≡◌, sym, ap, ◌∙◌}
use native.Mathlib.Omega.{arith}
use lib.ListN.{drop, length-drop}
use Rattle.msgpack.specs.Items.{Passage, whole, passage_of, depth_allowed, pass_over}
use Rattle.msgpack.specs.declared.Fault.{Fault}
use Rattle.msgpack.specs.declared.Fault.TheVariants.{Cut, TooDeep}
use Rattle.msgpack.specs.PassingLaws.{bounded}
use Rattle.msgpack.specs.Views.{size_of}
use Rattle.pack_list.proofs.after.Goals as goal
use Rattle.pack_list.proofs.after.Goals.{In-Ok}

item_passed : (c : In-Ok) → whole c.in-Ok.n
    ≡ pass_over (drop c.args.at c.args.part.now)
item_passed c =
    let d = c in
    d.in-Ok.ensures ∙ ap pass_over d.from.ensures.result_value

pub overflow_add-result : goal.overflow_add-result
overflow_add-result c =
    let a = c.args in
    let taken = bounded depth_allowed (drop a.at a.part.now) _ (sym (item_passed (goal.at.overflow_add-result c).In-Ok)) in
    omega (arith, taken.some_byte, taken.within, length-drop a.at a.part.now)

pub returns-in-Ok : goal.returns-in-Ok
returns-in-Ok c = ap (λ (p : Passage). c.args.at + size_of p) (item_passed (goal.at.returns-in-Ok c).In-Ok)

-- where none was whole
nothing : (r : Result ℕ Fault) (f : Fault) → r ≡ Err f → size_of (passage_of r) ≡ 0
nothing r Cut e = rw e
nothing r TooDeep e = rw e

pub returns-in-Err : goal.returns-in-Err
returns-in-Err c =
    let e = ap size_of (c.pass_over.ensures ∙ ap pass_over c.from.ensures.result_value) in
    omega (arith, e, nothing _ _ c.in-Err.is)
