-- `capi_pack::scan::find` meets its contract. The invariant: what the search from the place i on finds is what the whole finds.
use mathlib.Core.Path.{◌≡◌, sym, ◌∙◌}
use Prim.Native.Nat.{suc, ◌+◌, ◌-◌, ◌/◌}
use native.Mathlib.Omega.{arith}
use lib.ListN.{length}
use Rattle.pack.specs.Search.{first_here, first_later, first_nowhere}
use Rattle.capi_pack.specs.Search.{hash_told}
use Rattle.capi_pack.proofs.scan.find.Goals as goal

pub loop-i-init : goal.loop-i-init
loop-i-init c =
    let told = c.args.told.now in
    let all : length told / 4 - 0 ≡ length told / 4 = omega arith in
    (omega arith, rw all)

pub bounds-told-i : goal.bounds-told-i
bounds-told-i c = omega arith

pub returns-then-told-i : goal.returns-then-told-i
returns-then-told-i c =
    let b = c in
    let l = c.loop-i in
    let told = b.args.told.now in
    let here = first_here (hash_told told) b.args.hash (length told / 4) l.i (omega arith) c.if-told-i.true in
    rw (← l.invariant.1, here) (omega arith)

pub loop-i-smaller : goal.loop-i-smaller
loop-i-smaller c = omega arith

pub loop-i-preserved : goal.loop-i-preserved
loop-i-preserved c =
    let b = c in
    let l = c.loop-i in
    let told = b.args.told.now in
    let later = first_later (hash_told told) b.args.hash (length told / 4) l.i (omega arith) c.if-told-i.false in
    let place : l.i + 1 ≡ suc l.i = omega arith in
    (omega arith, rw place (sym later ∙ l.invariant.1))

pub returns : goal.returns
returns c =
    let l = c.loop-i in
    let told = c.args.told.now in
    let nowhere = first_nowhere (hash_told told) c.args.hash (length told / 4) l.i (omega arith) in
    rw (← l.invariant.1, nowhere)
