-- `capi_pack_list::fill` meets its contract: what the whole leaves is what the rest leaves from here.
use Prim.Native.Nat.{◌<◌}
use native.Mathlib.Omega.{arith}
use Rattle.slices.specs.Bytes.{AllBytes}
use Rattle.pack_list.specs.Walks.{walk_start}
use Rattle.capi_pack_list.proofs.ListWords.{count_few, starts, not_missing, goes_on, ends}
use Rattle.capi_pack_list.proofs.fill.Goals as goal
use Rattle.capi_pack_list.proofs.fill.Goals.{After-next_entry}

pub loop-i-init : goal.loop-i-init
loop-i-init c =
    let a = c in
    starts _ a.args.list.entries (walk_start _ a.args.list a.requires.0) _

more : (c : After-next_entry) → c.loop-i.i < c.args.list.entries.count
more c = omega arith

bytes : (c : After-next_entry) → AllBytes c.args.primary.now
bytes c = record { below = λ k. (c.type_inv.primary k).fits }

pub shape_of-told-in_default : goal.shape_of-told-in_default
shape_of-told-in_default c = c.loop-i.invariant.long

pub returns-in_default : goal.returns-in_default
returns-in_default c =
    let d = c in
    let next = d.next_entry in
    absurd
    (not_missing _ _ _ d.requires.1 _ _ _ d.loop-i.invariant (more (goal.at.returns-in_default d).After-next_entry) next.result next.ensures.result_value next.ensures.inside c.in_default.is)

pub overflow_mul-i : goal.overflow_mul-i
overflow_mul-i c =
    let d = c in
    omega (arith, more (goal.at.overflow_mul-i d).After-next_entry, count_few _ (bytes (goal.at.overflow_mul-i d).After-next_entry) d.args.list d.requires.0)

pub loop-i-preserved : goal.loop-i-preserved
loop-i-preserved c =
    let e = c in
    let d = e in
    let next = d.next_entry in
    goes_on _ _ _ d.requires.1 _ _ _ d.loop-i.invariant (more (goal.at.loop-i-preserved d).After-next_entry) next.result next.ensures.result_value next.ensures.inside _ e.in-Some.is _
    c.store.ensures.told_after

pub shape_of-told : goal.shape_of-told
shape_of-told c = c.loop-i.invariant.long

pub returns : goal.returns
returns c =
    let l = c in
    ends _ _ _ l.requires.1 _ _ _ l.loop-i.invariant (omega arith)
