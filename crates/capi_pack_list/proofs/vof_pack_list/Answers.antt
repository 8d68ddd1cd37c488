-- `capi_pack_list::vof_pack_list` meets its contract: each arm is how what was read is told.
use mathlib.Core.Path.{ap}
use native.Mathlib.Omega.{arith}
use Rattle.slices.specs.Bytes.{AllBytes}
use Rattle.pack_list.specs.Answers.{reading_of}
use Rattle.capi_pack_list.proofs.ListWords.{list_refused, list_inside, list_short, list_filled}
use Rattle.capi_pack_list.proofs.vof_pack_list.Goals as goal
use Rattle.capi_pack_list.proofs.vof_pack_list.Goals.{After-read}

bytes : (c : After-read) → AllBytes c.args.primary.now
bytes c = record { below = λ k. (c.type_inv.primary k).fits }

pub returns-then-told-count : goal.returns-then-told-count
returns-then-told-count c =
    let k = c in
    let r = k in
    let e = list_short _ (bytes (goal.at.returns-then-told-count r).After-read) _ r.read.result r.read.ensures.result_value r.read.ensures.inside _ k.in-Ok.is (omega arith) in
    rw c.answer.ensures (record { answer = e.0; told = e.1 })

pub fill-requires : goal.fill-requires
fill-requires c =
    let k = c in
    let r = k in
    (list_inside _ (bytes (goal.at.fill-requires r).After-read) r.args.told.now r.read.result r.read.ensures.result_value r.read.ensures.inside _ k.in-Ok.is, omega arith)

pub returns-else-told-count : goal.returns-else-told-count
returns-else-told-count c =
    let filled = c in
    let k = filled in
    let r = k in
    let e = list_filled _ (bytes (goal.at.returns-else-told-count r).After-read) _ r.read.result r.read.ensures.result_value r.read.ensures.inside _ k.in-Ok.is (omega arith) in
    rw (c.answer-in-Ok.ensures, filled.fill.ensures) (record { answer = e.0; told = e.1 })

pub returns-in-Err : goal.returns-in-Err
returns-in-Err c =
    let k = c in
    let r = k in
    let e = list_refused _ (bytes (goal.at.returns-in-Err r).After-read) _ r.read.result r.read.ensures.result_value r.read.ensures.inside _ (ap (reading_of _) k.in-Err.is) (omega (arith, c.from.ensures, c.from.type_inv)) in
    rw (c.answer-in-Err.ensures, c.from.ensures) (record { answer = e.0; told = e.1 })
