-- `capi_pack::scan::vof_scan` meets its contract: each arm is how the check's outcome answers.
use mathlib.Core.Path.{ap}
use native.Mathlib.Omega.{arith}
use Rattle.pack.specs.Reading.{outcome_of}
use Rattle.capi_pack.proofs.Scans.{scan_refused, scan_short, scan_filled}
use Rattle.capi_pack.proofs.scan.vof_scan.Goals as goal

pub returns-then-told-n : goal.returns-then-told-n
returns-then-told-n c =
    let checked = c.check in
    let e = scan_short _ _ checked.result checked.ensures _ c.in-Ok.is (omega arith) in
    rw c.answer.ensures (record { answer = e.0; told = e.1 })

pub returns-else-told-n : goal.returns-else-told-n
returns-else-told-n c =
    let checked = c.check in
    let e = scan_filled _ _ checked.result checked.ensures _ c.in-Ok.is (omega arith) in
    rw (c.answer-in-Ok.ensures, c.fill.ensures) (record { answer = e.0; told = e.1 })

pub returns-in-Err : goal.returns-in-Err
returns-in-Err c =
    let checked = c.check in
    let e = scan_refused _ _ checked.result checked.ensures _ _ (ap outcome_of c.in-Err.is) (omega (arith, c.from.ensures, c.from.type_inv)) in
    rw (c.answer-in-Err.ensures, c.from.ensures, c.place.ensures) (record { answer = e.0; told = e.1 })
