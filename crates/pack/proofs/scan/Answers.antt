-- The scan writes as many entries as it answers.
use borrow.Author.Tests.{le-leb}
use Rattle.std.proofs.Common.{◌≡◌, ◌∙◌, ap, length}
use Rattle.refusals.specs.Limit.{pack_limit}
use Rattle.pack.specs.Reading.{reading, counted}
use Rattle.pack.specs.Scan.{scanned, written}
use Rattle.pack.proofs.Writes.{scan_writes}
use Rattle.pack.proofs.scan.Goals as goal

pub returns : goal.returns
returns c =
    let right : counted c.in_ok-n.n ≡ scanned (reading pack_limit c.args.pack.now) (length c.args.list.now)
    = rw (← c.in_ok-n.ensures, le-leb _ _ c.if-list-n.false) in
    let writes = scan_writes c.args.pack.now c.args.list.now c.in_ok-n.n (ap written right) in
    (right, c.fill.ensures ∙ writes.0)
