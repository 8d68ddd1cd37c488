-- `truncation::scan_front` meets its contract: the scan of the front, and so of a cut.
use Rattle.std.proofs.Common.{◌≡◌, take, length}
use Rattle.refusals.specs.Limit.{pack_limit}
use Rattle.pack.specs.Reading.{reading}
use Rattle.pack.specs.Scan.{scanned_of, scanned, list_after}
use Rattle.truncation.proofs.Answers.{scanned_cut}
use Rattle.truncation.proofs.scan_front.Goals as goal

pub returns : goal.returns
returns c =
    let e : scanned_of c.scan.result ≡ scanned (reading pack_limit (take c.args.n c.args.pack.now)) (length c.args.list.now)
    = rw (← c.front.ensures.result_value) c.scan.ensures.0 in
    let f : c.scan.new.list ≡ list_after (reading pack_limit (take c.args.n c.args.pack.now)) c.args.list.now
    = rw (← c.front.ensures.result_value) c.scan.ensures.1 in
    (e, (f, λ accepted within. scanned_cut c.args.pack.now c.args.n (scanned_of c.scan.result) accepted within c.args.list.now c.scan.new.list e f))
