-- `lookup_records::has_identifier` meets its contract: the ULID is compared first.
use borrow.Author.Tests.{not-true, not-false}
use Rattle.lookup_records.proofs.Comparisons.{other_ulid, same_ulid}
use Rattle.std.proofs.Common.{ap, not}
use Rattle.lookup_records.proofs.has_identifier.Goals as goal

pub returns-then-not-same_bytes : goal.returns-then-not-same_bytes
returns-then-not-same_bytes c =
    let b = c in
    let differs = not-true _ (rw (c.same_bytes.ensures, c.part.ensures.result_value) at (ap not c.if-not-same_bytes.true)) in
    other_ulid b.args.pack.now b.args.t b.args.ulid.now b.args.bucket.now b.args.object.now differs

pub returns : goal.returns
returns c =
    let k = c in
    let b = k in
    let same = not-false _ (rw (k.same_bytes.ensures, k.part.ensures.result_value) at (ap not k.if-not-same_bytes.false)) in
    rw c.has_name.ensures
    (same_ulid b.args.pack.now b.args.t b.args.ulid.now b.args.bucket.now b.args.object.now same)
