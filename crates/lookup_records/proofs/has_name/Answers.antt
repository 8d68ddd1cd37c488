-- `lookup_records::has_name` meets its contract: the bucket is compared first.
use borrow.Author.Tests.{not-true, not-false}
use Rattle.lookup_records.proofs.Comparisons.{other_bucket, same_bucket}
use Rattle.std.proofs.Common.{ap, not}
use Rattle.lookup_records.proofs.has_name.Goals as goal

pub returns-then-not-same_bytes : goal.returns-then-not-same_bytes
returns-then-not-same_bytes c =
    let b = c in
    let differs = not-true _ (rw (c.same_bytes.ensures, c.part.ensures.result_value) at (ap not c.if-not-same_bytes.true)) in
    other_bucket b.args.pack.now b.args.t b.args.bucket.now b.args.object.now differs

pub returns : goal.returns
returns c =
    let b = c in
    let same = not-false _ (rw (c.same_bytes.ensures, c.part.ensures.result_value) at (ap not c.if-not-same_bytes.false)) in
    rw (c.same_bytes-2.ensures, c.part-2.ensures.result_value)
    (same_bucket b.args.pack.now b.args.t b.args.bucket.now b.args.object.now same)
