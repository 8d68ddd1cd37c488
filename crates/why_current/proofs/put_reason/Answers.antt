-- `why_current::put_reason` meets its contract. Each reason has its words, and room for them.
use Rattle.why_current.proofs.Rows.{older_put, repeated_put, removed_put, marker_put, current_put}
use Rattle.why_current.proofs.put_reason.Goals as goal

pub returns-then-reason-eq-OLDER : goal.returns-then-reason-eq-OLDER
returns-then-reason-eq-OLDER c =
    older_put c.args.place c.args.ulid.now c.requires.1 c.args.reason c.if-reason-eq-OLDER.true c.requires.0 c.put-word.ensures c.put.ensures

pub returns-then-reason-eq-REPEATED : goal.returns-then-reason-eq-REPEATED
returns-then-reason-eq-REPEATED c =
    repeated_put c.args.place c.args.ulid.now c.requires.1 c.args.reason c.if-reason-eq-REPEATED.true c.put-word-then-reason-eq-REPEATED.ensures c.put_decimal.ensures

pub returns-then-reason-eq-REMOVED : goal.returns-then-reason-eq-REMOVED
returns-then-reason-eq-REMOVED c =
    removed_put c.args.place c.args.ulid.now c.requires.1 c.args.reason c.if-reason-eq-REMOVED.true c.put-word-then-reason-eq-REMOVED.ensures c.put_decimal-then-reason-eq-REMOVED.ensures

pub returns-then-reason-eq-CURRENT_MARKER : goal.returns-then-reason-eq-CURRENT_MARKER
returns-then-reason-eq-CURRENT_MARKER c =
    marker_put c.args.place c.args.ulid.now c.requires.1 c.args.reason c.if-reason-eq-CURRENT_MARKER.true c.put-then-reason-eq-CURRENT_MARKER.ensures

pub returns : goal.returns
returns c =
    current_put c.args.place c.args.ulid.now c.requires.1 c.args.reason c.if-reason-eq-OLDER.false c.if-reason-eq-REPEATED.false c.if-reason-eq-REMOVED.false c.if-reason-eq-CURRENT_MARKER.false c.put-2.ensures
