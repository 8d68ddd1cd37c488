-- `explanation::first_version` meets its contract: so far no record passed the test.
use native.Mathlib.Omega.{arith}
use mathlib.Core.Path.{sym, ◌∙◌}
use Rattle.identifier.specs.Identity.{identity}
use Rattle.lookup_records.specs.Walk.{walk_on}
use Rattle.lookup_records.specs.Passes.{starts, ends}
use Rattle.explanation.specs.Reasons.{first_where, holds}
use Rattle.explanation.proofs.Searches.{found_here, not_here, holds_seen}
use Rattle.explanation.proofs.first_version.Goals as goal

pub loop-at-init : goal.loop-at-init
loop-at-init c = starts _ _ c.requires

pub returns-then-holds : goal.returns-then-holds
returns-then-holds c =
    let b = c in
    let l = c.loop-at in
    let v = c.visit-v in
    let walked = walk_on _ _ _ v.result l.invariant.checked (omega arith) v.ensures in
    found_here (holds (identity b.args.ulid.now b.args.bucket.now b.args.object.now)) _ _ _ l.invariant v.result walked
    (holds_seen _ _ v.result walked _ ∙ sym c.holds.ensures ∙ c.if-holds.true)

pub loop-at-smaller : goal.loop-at-smaller
loop-at-smaller c =
    let l = c.loop-at in
    let v = c.visit-v in
    let walked = walk_on _ _ _ v.result l.invariant.checked (omega arith) v.ensures in
    omega (arith, walked.forward, walked.inside)

pub loop-at-preserved : goal.loop-at-preserved
loop-at-preserved c =
    let b = c in
    let l = c.loop-at in
    let v = c.visit-v in
    let walked = walk_on _ _ _ v.result l.invariant.checked (omega arith) v.ensures in
    not_here (holds (identity b.args.ulid.now b.args.bucket.now b.args.object.now)) _ _ _ l.invariant v.result walked
    (holds_seen _ _ v.result walked _ ∙ sym c.holds.ensures ∙ c.if-holds.false)

pub returns : goal.returns
unfolding first_where
returns c = sym (ends _ _ _ c.loop-at.invariant (omega arith))
