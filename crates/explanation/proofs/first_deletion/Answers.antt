-- `explanation::first_deletion` meets its contract: so far no record passed the test.
use native.Mathlib.Omega.{arith}
use mathlib.Core.Path.{sym, ◌∙◌}
use Rattle.identifier.specs.Identity.{identity}
use Rattle.lookup_records.specs.Walk.{walk_on}
use Rattle.current_version.specs.Current.{deletes}
use Rattle.lookup_records.specs.Passes.{starts, ends, names_seen}
use Rattle.explanation.specs.Reasons.{first_where}
use Rattle.explanation.proofs.Searches.{found_here, not_here}
use Rattle.explanation.proofs.first_deletion.Goals as goal

pub loop-at-init : goal.loop-at-init
loop-at-init c = starts _ _ c.requires

pub returns-then-names : goal.returns-then-names
returns-then-names c =
    let b = c in
    let l = c.loop-at in
    let v = c.visit-v in
    let walked = walk_on _ _ _ v.result l.invariant.checked (omega arith) v.ensures in
    found_here (deletes (identity b.args.ulid.now b.args.bucket.now b.args.object.now)) _ _ _ l.invariant v.result walked
    (names_seen _ _ v.result walked _ ∙ sym c.names.ensures ∙ c.if-names.true)

pub loop-at-smaller : goal.loop-at-smaller
loop-at-smaller c =
    let l = c.loop-at in
    let v = c.visit-v in
    let walked = walk_on _ _ _ v.result l.invariant.checked (omega arith) v.ensures in
    omega (arith, walked.forward, walked.inside)

pub loop-at-preserved : goal.loop-at-preserved
loop-at-preserved c =
    let b = c in
    let l = c.loop-at in
    let v = c.visit-v in
    let walked = walk_on _ _ _ v.result l.invariant.checked (omega arith) v.ensures in
    not_here (deletes (identity b.args.ulid.now b.args.bucket.now b.args.object.now)) _ _ _ l.invariant v.result walked
    (names_seen _ _ v.result walked _ ∙ sym c.names.ensures ∙ c.if-names.false)

pub returns : goal.returns
unfolding first_where
returns c = sym (ends _ _ _ c.loop-at.invariant (omega arith))
