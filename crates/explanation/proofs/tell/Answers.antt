-- `explanation::tell` meets its contract: there are as many lines as versions, and three words for each.
use mathlib.Core.Path.{◌∙◌}
use native.Mathlib.Omega.{arith}
use Rattle.refusals.specs.Limit.{pack_limit}
use Rattle.lookup_records.specs.Walk.{placed_from}
use Rattle.lookup.specs.Answers.{candidate_in}
use Rattle.explanation.proofs.Endings.{too_few, enough}
use Rattle.explanation.proofs.tell.Goals as goal

pub returns-then-told-n-clause-answer : goal.returns-then-told-n-clause-answer
returns-then-told-n-clause-answer c = (too_few _ _ _ _ _ _ _ c.count_versions-n.ensures (omega arith)).0

pub returns-then-told-n-clause-told : goal.returns-then-told-n-clause-told
returns-then-told-n-clause-told c =
    let s = c.args.pack.now in
    let told =
    too_few (placed_from pack_limit s 0) (candidate_in s c.args.found) c.args.bucket.now c.args.object.now c.args.told.now c.args.ulid c.count_versions-n.result
    c.count_versions-n.ensures (omega arith) in
    told.1

pub fill-requires : goal.fill-requires
fill-requires c = (c.requires, omega (arith, c.count_versions-n.ensures))

pub returns-clause-answer : goal.returns-clause-answer
returns-clause-answer c =
    let b = c in
    let counted = c.count_versions-n in
    let told = enough (placed_from pack_limit b.args.pack.now 0) (candidate_in b.args.pack.now b.args.found) b.args.bucket.now b.args.object.now b.args.told.now b.args.ulid counted.result counted.ensures (omega arith) in
    told.0

pub returns-clause-told : goal.returns-clause-told
returns-clause-told c =
    let b = c in
    let counted = c.count_versions-n in
    let told = enough (placed_from pack_limit b.args.pack.now 0) (candidate_in b.args.pack.now b.args.found) b.args.bucket.now b.args.object.now b.args.told.now b.args.ulid counted.result counted.ensures (omega arith) in
    c.fill.ensures ∙ told.1
