-- `lookup_records::role_between` meets its contract: what was read of the record tells what it is.
use mathlib.Core.Path.{sym, ap, ◌∙◌}
use Rattle.slices.specs.Places.{part_at}
use Rattle.refusals.specs.Limit.{pack_limit}
use Rattle.records.specs.Answers.{answer_of}
use Rattle.current_version.specs.Current.{is_looked_at}
use Rattle.lookup_records.specs.Answers.{role_in}
use Rattle.lookup_records.proofs.Places.{role_inside, other_inside, unreadable_inside}
use Rattle.lookup_records.proofs.Roles.{role_skipped, role_kept, role_read, role_there}
use Rattle.lookup_records.proofs.role_between.Goals as goal

pub returns-then-tag-skipped-clause-result_value : goal.returns-then-tag-skipped-clause-result_value
unfolding is_looked_at
returns-then-tag-skipped-clause-result_value c = role_skipped pack_limit c.args.tag _ c.args.skipped c.if-tag-skipped.true

pub returns-then-tag-skipped-clause-inside : goal.returns-then-tag-skipped-clause-inside
unfolding is_looked_at
returns-then-tag-skipped-clause-inside c = other_inside _ _

pub returns-in-Ok-clause-result_value : goal.returns-in-Ok-clause-result_value
unfolding is_looked_at
returns-in-Ok-clause-result_value c =
    let b = c in
    let s = b.args.pack.now in
    let kept = role_kept pack_limit b.args.tag _ b.args.skipped c.if-tag-skipped.false in
    let ensured = c.read.ensures in
    let given = c.in-Ok.is in
    let read = sym (ap (answer_of s) given) ∙ ensured.result_value in
    let role-is = role_there s c.in-Ok.r ∙ role_read pack_limit b.args.tag _ kept.0 _ _ read in
    ap (role_in s) c.by_kind.ensures ∙ role-is ∙ sym kept.1

pub returns-in-Ok-clause-inside : goal.returns-in-Ok-clause-inside
unfolding is_looked_at
returns-in-Ok-clause-inside c =
    let b = c in
    let s = b.args.pack.now in
    let kept = role_kept pack_limit b.args.tag (part_at s b.args.value) b.args.skipped c.if-tag-skipped.false in
    let ensured = c.read.ensures in
    let given = c.in-Ok.is in
    let read = sym (ap (answer_of s) given) ∙ ensured.result_value in
    let role-is = role_there s c.in-Ok.r ∙ role_read pack_limit b.args.tag (part_at s b.args.value) kept.0 _ _ read in
    rw c.by_kind.ensures (role_inside s b.args.value b.args.tag _ (ensured.inside.places _ given) read role-is)

pub returns-in-Err-clause-result_value : goal.returns-in-Err-clause-result_value
unfolding is_looked_at
returns-in-Err-clause-result_value c =
    let b = c in
    let kept = role_kept pack_limit b.args.tag _ b.args.skipped c.if-tag-skipped.false in
    role_read pack_limit b.args.tag _ kept.0 _ _ (c.in-Err.ensures.result_value) ∙ sym kept.1

pub returns-in-Err-clause-inside : goal.returns-in-Err-clause-inside
unfolding is_looked_at
returns-in-Err-clause-inside c = unreadable_inside _ _ _
