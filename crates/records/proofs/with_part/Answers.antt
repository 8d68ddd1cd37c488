-- `records::with_part` meets its contract: the part that is lent is the primary part, and what it tells is shifted by its start.
use mathlib.Core.Path.{ap}
use Rattle.std.proofs.lemmas.Result.{err_from_is_err_and}
use native.Mathlib.Omega.{arith}
use Rattle.records.specs.Answers.{shift_kind}
use Rattle.records.proofs.Places.{record_inside}
use Rattle.records.proofs.Readings.{part_refused, record_read, record_places}
use Rattle.records.proofs.with_part.Goals as goal

pub texts_from-identifier-requires : goal.texts_from-identifier-requires
texts_from-identifier-requires c =
    let b = c in
    let w = (record_places b.args.pack.now b.args.told b.args.tag _ (c.contents.ensures.result_value, c.contents.ensures.inside) _ _ c.in_ok-t.was b.requires).contents in
    (omega (arith, w.ulid.before), omega (arith, w.bucket.before), omega (arith, w.object.before))

pub kind_from-kind-requires : goal.kind_from-kind-requires
kind_from-kind-requires c =
    let k = c in
    let b = k in
    let w = (record_places b.args.pack.now b.args.told b.args.tag _ (k.contents.ensures.result_value, k.contents.ensures.inside) _ _ k.in_ok-t.was b.requires).contents in
    record { delete_id_lem = λ id e. omega (arith, (w.delete_id_lem _ (ap (shift_kind b.args.told.primary.start) e)).before) }

pub returns-clause-result_value : goal.returns-clause-result_value
returns-clause-result_value c =
    let k = c in
    let b = k in
    let given = k.in_ok-t.was in
    rw (c.kind_from-kind.ensures, c.texts_from-identifier.ensures)
    (record_read b.args.pack.now b.args.told b.args.tag _ (k.contents.ensures.result_value, k.contents.ensures.inside) _ _ given)

pub returns-clause-inside : goal.returns-clause-inside
returns-clause-inside c =
    let k = c in
    let b = k in
    let given = k.in_ok-t.was in
    rw (c.kind_from-kind.ensures, c.texts_from-identifier.ensures)
    (record_inside _ _ (record_places b.args.pack.now b.args.told b.args.tag _ (k.contents.ensures.result_value, k.contents.ensures.inside) _ _ given b.requires))

pub returns-in_err-t-clause-result_value : goal.returns-in_err-t-clause-result_value
returns-in_err-t-clause-result_value c =
    let b = c in
    let p = err_from_is_err_and c.from_residual.result c.from_residual.ensures.1 in
    rw (p.1, p.2) (part_refused b.args.pack.now b.args.told b.args.tag _ (c.contents.ensures.result_value, c.contents.ensures.inside) _ c.in_err-t.was)
