-- `records::read` meets its contract, by what is told of the value: its parts lie inside the pack too.
use Prim.Native.Nat.{ℕ}
use mathlib.Core.List.{List}
use mathlib.Core.Path.{◌≡◌, sym, ap, ◌∙◌}
use native.Mathlib.Omega.{arith}
use Rattle.std.proofs.lemmas.Result.{err_from_is_err_and}
use Rattle.slices.specs.Places.{part_at}
use Rattle.slices.specs.declared.Place.{Place}
use Rattle.refusals.specs.Limit.{pack_limit}
use Rattle.refusals.specs.Answers.{granted}
use Rattle.value.specs.Reading.{reading}
use Rattle.records.specs.Record.{read_record}
use Rattle.records.proofs.Readings.{told_inside, value_read}
use Rattle.records.proofs.read.Goals as goal
use Rattle.records.proofs.read.Goals.{In_ok-t}

abbrev pack : In_ok-t → List ℕ
pack c = c.args.pack.now

abbrev place : In_ok-t → Place
place c = c.args.value

told_is : (c : In_ok-t) → reading pack_limit (part_at (pack c) (place c)) ≡ granted c.in_ok-t.t
told_is c = rw c.part.ensures.result_value at (sym c.in_ok-t.ensures)

pub told_from-requires : goal.told_from-requires
told_from-requires c =
    let i = told_inside pack_limit (pack (goal.at.told_from-requires c).In_ok-t) (place (goal.at.told_from-requires c).In_ok-t) _ (told_is (goal.at.told_from-requires c).In_ok-t) in
    (omega (arith, i.primary.end), omega (arith, i.secondary.end))

pub by_told-requires : goal.by_told-requires
by_told-requires c = rw c.told_from.ensures (told_inside pack_limit (pack (goal.at.by_told-requires c).In_ok-t) (place (goal.at.by_told-requires c).In_ok-t) _ (told_is (goal.at.by_told-requires c).In_ok-t))

pub returns-clause-result_value : goal.returns-clause-result_value
returns-clause-result_value c =
    let k = c in
    value_read pack_limit (pack (goal.at.returns-clause-result_value k).In_ok-t) (place (goal.at.returns-clause-result_value k).In_ok-t) _ (told_is (goal.at.returns-clause-result_value k).In_ok-t) _ _ c.told_from.ensures _ c.by_told.ensures.result_value

pub returns-clause-inside : goal.returns-clause-inside
returns-clause-inside c = c.by_told.ensures.inside

pub returns-in_err-t-clause-result_value : goal.returns-in_err-t-clause-result_value
unfolding read_record
returns-in_err-t-clause-result_value c =
    let p = err_from_is_err_and c.from_residual.result c.from_residual.ensures.1 in
    rw (rw c.part.ensures.result_value at (sym c.in_err-t.ensures), p.1, p.2)
