-- `primary::read_version` meets its contract: each early answer is the definition's, given the steps before it.
use mathlib.Core.Bool.{true, false}
use Rattle.std.specs.Prelude.{None}
use mathlib.Core.Path.{◌≡◌, refl, sym, ◌∙◌}
use native.Mathlib.Omega.{arith}
use lib.ListN.{get_or}
use Rattle.std.proofs.lemmas.Result.{err_from_is_err_and}
use Rattle.msgpack.specs.Lookup.{last_value}
use Rattle.msgpack.specs.Pairs.{place_told}
use Rattle.msgpack.specs.PairLaws.{told_inside}
use Rattle.msgpack.specs.Views.{repeats, byte_view}
use Rattle.primary.specs.Parts.{version, version_keys, deleted_key}
use Rattle.primary.specs.Filling.{not_filled}
use Rattle.primary.proofs.Readings.{no_texts_are, flag_told, version_is, version_tested}
use Rattle.primary.proofs.Keys.{WholeMap, whole_map, no_whole_map, flags, version_identifier, flag_place, version_repeats, no_version_map}
use Rattle.primary.proofs.read_version.Goals as goal
use Rattle.primary.proofs.read_version.Goals.{In_ok-places}

mapped : (c : In_ok-places) → WholeMap c.args.part.now c.read_pairs-pairs.result c.in_ok-places.places
mapped c = whole_map _ _ _ c.read_pairs-pairs.ensures _ c.in_ok-places.ensures

-- where the flag stands
place : (c : In_ok-places) → last_value deleted_key c.args.part.now ≡ place_told (get_or c.in_ok-places.places 3 0)
place c = let m = mapped c in rw m.told (flag_place _ _ c.read_pairs-pairs.ensures _ m.whole_part m.is_map)

-- whether a key repeats
repeated : (c : In_ok-places) → flags c.read_pairs-pairs.result.repeated ≡ repeats byte_view version_keys c.args.part.now
repeated c = sym (version_repeats _ _ c.read_pairs-pairs.ensures _ (mapped c).whole_part)

pub returns-in_err-places-clause-result_value : goal.returns-in_err-places-clause-result_value
unfolding version
returns-in_err-places-clause-result_value c =
    let p = err_from_is_err_and c.from_residual.result c.from_residual.ensures.1 in
    rw (p.1, p.2)
    (no_whole_map _ _ _ c.read_pairs-pairs.ensures _ _ c.in_err-places.ensures (not_filled _ _)
    λ f w m. version_is _ f None _ _ (no_texts_are _ (no_version_map _ _ c.read_pairs-pairs.ensures _ w m)) refl refl)

pub texts_under-requires : goal.texts_under-requires
texts_under-requires c =
    let m = mapped c in
    (omega arith, rw m.told (version_identifier _ _ c.read_pairs-pairs.ensures _ m.whole_part m.is_map))

pub returns-in_default-clause-result_value : goal.returns-in_default-clause-result_value
returns-in_default-clause-result_value c =
    version_is _ (mapped (goal.at.returns-in_default-clause-result_value c).In_ok-places).filled None _ _ c.in_default.ensures.result_value refl refl

pub deleted_under-requires : goal.deleted_under-requires
deleted_under-requires c = told_inside deleted_key _ (get_or c.in_ok-places.places 3 0) (place (goal.at.deleted_under-requires c).In_ok-places)

pub returns-in_default-deleted_under-clause-result_value : goal.returns-in_default-deleted_under-clause-result_value
returns-in_default-deleted_under-clause-result_value c =
    let at = (goal.at.returns-in_default-deleted_under-clause-result_value c).In_ok-places in
    version_is _ (mapped at).filled _ None _ c.in-Some.ensures.result_value
    (c.in_default-deleted_under.ensures ∙ flag_told _ (get_or c.in_ok-places.places 3 0) (place at)) refl

pub returns-then-repeated-clause-result_value : goal.returns-then-repeated-clause-result_value
returns-then-repeated-clause-result_value c =
    let at = (goal.at.returns-then-repeated-clause-result_value c).In_ok-places in
    version_is _ (mapped at).filled _ _ true c.in-Some.ensures.result_value
    (c.in-Some-deleted_under.ensures ∙ flag_told _ (get_or c.in_ok-places.places 3 0) (place at)) (sym c.if-repeated.true ∙ repeated at)

pub returns-then-is_valid-clause-result_value : goal.returns-then-is_valid-clause-result_value
returns-then-is_valid-clause-result_value c =
    let at = (goal.at.returns-then-is_valid-clause-result_value c).In_ok-places in
    version_tested _ (mapped at).filled _ _ true c.in-Some.ensures.result_value
    (c.in-Some-deleted_under.ensures ∙ flag_told _ (get_or c.in_ok-places.places 3 0) (place at)) (sym c.if-repeated.false ∙ repeated at)
    (sym c.if-is_valid.true ∙ c.is_valid.ensures)

pub returns-else-is_valid-clause-result_value : goal.returns-else-is_valid-clause-result_value
returns-else-is_valid-clause-result_value c =
    let at = (goal.at.returns-else-is_valid-clause-result_value c).In_ok-places in
    version_tested _ (mapped at).filled _ _ false c.in-Some.ensures.result_value
    (c.in-Some-deleted_under.ensures ∙ flag_told _ (get_or c.in_ok-places.places 3 0) (place at)) (sym c.if-repeated.false ∙ repeated at)
    (sym c.if-is_valid.false ∙ c.is_valid.ensures)
