-- `primary::read_delete` meets its contract: each early answer is the definition's, given the steps before it.
use mathlib.Core.Bool.{true, false}
use Rattle.std.specs.Prelude.{None}
use mathlib.Core.Path.{◌≡◌, refl, sym, ◌∙◌}
use native.Mathlib.Omega.{arith}
use lib.ListN.{get_or}
use Rattle.std.proofs.lemmas.Result.{err_from_is_err_and}
use Rattle.msgpack.specs.Lookup.{last_value}
use Rattle.msgpack.specs.Pairs.{place_told}
use Rattle.msgpack.specs.Views.{repeats, byte_view}
use Rattle.primary.specs.Parts.{version_delete, delete_id_key, version_delete_keys}
use Rattle.primary.specs.Filling.{not_filled}
use Rattle.primary.proofs.Places.{text_told, told_within}
use Rattle.primary.proofs.Readings.{no_texts_are, delete_is, delete_tested}
use Rattle.primary.proofs.Keys.{WholeMap, whole_map, no_whole_map, flags, delete_identifier, delete_id_place, delete_repeats, no_delete_map}
use Rattle.primary.proofs.read_delete.Goals as goal
use Rattle.primary.proofs.read_delete.Goals.{In_ok-places, else-is_valid-via-then-is_valid+else-is_ulid, else-is_valid-via-else-is_valid}

mapped : (c : In_ok-places) → WholeMap c.args.part.now c.read_pairs-pairs.result c.in_ok-places.places
mapped c = whole_map _ _ _ c.read_pairs-pairs.ensures _ c.in_ok-places.ensures

-- where the delete identifier stands
place : (c : In_ok-places) → last_value delete_id_key c.args.part.now ≡ place_told (get_or c.in_ok-places.places 3 0)
place c = let m = mapped c in rw m.told (delete_id_place _ _ c.read_pairs-pairs.ensures _ m.whole_part m.is_map)

-- whether a key repeats
repeated : (c : In_ok-places) → flags c.read_pairs-pairs.result.repeated ≡ repeats byte_view version_delete_keys c.args.part.now
repeated c = sym (delete_repeats _ _ c.read_pairs-pairs.ensures _ (mapped c).whole_part)

pub returns-in_err-places-clause-result_value : goal.returns-in_err-places-clause-result_value
unfolding version_delete
returns-in_err-places-clause-result_value c =
    let p = err_from_is_err_and c.from_residual.result c.from_residual.ensures.1 in
    rw (p.1, p.2)
    (no_whole_map _ _ _ c.read_pairs-pairs.ensures _ _ c.in_err-places.ensures (not_filled _ _)
    λ f w m. delete_is _ f None _ _ (no_texts_are _ (no_delete_map _ _ c.read_pairs-pairs.ensures _ w m)) refl refl)

pub texts_under-requires : goal.texts_under-requires
texts_under-requires c =
    let m = mapped c in
    (omega arith, rw m.told (delete_identifier _ _ c.read_pairs-pairs.ensures _ m.whole_part m.is_map))

pub returns-in_default-clause-result_value : goal.returns-in_default-clause-result_value
returns-in_default-clause-result_value c =
    delete_is _ (mapped (goal.at.returns-in_default-clause-result_value c).In_ok-places).filled None _ _ c.in_default.ensures.result_value refl refl

pub text_under-requires : goal.text_under-requires
text_under-requires c =
    told_within c.args.part.now 0 (omega arith) delete_id_key (get_or c.in_ok-places.places 3 0) (place (goal.at.text_under-requires c).In_ok-places)

pub returns-in_default-text_under-clause-result_value : goal.returns-in_default-text_under-clause-result_value
returns-in_default-text_under-clause-result_value c =
    let at = (goal.at.returns-in_default-text_under-clause-result_value c).In_ok-places in
    delete_is _ (mapped at).filled _ None _ c.in-Some.ensures.result_value
    (c.in_default-text_under.ensures.result_value ∙ text_told _ _ (get_or c.in_ok-places.places 3 0) (place at)) refl

pub returns-then-repeated-clause-result_value : goal.returns-then-repeated-clause-result_value
returns-then-repeated-clause-result_value c =
    let at = (goal.at.returns-then-repeated-clause-result_value c).In_ok-places in
    delete_is _ (mapped at).filled _ _ true c.in-Some.ensures.result_value
    (c.in-Some-text_under.ensures.result_value ∙ text_told _ _ (get_or c.in_ok-places.places 3 0) (place at)) (sym c.if-repeated.true ∙ repeated at)

pub returns-then-is_ulid-clause-result_value : goal.returns-then-is_ulid-clause-result_value
returns-then-is_ulid-clause-result_value c =
    let at = (goal.at.returns-then-is_ulid-clause-result_value c).In_ok-places in
    delete_tested _ (mapped at).filled _ _ true true c.in-Some.ensures.result_value
    (c.in-Some-text_under.ensures.result_value ∙ text_told _ _ (get_or c.in_ok-places.places 3 0) (place at)) (sym c.if-repeated.false ∙ repeated at)
    (sym c.if-is_valid.true ∙ c.is_valid.ensures) (sym c.if-is_ulid.true ∙ c.is_ulid.ensures)

pub returns-else-is_valid-clause-result_value : goal.returns-else-is_valid-clause-result_value
returns-else-is_valid-clause-result_value c =
    let at = (goal.at.returns-else-is_valid-clause-result_value c).In_ok-places in
    let text = c.in-Some-text_under.ensures.result_value ∙ text_told _ _ (get_or c.in_ok-places.places 3 0) (place at) in
    let once = sym c.if-repeated.false ∙ repeated at in
    elim c.else-is_valid.branch [
      | else-is_valid-via-then-is_valid+else-is_ulid w ↦ delete_tested _ (mapped at).filled _ _ true false c.in-Some.ensures.result_value text once
          (sym w.if-is_valid.true ∙ c.is_valid.ensures) (sym w.if-is_ulid.false ∙ w.is_ulid.ensures)
      | else-is_valid-via-else-is_valid w ↦ delete_tested _ (mapped at).filled _ _ false _ c.in-Some.ensures.result_value text once
          (sym w.if-is_valid.false ∙ c.is_valid.ensures) refl
    ]
