-- `primary::block_by` meets its contract: the part is whole, and the last `I` is read.
use mathlib.Core.Path.{◌≡◌, refl, ap, ◌∙◌}
use lib.ListN.{get_or}
use Rattle.std.proofs.lemmas.Result.{err_from_is_err_and}
use Rattle.msgpack.specs.Lookup.{missing, broken, last_value}
use Rattle.msgpack.specs.LookupLaws.{value_whole}
use Rattle.msgpack.specs.Pairs.{place_told}
use Rattle.msgpack.specs.PairLaws.{told_inside, told_found}
use Rattle.primary.specs.Parts.{identifier_key, block}
use Rattle.primary.specs.Filling.{not_filled}
use Rattle.primary.proofs.Readings.{block_is}
use Rattle.primary.proofs.Keys.{WholeMap, whole_map, no_whole_map, block_place, block_repeats_lem, no_block_map}
use Rattle.primary.proofs.block_by.Goals as goal
use Rattle.primary.proofs.block_by.Goals.{In_ok-found, Else-at-eq0}

mapped : (c : In_ok-found) → WholeMap c.args.part.now c.args.pairs c.in_ok-found.found
mapped c = whole_map _ _ _ c.requires.read _ c.in_ok-found.ensures

-- where the last `I` stands
place : (c : In_ok-found) → last_value identifier_key c.args.part.now ≡ place_told (get_or c.in_ok-found.found 0 0)
place c = let m = mapped c in rw m.told (block_place _ _ _ c.requires.read _ m.whole_part m.is_map)

pub returns-in_err-found-clause-result_value : goal.returns-in_err-found-clause-result_value
unfolding block
returns-in_err-found-clause-result_value c =
    let p = err_from_is_err_and c.from_residual.result c.from_residual.ensures.1 in
    rw (p.1, p.2)
    (no_whole_map _ _ _ c.requires.read _ _ c.in_err-found.ensures (not_filled _ _)
    λ f w m. block_is _ f broken (no_block_map _ _ _ c.requires.read _ w m) _ refl)

pub returns-then-at-eq0-clause-result_value : goal.returns-then-at-eq0-clause-result_value
returns-then-at-eq0-clause-result_value c =
    let at = goal.at.returns-then-at-eq0-clause-result_value c in
    block_is _ (mapped at.In_ok-found).filled missing (place at.In_ok-found ∙ ap place_told c.if-at-eq0.true) _ refl

pub identifier_at-requires : goal.identifier_at-requires
identifier_at-requires c =
    let p = place (goal.at.identifier_at-requires c).In_ok-found in
    (told_inside identifier_key _ (get_or c.in_ok-found.found 0 0) p, value_whole _ _ _ (p ∙ told_found _ c.if-at-eq0.false))

pub returns-clause-result_value : goal.returns-clause-result_value
returns-clause-result_value c =
    let at = goal.at.returns-clause-result_value c in
    let m = mapped at.In_ok-found in
    c.identifier_at.ensures.result_value
    ∙ block_is _ m.filled _ (place at.In_ok-found ∙ told_found _ c.if-at-eq0.false) _ (block_repeats_lem _ _ _ c.requires.read _ m.whole_part)
