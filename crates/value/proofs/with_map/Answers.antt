-- `value::with_map` meets its contract. The length is compared with the limit before anything is done with it.
use mathlib.Core.Path.{◌≡◌, sym, ◌∙◌}
use Rattle.std.specs.Prelude.{None, Some}
use borrow.Author.Tests.{le-leb, lt-leb, not-false, not-true}
use lib.ListN.{get_or}
use Rattle.refusals.specs.Limit.{pack_limit}
use Rattle.msgpack.specs.Views.{byte_view}
use Rattle.value.specs.Fields.{natural_under}
use Rattle.value.specs.Header.{length_key, compression_key, with_map}
use Rattle.value.proofs.Lookups.{natural_told, there_told, no_natural}
use Rattle.value.proofs.Keys.{SecondaryAt, secondary_places, no_secondary}
use Rattle.value.proofs.with_map.Goals as goal
use Rattle.value.proofs.with_map.Goals.{Else-not-pairs, In-Some, In-Some-natural_under}

-- where the map's values stand
places_are : (c : Else-not-pairs) → SecondaryAt c.args.map.now c.read_pairs-pairs.result.places c.read_pairs-pairs.result.repeated
places_are c = secondary_places _ _ c.read_pairs-pairs.ensures c.requires (not-false _ c.if-not-pairs.false)

places_are-2 : (c : In-Some) → SecondaryAt c.args.map.now c.read_pairs-pairs.result.places c.read_pairs-pairs.result.repeated
places_are-2 c = secondary_places _ _ c.read_pairs-pairs.ensures c.requires (not-false _ c.if-not-pairs.false)

length_read_lem : (c : In-Some) → natural_under byte_view length_key c.args.map.now None
    ≡ Some c.in-Some.l
length_read_lem c =
    natural_told _ _ (get_or c.read_pairs-pairs.result.places 0 0) (places_are-2 c).size None
    ∙ sym c.in-Some.ensures

places_are-3 : (c : In-Some-natural_under) → SecondaryAt c.args.map.now c.read_pairs-pairs.result.places c.read_pairs-pairs.result.repeated
places_are-3 c = secondary_places _ _ c.read_pairs-pairs.ensures c.requires (not-false _ c.if-not-pairs.false)

compression_read : (c : In-Some-natural_under)
    → natural_under byte_view compression_key c.args.map.now
    (Some c.args.t.primary.compression)
    ≡ Some c.in-Some-natural_under.compression
compression_read c =
    natural_told _ _ (get_or c.read_pairs-pairs.result.places 1 0) (places_are-3 c).compression (Some _)
    ∙ sym c.in-Some-natural_under.ensures

pub returns-then-not-pairs : goal.returns-then-not-pairs
unfolding with_map
returns-then-not-pairs c = rw (no_natural _ _ (no_secondary _ _ c.read_pairs-pairs.ensures c.requires (not-true _ c.if-not-pairs.true)) None)

pub returns-in_default : goal.returns-in_default
unfolding with_map
returns-in_default c = rw (natural_told _ _ (get_or c.read_pairs-pairs.result.places 0 0) (places_are (goal.at.returns-in_default c).Else-not-pairs).size None ∙ sym c.in_default.ensures)

pub returns-then-len-gt-PACK_LIMIT : goal.returns-then-len-gt-PACK_LIMIT
unfolding with_map
returns-then-len-gt-PACK_LIMIT c = rw (length_read_lem (goal.at.returns-then-len-gt-PACK_LIMIT c).In-Some, lt-leb _ pack_limit c.if-len-gt-PACK_LIMIT.true)

pub returns-in_default-natural_under : goal.returns-in_default-natural_under
unfolding with_map
returns-in_default-natural_under c =
    let l = c in
    rw (
      length_read_lem (goal.at.returns-in_default-natural_under l).In-Some,
      le-leb _ pack_limit l.if-len-gt-PACK_LIMIT.false,
      natural_told _ _ (get_or l.read_pairs-pairs.result.places 1 0) (places_are (goal.at.returns-in_default-natural_under l).Else-not-pairs).compression (Some _) ∙ sym c.in_default-natural_under.ensures,
    )

pub returns-then-repeated : goal.returns-then-repeated
unfolding with_map
returns-then-repeated c =
    let k = c in
    let l = k in
    rw (
      length_read_lem (goal.at.returns-then-repeated l).In-Some,
      le-leb _ pack_limit l.if-len-gt-PACK_LIMIT.false,
      compression_read (goal.at.returns-then-repeated k).In-Some-natural_under,
      (places_are (goal.at.returns-then-repeated l).Else-not-pairs).repeats ∙ c.if-repeated.true,
    )

pub returns : goal.returns
unfolding with_map
returns c =
    let k = c in
    let l = k in
    rw (
      length_read_lem (goal.at.returns l).In-Some,
      le-leb _ pack_limit l.if-len-gt-PACK_LIMIT.false,
      compression_read (goal.at.returns k).In-Some-natural_under,
      (places_are (goal.at.returns l).Else-not-pairs).repeats ∙ c.if-repeated.false,
      there_told _ _ (get_or l.read_pairs-pairs.result.places 2 0) (places_are (goal.at.returns l).Else-not-pairs).encryption,
    )
