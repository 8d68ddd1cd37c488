-- `pack_list::range_at` meets its contract: its two numbers in turn, 0 where one is missing.
use mathlib.Core.List.{List}
use Rattle.std.specs.Prelude.{None, Some}
use mathlib.Core.Path.{◌≡◌, refl, ap, subst, ◌∙◌}
use Prim.Native.Nat.{ℕ}
use lib.ListN.{get_or, drop}
use Rattle.msgpack.specs.Pairs.{PairsRead}
use Rattle.msgpack.specs.Views.{byte_view}
use Rattle.msgpack.specs.declared.Pairs.{Pairs}
use Rattle.value.specs.Fields.{natural_under}
use Rattle.pack_list.specs.Lists.{start_key, length_key}
use Rattle.pack_list.proofs.Keys.{range_codes, RangeAt, range_places, no_range_map}
use Rattle.pack_list.proofs.Ranges.{natural_read, range_is, no_range}
use borrow.Author.Tests.{not-false, not-true}
use Rattle.pack_list.proofs.range_at.Goals as goal
use Rattle.pack_list.proofs.range_at.Goals.{After-natural_under, After-natural_under-2, After-read_pairs-pairs, Else-not-pairs, In_ok-start, Start}

abbrev map_at : Start → List ℕ
map_at a = drop a.args.at a.args.part.now

pairs_read : (c : After-read_pairs-pairs) → PairsRead (map_at (goal.at.After-read_pairs-pairs c).Start) range_codes c.read_pairs-pairs.result
pairs_read c = subst (λ (m : List ℕ). PairsRead m range_codes c.read_pairs-pairs.result) c.from-map.ensures.result_value c.read_pairs-pairs.ensures

pub returns-then-not-pairs : goal.returns-then-not-pairs
returns-then-not-pairs c =
    let p = c in
    no_range _ (no_range_map _ _ (pairs_read (goal.at.returns-then-not-pairs p).After-read_pairs-pairs) p.requires (not-true _ c.if-not-pairs.true))

abbrev told : Else-not-pairs → Pairs
told c = c.read_pairs-pairs.result

pairs_read-2 : (c : Else-not-pairs) → PairsRead (map_at (goal.at.Else-not-pairs c).Start) range_codes c.read_pairs-pairs.result
pairs_read-2 c = subst (λ (m : List ℕ). PairsRead m range_codes c.read_pairs-pairs.result) c.from-map.ensures.result_value c.read_pairs-pairs.ensures

-- where the values stand
places_are : (c : Else-not-pairs)
    → RangeAt (map_at (goal.at.Else-not-pairs c).Start) (told c).places (told c).repeated
places_are c =
    let p = c in
    range_places _ _ (pairs_read-2 p) p.requires (not-false _ c.if-not-pairs.false)

abbrev at_start_lem : After-natural_under → Start
at_start_lem c = (goal.at.After-natural_under c).Start

pairs_read-3 : (c : After-natural_under) → PairsRead (map_at (goal.at.After-natural_under c).Start) range_codes c.read_pairs-pairs.result
pairs_read-3 c = subst (λ (m : List ℕ). PairsRead m range_codes c.read_pairs-pairs.result) c.from-map.ensures.result_value c.read_pairs-pairs.ensures

places_are-2 : (c : After-natural_under)
    → RangeAt (map_at (goal.at.After-natural_under c).Start) (told (goal.at.After-natural_under c).Else-not-pairs).places (told (goal.at.After-natural_under c).Else-not-pairs).repeated
places_are-2 c =
    let p = c in
    range_places _ _ (pairs_read-3 p) p.requires (not-false _ c.if-not-pairs.false)

start_read : (c : After-natural_under) → natural_under byte_view start_key (map_at (at_start_lem c)) (Some 0) ≡ c.natural_under.result
start_read c =
    let e = c in
    natural_read start_key _ _ (get_or (told (goal.at.After-natural_under c).Else-not-pairs).places 0 0) _ (places_are-2 e).start e.from-map.ensures.result_value c.natural_under.ensures

pub returns-in_err-start : goal.returns-in_err-start
returns-in_err-start c =
    rw c.from_residual.ensures (range_is _ None _ _ (start_read (goal.at.returns-in_err-start c).After-natural_under ∙ c.in_err-start.was) refl refl)

pairs_read-4 : (c : In_ok-start) → PairsRead (map_at (goal.at.In_ok-start c).Start) range_codes c.read_pairs-pairs.result
pairs_read-4 c = subst (λ (m : List ℕ). PairsRead m range_codes c.read_pairs-pairs.result) c.from-map.ensures.result_value c.read_pairs-pairs.ensures

places_are-3 : (c : In_ok-start)
    → RangeAt (map_at (goal.at.In_ok-start c).Start) (told (goal.at.In_ok-start c).Else-not-pairs).places (told (goal.at.In_ok-start c).Else-not-pairs).repeated
places_are-3 c =
    let p = c in
    range_places _ _ (pairs_read-4 p) p.requires (not-false _ c.if-not-pairs.false)

start_read-2 : (c : In_ok-start) → natural_under byte_view start_key (map_at (at_start_lem (goal.at.In_ok-start c).After-natural_under)) (Some 0) ≡ c.natural_under.result
start_read-2 c =
    let e = c in
    natural_read start_key _ _ (get_or (told (goal.at.In_ok-start c).Else-not-pairs).places 0 0) _ (places_are-3 e).start e.from-map.ensures.result_value c.natural_under.ensures

start : (c : In_ok-start)
    → natural_under byte_view start_key (map_at (at_start_lem (goal.at.In_ok-start c).After-natural_under)) (Some 0) ≡ Some c.in_ok-start.start
start c = start_read-2 c ∙ c.in_ok-start.was

pairs_read-5 : (c : After-natural_under-2) → PairsRead (map_at (goal.at.After-natural_under-2 c).Start) range_codes c.read_pairs-pairs.result
pairs_read-5 c = subst (λ (m : List ℕ). PairsRead m range_codes c.read_pairs-pairs.result) c.from-map.ensures.result_value c.read_pairs-pairs.ensures

places_are-4 : (c : After-natural_under-2)
    → RangeAt (map_at (goal.at.After-natural_under-2 c).Start) (told (goal.at.After-natural_under-2 c).Else-not-pairs).places (told (goal.at.After-natural_under-2 c).Else-not-pairs).repeated
places_are-4 c =
    let p = c in
    range_places _ _ (pairs_read-5 p) p.requires (not-false _ c.if-not-pairs.false)

length_read_lem : (c : After-natural_under-2)
    → natural_under byte_view length_key (map_at (at_start_lem (goal.at.After-natural_under-2 c).After-natural_under)) (Some 0) ≡ c.natural_under-2.result
length_read_lem c =
    let e = c in
    natural_read length_key _ _ (get_or (told (goal.at.After-natural_under-2 c).Else-not-pairs).places 1 0) _ (places_are-4 e).size e.from-map.ensures.result_value c.natural_under-2.ensures

pub returns-in_err-len : goal.returns-in_err-len
returns-in_err-len c =
    let l = c in
    rw c.from_residual-in_err-len.ensures
    (range_is _ (Some _) None _ (start (goal.at.returns-in_err-len l).In_ok-start) (length_read_lem (goal.at.returns-in_err-len l).After-natural_under-2 ∙ c.in_err-len.was) refl)

pub returns : goal.returns
returns c =
    let k = c in
    let l = k in
    let e = l in
    range_is _ (Some _) (Some _) _ (start (goal.at.returns l).In_ok-start) (length_read_lem (goal.at.returns l).After-natural_under-2 ∙ k.in_ok-len.was) (places_are (goal.at.returns e).Else-not-pairs).repeats
