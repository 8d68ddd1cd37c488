-- `pack_list::read_for` meets its contract: 16 and 17 as they are found, and then the list by its identifier and by what all its entries tell.
use Prim.Native.Nat.{ℕ}
use mathlib.Core.Bool.{true}
use mathlib.Core.List.{List, []}
use Rattle.std.specs.Prelude.{None, Some}
use mathlib.Core.Path.{◌≡◌, refl, sym, ap, ◌∙◌}
use native.Mathlib.Omega.{arith}
use lib.ListN.{get_or, drop}
use Rattle.msgpack.specs.Items.{WholeItem}
use Rattle.msgpack.specs.Lookup.{last_value, at_place}
use Rattle.msgpack.specs.Pairs.{place_told, PairsRead}
use Rattle.msgpack.specs.Views.{byte_view}
use Rattle.primary.specs.Parts.{fills}
use Rattle.primary.specs.Filling.{fills_is, fills_whole}
use Rattle.pack_list.specs.Lists.{entries_key, each_of, entry_at, entries_under}
use Rattle.pack_list.specs.Answers.{items_in, numbers_of}
use Rattle.pack_list.proofs.Keys.{list_codes, entries_place, list_repeats_lem, no_list_map}
use Rattle.pack_list.proofs.Entries.{value_at_lem, numbers_placed}
use Rattle.pack_list.proofs.Surveys.{all_surveyed, not_surveyed}
use Rattle.pack_list.proofs.Listing.{entries_broken, entries_told, items_told, repeats_told, refused_for, not_whole, no_entries_lem, list_for}
use borrow.Author.Tests.{not-false, not-true}
use Rattle.pack_list.proofs.read_for.Goals as goal
use Rattle.pack_list.proofs.read_for.Goals.{After-fills, After-places-1, After-read_block_beside-both, Else-not-fills, In-Some}

abbrev bytes : After-read_block_beside-both → List ℕ
bytes c = c.args.part.now

-- what one pass told of the list's map
pairs_read : (c : After-read_block_beside-both) → PairsRead (bytes c) list_codes c.read_block_beside-both.result.pairs
pairs_read c = c.read_block_beside-both.ensures.beside

pairs_read-2 : (c : After-fills) → PairsRead (bytes (goal.at.After-fills c).After-read_block_beside-both) list_codes c.read_block_beside-both.result.pairs
pairs_read-2 c = c.read_block_beside-both.ensures.beside

-- whether the part is one whole item
filled : (c : After-fills) → fills (bytes (goal.at.After-fills c).After-read_block_beside-both) ≡ c.fills.result
filled c = fills_is _ _ _ (pairs_read-2 c).passed c.fills.ensures

pub returns-then-not-fills : goal.returns-then-not-fills
returns-then-not-fills c = refused_for _ _ _ (not_whole _ (filled (goal.at.returns-then-not-fills c).After-fills ∙ c.if-not-fills.true))

pairs_read-3 : (c : Else-not-fills) → PairsRead (bytes (goal.at.Else-not-fills c).After-read_block_beside-both) list_codes c.read_block_beside-both.result.pairs
pairs_read-3 c = c.read_block_beside-both.ensures.beside

filled-2 : (c : Else-not-fills) → fills (bytes (goal.at.Else-not-fills c).After-read_block_beside-both) ≡ c.fills.result
filled-2 c = fills_is _ _ _ (pairs_read-3 c).passed c.fills.ensures

whole_part : (c : Else-not-fills) → fills (bytes (goal.at.Else-not-fills c).After-read_block_beside-both) ≡ true
whole_part c = filled-2 c ∙ c.if-not-fills.false

whole_item : (c : Else-not-fills) → WholeItem (bytes (goal.at.Else-not-fills c).After-read_block_beside-both)
whole_item c = record { size = _; is = fills_whole _ (whole_part c) }

pub returns-then-not-pairs : goal.returns-then-not-pairs
returns-then-not-pairs c =
    let w = c in
    refused_for _ _ _ (no_entries_lem _ (whole_part (goal.at.returns-then-not-pairs w).Else-not-fills)
    (entries_broken _ (no_list_map _ _ (pairs_read (goal.at.returns-then-not-pairs w).After-read_block_beside-both) (whole_item (goal.at.returns-then-not-pairs w).Else-not-fills) (not-true _ c.if-not-pairs.true))))

-- where the last `P` stands
abbrev in_whole : After-places-1 → Else-not-fills
in_whole c = (goal.at.After-places-1 c).Else-not-fills

abbrev pairs_at : After-places-1 → After-read_block_beside-both
pairs_at c = (goal.at.After-places-1 c).After-read_block_beside-both

abbrev place_at : After-places-1 → ℕ
place_at c = get_or (pairs_at c).read_block_beside-both.result.pairs.places 1 0

place : (c : After-places-1) → last_value entries_key (bytes (pairs_at c)) ≡ place_told (place_at c)
place c = entries_place _ _ (pairs_read (pairs_at c)) (whole_item (in_whole c)) (not-false _ c.if-not-pairs.false)

pub numbers_under-requires : goal.numbers_under-requires
numbers_under-requires c = (omega arith, value_at_lem entries_key _ _ (place (goal.at.numbers_under-requires c).After-places-1))

pub returns-in_default : goal.returns-in_default
returns-in_default c =
    let n = c in
    let p = n in
    let nothing = sym (ap (numbers_of (bytes (pairs_at (goal.at.returns-in_default c).After-places-1))) c.in_default.is) ∙ n.numbers_under.ensures.result_value in
    refused_for _ _ _ (no_entries_lem _ (whole_part (in_whole (goal.at.returns-in_default c).After-places-1)) (entries_told _ (place_at (goal.at.returns-in_default c).After-places-1) (place (goal.at.returns-in_default p).After-places-1) None nothing))

pub survey_entries-requires : goal.survey_entries-requires
survey_entries-requires c = let n = c in n.numbers_under.ensures.inside.whole _ c.in-Some.is

-- the items that the entries are
abbrev places_at : In-Some → After-places-1
places_at c = (goal.at.In-Some c).After-places-1

abbrev part_at : In-Some → List ℕ
part_at c = bytes (pairs_at (places_at c))

items_are : (c : In-Some) → Some (items_in (part_at c) c.in-Some.entries)
    ≡ at_place (Some []) (λ p. byte_view.items (drop p (drop 0 (part_at c)))) (place_told (place_at (places_at c)))
items_are c = c.in-Some.ensures.result_value

entries_are : (c : In-Some)
    → entries_under byte_view (part_at c) ≡ each_of (entry_at byte_view) (items_in (part_at c) c.in-Some.entries)
entries_are c = entries_told _ (place_at (places_at c)) (place (places_at c)) (Some _) (items_are c)

pub returns-in_default-survey_entries : goal.returns-in_default-survey_entries
returns-in_default-survey_entries c =
    let v = c in
    let k = v in
    let nothing = v.in_default-survey_entries.ensures.result_value in
    refused_for _ _ _ (no_entries_lem _ (whole_part (in_whole (places_at (goal.at.returns-in_default-survey_entries c).In-Some))) (entries_are (goal.at.returns-in_default-survey_entries k).In-Some ∙ not_surveyed _ _ nothing))

pub returns : goal.returns
returns c =
    let o = c in
    let v = o in
    let k = v in
    let p = places_at (goal.at.returns c).In-Some in
    let b = (pairs_at p).read_block_beside-both in
    let n = k.numbers_under in
    let e = k.in-Some.is in
    let tells = all_surveyed _ _ _ _ o.in-Some-survey_entries.ensures.result_value in
    let repeated = repeats_told _ (place_at p) (place p) (Some _) (items_are (goal.at.returns k).In-Some) in
    let listed = items_told _ (place_at p) (place p) (Some _) (items_are (goal.at.returns k).In-Some) in
    let flag = list_repeats_lem _ _ (pairs_read (pairs_at p)) (whole_item (in_whole p)) in
    let placed = numbers_placed entries_key (part_at (goal.at.returns c).In-Some) 0 (place_at p) (place p) n.result n.ensures.place _ e in
    list_for _ _ _ b.ensures.block_value b.ensures.inside _ placed (n.ensures.inside.first _ e) (n.ensures.inside.whole _ e) (entries_are (goal.at.returns k).In-Some) listed _ _ tells
    (o.in-Some-survey_entries.ensures.inside.holder _ _ refl) _ (repeated ∙ rw (flag, tells.repeated)) _ c.list_by.ensures
