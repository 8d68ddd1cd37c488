-- `pack_list::entry_by` meets its contract: what stands under the keys in turn, none where one is not as described.
use Prim.Native.Nat.{ℕ}
use mathlib.Core.List.{List, []}
use Rattle.std.specs.Prelude.{None, Some}
use mathlib.Core.Path.{◌≡◌, refl, sym, ap, ◌∙◌}
use native.Mathlib.Omega.{arith}
use lib.ListN.{drop, length-drop}
use Rattle.slices.specs.Places.{part_at}
use Rattle.primary.specs.Answers.{text_of}
use Rattle.primary.specs.Parts.{text_under}
use Rattle.msgpack.specs.Lookup.{at_place, if_there}
use Rattle.msgpack.specs.PairLaws.{told_inside}
use Rattle.msgpack.specs.Readers.{read_integer}
use Rattle.msgpack.specs.Views.{byte_view}
use Rattle.value.specs.Fields.{read_natural}
use Rattle.pack_list.specs.Lists.{pack_key, source_key, stored_key, lengths_key, deltas_key, each_of}
use Rattle.pack_list.specs.Answers.{range_told, items_in, numbers_of, pack_place}
use Rattle.pack_list.proofs.Ranges.{read_told}
use Rattle.pack_list.proofs.Entries.{value_at_lem, no_pack, pack_read, pack_placed, RangeUnder, range_under_lem, no_range_under, list_under, lengths_under, deltas_under, no_entry_told, no_deltas_told, entry_told_lem, numbers_placed, entry_inside, none_inside}
use Rattle.pack_list.proofs.entry_by.Goals as goal
use Rattle.pack_list.proofs.entry_by.Goals.{After-numbers_under, After-numbers_under-2, After-range_under, After-range_under-2, After-text_at, In_ok-pack, In_ok-lengths, In_ok-deltas, In_ok-source, In_ok-stored, Start}

abbrev bytes : Start → List ℕ
bytes a = a.args.part.now

abbrev map_at : Start → List ℕ
map_at a = drop a.args.at (bytes a)

-- from each call back to the start
abbrev at_pack : After-text_at → Start
at_pack c = (goal.at.After-text_at c).Start

abbrev at_source : After-range_under → Start
at_source c = at_pack (goal.at.After-range_under c).After-text_at

abbrev at_stored : After-range_under-2 → Start
at_stored c = at_source (goal.at.After-range_under-2 c).After-range_under

abbrev at_lengths : After-numbers_under → Start
at_lengths c = at_stored (goal.at.After-numbers_under c).After-range_under-2

abbrev at_deltas : After-numbers_under-2 → Start
at_deltas c = at_lengths (goal.at.After-numbers_under-2 c).After-numbers_under

-- ---- the pack

pub returns-then-places-eq0-clause-result_value : goal.returns-then-places-eq0-clause-result_value
returns-then-places-eq0-clause-result_value c =
    let a = c in
    let missing = no_pack (bytes (goal.at.returns-then-places-eq0-clause-result_value c).Start) a.args.at a.args.places.pack a.requires.1.pack c.if-places-eq0.true in
    no_entry_told _ None _ _ _ _ missing refl refl refl refl refl

pub returns-then-places-eq0-clause-inside : goal.returns-then-places-eq0-clause-inside
returns-then-places-eq0-clause-inside c = none_inside _ _

pub overflow_add-at : goal.overflow_add-at
overflow_add-at c =
    let a = c in
    let inside = told_inside pack_key (map_at (goal.at.overflow_add-at c).Start) a.args.places.pack a.requires.1.pack in
    omega (arith, a.requires.0, inside, length-drop a.args.at (bytes (goal.at.overflow_add-at c).Start))

text_read : (c : After-text_at) → text_under byte_view pack_key (map_at (at_pack c)) ≡ text_of (bytes (at_pack c)) c.text_at.result
text_read c = pack_read _ _ _ (at_pack c).requires.1.pack c.if-places-eq0.false ∙ sym c.text_at.ensures.result_value

place_read : (c : After-text_at) → c.text_at.result ≡ pack_place (bytes (at_pack c)) (at_pack c).args.at
place_read c = c.text_at.ensures.place ∙ pack_placed _ _ _ (at_pack c).requires.1.pack c.if-places-eq0.false

pub returns-in_err-pack-clause-result_value : goal.returns-in_err-pack-clause-result_value
returns-in_err-pack-clause-result_value c =
    let d = c in
    let missing = text_read (goal.at.returns-in_err-pack-clause-result_value d).After-text_at ∙ ap (text_of (bytes (at_pack (goal.at.returns-in_err-pack-clause-result_value c).After-text_at))) c.in_err-pack.was in
    rw c.from_residual.ensures (no_entry_told _ None _ _ _ _ missing refl refl refl refl refl)

pub returns-in_err-pack-clause-inside : goal.returns-in_err-pack-clause-inside
returns-in_err-pack-clause-inside c = rw c.from_residual.ensures (none_inside _ _)

text_read-2 : (c : In_ok-pack) → text_under byte_view pack_key (map_at (at_pack (goal.at.In_ok-pack c).After-text_at)) ≡ text_of (bytes (at_pack (goal.at.In_ok-pack c).After-text_at)) c.text_at.result
text_read-2 c = pack_read _ _ _ (at_pack (goal.at.In_ok-pack c).After-text_at).requires.1.pack c.if-places-eq0.false ∙ sym c.text_at.ensures.result_value

pack : (c : In_ok-pack)
    → text_under byte_view pack_key (map_at (at_pack (goal.at.In_ok-pack c).After-text_at))
    ≡ Some (part_at (bytes (at_pack (goal.at.In_ok-pack c).After-text_at)) c.in_ok-pack.pack)
pack c = let d = c in text_read-2 d ∙ ap (text_of (bytes (at_pack (goal.at.In_ok-pack c).After-text_at))) c.in_ok-pack.was

-- ---- the ranges

pub range_under-requires : goal.range_under-requires
range_under-requires c = let a = at_pack (goal.at.range_under-requires c).After-text_at in (a.requires.0, value_at_lem source_key _ _ a.requires.1.source)

source_read : (c : After-range_under) → at_place None range_told (byte_view.under source_key (map_at (at_source c))) ≡ c.range_under.result
source_read c =
    let a = at_source c in
    read_told None range_told source_key (map_at a) a.args.places.source a.requires.1.source ∙ sym c.range_under.ensures

pub returns-in_err-source-clause-result_value : goal.returns-in_err-source-clause-result_value
returns-in_err-source-clause-result_value c =
    let d = c in
    let missing = no_range_under (byte_view.under source_key (map_at (at_source (goal.at.returns-in_err-source-clause-result_value c).After-range_under))) (source_read (goal.at.returns-in_err-source-clause-result_value d).After-range_under ∙ c.in_err-source.was) in
    rw c.from_residual-in_err-source.ensures (no_entry_told _ (Some _) None _ _ _ (pack (goal.at.returns-in_err-source-clause-result_value d).In_ok-pack) missing refl refl refl refl)

pub returns-in_err-source-clause-inside : goal.returns-in_err-source-clause-inside
returns-in_err-source-clause-inside c = rw c.from_residual-in_err-source.ensures (none_inside _ _)

source_read-2 : (c : In_ok-source) → at_place None range_told (byte_view.under source_key (map_at (at_source (goal.at.In_ok-source c).After-range_under))) ≡ c.range_under.result
source_read-2 c =
    let a = at_source (goal.at.In_ok-source c).After-range_under in
    read_told None range_told source_key (map_at a) a.args.places.source a.requires.1.source ∙ sym c.range_under.ensures

source : (c : In_ok-source)
    → RangeUnder (byte_view.under source_key (map_at (at_source (goal.at.In_ok-source c).After-range_under))) c.in_ok-source.source
    c.in_ok-source.twice
source c = range_under_lem _ _ _ (source_read-2 c ∙ c.in_ok-source.was)

pub range_under-requires-2 : goal.range_under-requires-2
range_under-requires-2 c = let a = at_source (goal.at.range_under-requires-2 c).After-range_under in (a.requires.0, value_at_lem stored_key _ _ a.requires.1.stored)

stored_read : (c : After-range_under-2) → at_place None range_told (byte_view.under stored_key (map_at (at_stored c))) ≡ c.range_under-2.result
stored_read c =
    let a = at_stored c in
    read_told None range_told stored_key (map_at a) a.args.places.stored a.requires.1.stored ∙ sym c.range_under-2.ensures

pub returns-in_err-stored-clause-result_value : goal.returns-in_err-stored-clause-result_value
returns-in_err-stored-clause-result_value c =
    let d = c in
    let k = d in
    let missing = no_range_under (byte_view.under stored_key (map_at (at_stored (goal.at.returns-in_err-stored-clause-result_value c).After-range_under-2))) (stored_read (goal.at.returns-in_err-stored-clause-result_value d).After-range_under-2 ∙ c.in_err-stored.was) in
    rw c.from_residual-in_err-stored.ensures (no_entry_told _ (Some _) (Some _) None _ _ (pack (goal.at.returns-in_err-stored-clause-result_value k).In_ok-pack) (source (goal.at.returns-in_err-stored-clause-result_value k).In_ok-source).range missing refl refl refl)

pub returns-in_err-stored-clause-inside : goal.returns-in_err-stored-clause-inside
returns-in_err-stored-clause-inside c = rw c.from_residual-in_err-stored.ensures (none_inside _ _)

stored_read-2 : (c : In_ok-stored) → at_place None range_told (byte_view.under stored_key (map_at (at_stored (goal.at.In_ok-stored c).After-range_under-2))) ≡ c.range_under-2.result
stored_read-2 c =
    let a = at_stored (goal.at.In_ok-stored c).After-range_under-2 in
    read_told None range_told stored_key (map_at a) a.args.places.stored a.requires.1.stored ∙ sym c.range_under-2.ensures

stored : (c : In_ok-stored)
    → RangeUnder (byte_view.under stored_key (map_at (at_stored (goal.at.In_ok-stored c).After-range_under-2))) c.in_ok-stored.stored
    c.in_ok-stored.again
stored c = range_under_lem _ _ _ (stored_read-2 c ∙ c.in_ok-stored.was)

-- ---- the arrays

pub numbers_under-requires : goal.numbers_under-requires
numbers_under-requires c = let a = at_stored (goal.at.numbers_under-requires c).After-range_under-2 in (a.requires.0, value_at_lem lengths_key _ _ a.requires.1.lengths)

lengths_read_lem : (c : After-numbers_under)
    → lengths_under (map_at (at_lengths c)) ≡ if_there (numbers_of (bytes (at_lengths c)) c.numbers_under.result) (each_of read_natural)
unfolding read_natural
lengths_read_lem c =
    let a = at_lengths c in
    let items = read_told (Some []) byte_view.items lengths_key (map_at a) a.args.places.lengths a.requires.1.lengths in
    list_under read_natural (byte_view.under lengths_key (map_at a)) ∙ ap (λ o. if_there o (each_of read_natural)) (items ∙ sym c.numbers_under.ensures.result_value)

pub returns-in_err-lengths-clause-result_value : goal.returns-in_err-lengths-clause-result_value
returns-in_err-lengths-clause-result_value c =
    let d = c in
    let k = d in
    let l = k in
    let p = pack (goal.at.returns-in_err-lengths-clause-result_value l).In_ok-pack in
    let missing = lengths_read_lem (goal.at.returns-in_err-lengths-clause-result_value d).After-numbers_under ∙ ap (λ r. if_there (numbers_of (bytes (at_lengths (goal.at.returns-in_err-lengths-clause-result_value c).After-numbers_under)) r) (each_of read_natural)) c.in_err-lengths.was in
    rw c.from_residual-in_err-lengths.ensures (no_entry_told _ (Some _) (Some _) (Some _) None _ p (source (goal.at.returns-in_err-lengths-clause-result_value l).In_ok-source).range (stored (goal.at.returns-in_err-lengths-clause-result_value k).In_ok-stored).range missing refl refl)

pub returns-in_err-lengths-clause-inside : goal.returns-in_err-lengths-clause-inside
returns-in_err-lengths-clause-inside c = rw c.from_residual-in_err-lengths.ensures (none_inside _ _)

lengths_read_lem-2 : (c : In_ok-lengths)
    → lengths_under (map_at (at_lengths (goal.at.In_ok-lengths c).After-numbers_under)) ≡ if_there (numbers_of (bytes (at_lengths (goal.at.In_ok-lengths c).After-numbers_under)) c.numbers_under.result) (each_of read_natural)
unfolding read_natural
lengths_read_lem-2 c =
    let a = at_lengths (goal.at.In_ok-lengths c).After-numbers_under in
    let items = read_told (Some []) byte_view.items lengths_key (map_at a) a.args.places.lengths a.requires.1.lengths in
    list_under read_natural (byte_view.under lengths_key (map_at a)) ∙ ap (λ o. if_there o (each_of read_natural)) (items ∙ sym c.numbers_under.ensures.result_value)

lengths : (c : In_ok-lengths)
    → lengths_under (map_at (at_lengths (goal.at.In_ok-lengths c).After-numbers_under))
    ≡ each_of read_natural (items_in (bytes (at_lengths (goal.at.In_ok-lengths c).After-numbers_under)) c.in_ok-lengths.lengths)
lengths c =
    let d = c in
    lengths_read_lem-2 d ∙ ap (λ r. if_there (numbers_of (bytes (at_lengths (goal.at.In_ok-lengths c).After-numbers_under)) r) (each_of read_natural)) c.in_ok-lengths.was

pub numbers_under-requires-2 : goal.numbers_under-requires-2
numbers_under-requires-2 c = let a = at_lengths (goal.at.numbers_under-requires-2 c).After-numbers_under in (a.requires.0, value_at_lem deltas_key _ _ a.requires.1.deltas)

deltas_read : (c : After-numbers_under-2)
    → deltas_under (map_at (at_deltas c)) ≡ if_there (numbers_of (bytes (at_deltas c)) c.numbers_under-2.result) (each_of read_integer)
deltas_read c =
    let a = at_deltas c in
    let items = read_told (Some []) byte_view.items deltas_key (map_at a) a.args.places.deltas a.requires.1.deltas in
    list_under read_integer (byte_view.under deltas_key (map_at a)) ∙ ap (λ o. if_there o (each_of read_integer)) (items ∙ sym c.numbers_under-2.ensures.result_value)

pub returns-in_err-deltas-clause-result_value : goal.returns-in_err-deltas-clause-result_value
returns-in_err-deltas-clause-result_value c =
    let d = c in
    let k = d in
    let l = k in
    let o = l in
    let missing = deltas_read (goal.at.returns-in_err-deltas-clause-result_value d).After-numbers_under-2 ∙ ap (λ r. if_there (numbers_of (bytes (at_deltas (goal.at.returns-in_err-deltas-clause-result_value c).After-numbers_under-2)) r) (each_of read_integer)) c.in_err-deltas.was in
    rw c.from_residual-in_err-deltas.ensures (no_deltas_told _ _ _ _ _ (pack (goal.at.returns-in_err-deltas-clause-result_value o).In_ok-pack) (source (goal.at.returns-in_err-deltas-clause-result_value o).In_ok-source).range (stored (goal.at.returns-in_err-deltas-clause-result_value l).In_ok-stored).range (lengths (goal.at.returns-in_err-deltas-clause-result_value k).In_ok-lengths) missing)

pub returns-in_err-deltas-clause-inside : goal.returns-in_err-deltas-clause-inside
returns-in_err-deltas-clause-inside c = rw c.from_residual-in_err-deltas.ensures (none_inside _ _)

deltas_read-2 : (c : In_ok-deltas)
    → deltas_under (map_at (at_deltas (goal.at.In_ok-deltas c).After-numbers_under-2)) ≡ if_there (numbers_of (bytes (at_deltas (goal.at.In_ok-deltas c).After-numbers_under-2)) c.numbers_under-2.result) (each_of read_integer)
deltas_read-2 c =
    let a = at_deltas (goal.at.In_ok-deltas c).After-numbers_under-2 in
    let items = read_told (Some []) byte_view.items deltas_key (map_at a) a.args.places.deltas a.requires.1.deltas in
    list_under read_integer (byte_view.under deltas_key (map_at a)) ∙ ap (λ o. if_there o (each_of read_integer)) (items ∙ sym c.numbers_under-2.ensures.result_value)

deltas : (c : In_ok-deltas)
    → deltas_under (map_at (at_deltas (goal.at.In_ok-deltas c).After-numbers_under-2))
    ≡ each_of read_integer (items_in (bytes (at_deltas (goal.at.In_ok-deltas c).After-numbers_under-2)) c.in_ok-deltas.deltas)
deltas c =
    let d = c in
    deltas_read-2 d ∙ ap (λ r. if_there (numbers_of (bytes (at_deltas (goal.at.In_ok-deltas c).After-numbers_under-2)) r) (each_of read_integer)) c.in_ok-deltas.was

-- ---- all of them

pub tested-requires : goal.tested-requires
tested-requires c =
    let k = c in
    k.numbers_under.ensures.inside.whole _ k.in_ok-lengths.was

pub returns-clause-result_value : goal.returns-clause-result_value
returns-clause-result_value c =
    let k = c in
    let l = k in
    let n = l in
    let o = n in
    let p = o in
    let a = at_pack (goal.at.returns-clause-result_value c).After-text_at in
    let told = entry_told_lem (bytes a) (map_at a) _ a.args.places.repeated _ _ (pack (goal.at.returns-clause-result_value p).In_ok-pack) (source (goal.at.returns-clause-result_value o).In_ok-source) (stored (goal.at.returns-clause-result_value n).In_ok-stored) (lengths (goal.at.returns-clause-result_value l).In_ok-lengths) (deltas (goal.at.returns-clause-result_value k).In_ok-deltas) a.requires.1.repeated _ a.requires.1.size in
    c.tested.ensures.result_value ∙ told

pub returns-clause-inside : goal.returns-clause-inside
returns-clause-inside c =
    let k = c in
    let l = k in
    let n = l in
    let o = n in
    let p = o in
    let a = at_pack (goal.at.returns-clause-inside c).After-text_at in
    let place = sym (p.in_ok-pack.was) ∙ place_read (goal.at.returns-clause-inside p).After-text_at in
    let lengths-placed =
    numbers_placed lengths_key (bytes a) a.args.at a.args.places.lengths a.requires.1.lengths _ l.numbers_under.ensures.place _
    l.in_ok-lengths.was in
    let deltas-placed =
    numbers_placed deltas_key (bytes a) a.args.at a.args.places.deltas a.requires.1.deltas _ k.numbers_under-2.ensures.place _
    k.in_ok-deltas.was in
    entry_inside _ _ _ _ c.tested.ensures.pack place lengths-placed deltas-placed
