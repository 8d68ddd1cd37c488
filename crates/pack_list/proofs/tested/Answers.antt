-- `pack_list::tested` meets its contract: each of its tests is the definition's, once lengths and deltas are read.
use Prim.Native.Nat.{ℕ}
use mathlib.Core.List.{List}
use Rattle.std.specs.Prelude.{Option}
use mathlib.Core.Path.{ap, ◌∙◌}
use native.Mathlib.Omega.{arith}
use lib.ListN.{length-drop}
use Rattle.identifier.specs.Ulid.{is_ulid}
use Rattle.value.specs.Fields.{read_natural}
use Rattle.pack_list.specs.Lists.{each_of}
use Rattle.pack_list.specs.Answers.{items_in}
use Rattle.pack_list.proofs.Entries.{items_fit, no_lengths, no_deltas, entry_tested, same_entry, no_entry_lem, WithinTold, within_told, none_told}
use Rattle.pack_list.proofs.tested.Goals as goal
use Rattle.pack_list.proofs.tested.Goals.{In_ok-within, Start}

pub returns-in_err-within-clause-result_value : goal.returns-in_err-within-clause-result_value
returns-in_err-within-clause-result_value c =
    let a = c.args in
    rw c.from_residual.ensures (no_lengths _ a.e _ _ (none_told _ a.e.stored.len (c.in_err-within.ensures)))

pub returns-in_err-within-clause-pack : goal.returns-in_err-within-clause-pack
returns-in_err-within-clause-pack c = rw c.from_residual.ensures (no_entry_lem _ _)

abbrev lengths_at : Start → Option (List ℕ)
lengths_at a = each_of read_natural (items_in a.args.part.now a.args.e.lengths)

lengths_told : (c : In_ok-within)
    → WithinTold (lengths_at (goal.at.In_ok-within c).Start)
    c.args.e.stored.len c.in_ok-within.within
    c.in_ok-within.rest
lengths_told c =
    let l = c in
    within_told _ _ _ _ (l.in_ok-within.ensures)

pub with_rest-blocks-requires : goal.with_rest-blocks-requires
with_rest-blocks-requires c =
    let a = c in
    omega (arith, items_fit _ _ a.requires, length-drop a.args.e.lengths.first a.args.part.now)

pub returns-in_err-sums-clause-result_value : goal.returns-in_err-sums-clause-result_value
returns-in_err-sums-clause-result_value c =
    let d = c in
    let l = lengths_told (goal.at.returns-in_err-sums-clause-result_value d).In_ok-within in
    rw c.from_residual-in_err-sums.ensures (no_deltas _ _ _ _ l.lengths l.are (d.deltas_summed.ensures.missing c.in_err-sums.was))

pub returns-in_err-sums-clause-pack : goal.returns-in_err-sums-clause-pack
returns-in_err-sums-clause-pack c = rw c.from_residual-in_err-sums.ensures (no_entry_lem _ _)

pub returns-clause-result_value : goal.returns-clause-result_value
returns-clause-result_value c =
    let u = c in
    let k = u in
    let d = k in
    let l = lengths_told (goal.at.returns-clause-result_value d).In_ok-within in
    let summed = d.deltas_summed.ensures.summed _ k.in_ok-sums.was in
    let named = u.is_ulid.ensures ∙ ap is_ulid u.part.ensures.result_value in
    entry_tested _ _ _ _ l.lengths l.are _ l.left _ d.with_rest-blocks.ensures _ summed _ _ _ _ _ named
    c.is_short.ensures c.is_short-2.ensures l.is c.stride_for.ensures

pub returns-clause-pack : goal.returns-clause-pack
returns-clause-pack c =
    let u = c in
    let k = u in
    let d = k in
    let l = lengths_told (goal.at.returns-clause-pack d).In_ok-within in
    let summed = d.deltas_summed.ensures.summed _ k.in_ok-sums.was in
    same_entry _ _ _ l.lengths summed.deltas l.are summed.are
