-- `value::with_list` meets its contract, by how many items the list has.
use mathlib.Core.Path.{◌≡◌, sym, ◌∙◌}
use Rattle.std.specs.Prelude.{Some}
use native.Mathlib.Omega.{arith}
use Rattle.slices.specs.Lists.{part_to_end}
use Rattle.msgpack.specs.Formats.{array_kind}
use Rattle.msgpack.specs.Readers.{counted, read_array}
use Rattle.msgpack.specs.ReaderLaws.{head_inside, first_item}
use Rattle.refusals.specs.Limit.{pack_limit}
use Rattle.value.specs.Header.{telling_of}
use Rattle.value.proofs.Lookups.{list_empty, list_single, list_longer, no_list}
use Rattle.value.proofs.with_list.Goals as goal
use Rattle.value.proofs.with_list.Goals.{In-Some}

items_read : (c : In-Some) → read_array c.args.s.now ≡ Some (counted c.in-Some.items.count c.in-Some.items.size)
items_read c = sym c.in-Some.ensures.result_value

pub returns-in-0 : goal.returns-in-0
returns-in-0 c =
    let l = list_empty pack_limit (telling_of c.args.t) _ _ _ (items_read (goal.at.returns-in-0 c).In-Some) c.in-0.is in
    rw (l.tells, l.repeating)

pub slice_bounds-with_map-count : goal.slice_bounds-with_map-count
slice_bounds-with_map-count c = omega (arith, head_inside array_kind _ _ (items_read (goal.at.slice_bounds-with_map-count c).In-Some))

pub slice_bounds-with_map-start : goal.slice_bounds-with_map-start
slice_bounds-with_map-start c = omega (arith, head_inside array_kind _ _ (items_read (goal.at.slice_bounds-with_map-start c).In-Some))

pub with_map-requires : goal.with_map-requires
with_map-requires c =
    let n = c in
    let a = n in
    rw (part_to_end n.in-Some.items.size a.args.s.now)
    (first_item a.args.s.now _ (items_read (goal.at.with_map-requires n).In-Some) (omega (arith, n.in-1.is)) a.requires)

pub returns-in-1 : goal.returns-in-1
returns-in-1 c =
    let n = c in
    let l = list_single pack_limit (telling_of n.args.t) _ _ _ (items_read (goal.at.returns-in-1 n).In-Some) n.in-1.is in
    c.with_map.ensures ∙ rw (part_to_end, l.tells, l.repeating)

pub returns-in_default-count : goal.returns-in_default-count
returns-in_default-count c = rw (list_longer _ _ _ _ _ (items_read (goal.at.returns-in_default-count c).In-Some) (λ z. grind arith) (λ o. grind arith))

pub returns-in_default : goal.returns-in_default
returns-in_default c = rw (no_list _ _ _ (sym c.in_default.ensures.result_value))
