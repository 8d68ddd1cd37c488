-- `value::header` meets its contract, by the place told of `s`.
use mathlib.Core.Path.{◌≡◌, sym, ap, ◌∙◌}
use Rattle.std.specs.Prelude.{Some}
use Rattle.slices.specs.Lists.{part_to_end}
use Rattle.msgpack.specs.Lookup.{found, last_value}
use Rattle.msgpack.specs.Pairs.{place_told}
use Rattle.msgpack.specs.LookupLaws.{value_whole}
use Rattle.msgpack.specs.PairLaws.{told_inside, told_found}
use Rattle.refusals.specs.Limit.{pack_limit}
use Rattle.value.specs.Header.{secondary_key, header_alone}
use Rattle.value.proofs.Headers.{not_described, described_alone, described_with}
use Rattle.value.proofs.header.Goals as goal
use Rattle.value.proofs.header.Goals.{Else-at-eq0, In-Some}

alone_read : (c : In-Some) → header_alone c.args.map.now ≡ Some c.in-Some.t
alone_read c = sym c.in-Some.ensures

pub alone-requires : goal.alone-requires
alone-requires c = c.requires

pub returns-in_default : goal.returns-in_default
returns-in_default c = rw (not_described pack_limit _ (sym c.in_default.ensures))

pub returns-then-at-eq0 : goal.returns-then-at-eq0
returns-then-at-eq0 c =
    let m = c.requires.secondary ∙ ap place_told c.if-at-eq0.true in
    rw (described_alone pack_limit _ _ (alone_read (goal.at.returns-then-at-eq0 c).In-Some) m, m)

-- where the list stands
list_found : (c : Else-at-eq0) → last_value secondary_key c.args.map.now ≡ found c.args.places.s
list_found c = c.requires.secondary ∙ told_found _ c.if-at-eq0.false

pub slice_bounds-with_list-count : goal.slice_bounds-with_list-count
slice_bounds-with_list-count c = told_inside _ _ _ c.requires.secondary

pub slice_bounds-with_list-start : goal.slice_bounds-with_list-start
slice_bounds-with_list-start c = told_inside _ _ _ c.requires.secondary

pub with_list-requires : goal.with_list-requires
with_list-requires c =
    let a = c.args in
    rw (part_to_end a.places.s a.map.now) (value_whole _ _ _ (list_found (goal.at.with_list-requires c).Else-at-eq0))

pub returns : goal.returns
returns c =
    let l = list_found (goal.at.returns c).Else-at-eq0 in
    c.with_list.ensures ∙ rw (part_to_end, described_with pack_limit _ _ (alone_read (goal.at.returns c).In-Some) _ l, l)
