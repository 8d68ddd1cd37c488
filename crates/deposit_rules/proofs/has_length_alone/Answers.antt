-- `deposit_rules::has_length_alone` meets its contract, by the place told of `s` and what stands there.
use Rattle.std.proofs.Common.{sym, ap, ◌∙◌, ne_eqb}
use Rattle.msgpack.specs.Readers.{counted_of}
use Rattle.deposit_rules.proofs.Maps.{no_secondary, no_list, not_one, one_map, length_coded}
use Rattle.deposit_rules.proofs.has_length_alone.Goals as goal

-- src/lib.rt:167:9
pub returns-then-at-eq0 : goal.returns-then-at-eq0
returns-then-at-eq0 c = no_secondary _ _ c.read_pairs.ensures c.if-at-eq0.true

pub returns-else-count-eq1 : goal.returns-else-count-eq1
returns-else-count-eq1 c =
    ne_eqb _ _ c.if-count-eq1.false
    ∙ not_one _ _ c.read_pairs.ensures c.if-at-eq0.false _ _
    (sym (rw c.from-list.ensures.result_value at c.read_array.ensures.result_value) ∙ ap counted_of c.in-Some.is) c.if-count-eq1.false

-- src/lib.rt:161:1
pub returns-then-count-eq1 : goal.returns-then-count-eq1
returns-then-count-eq1 c =
    let a = c in
    let two = c in
    rw (two.from.ensures.result_value, a.from-list.ensures.result_value) at (c.are_these.ensures.are _ length_coded)
    ∙ sym (one_map _ _ a.read_pairs.ensures a.if-at-eq0.false _ _
    (sym (rw a.from-list.ensures.result_value at a.read_array.ensures.result_value) ∙ ap counted_of two.in-Some.is) two.if-count-eq1.true)

-- src/lib.rt:161:1
pub returns-in-None : goal.returns-in-None
returns-in-None c =
    let a = c in
    no_list _ _ a.read_pairs.ensures a.if-at-eq0.false
    (sym (rw a.from-list.ensures.result_value at a.read_array.ensures.result_value) ∙ ap counted_of c.in-None.is)
