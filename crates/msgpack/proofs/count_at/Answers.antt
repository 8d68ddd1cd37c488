-- `msgpack::count_at` meets its contract.
use borrow.Author.Tests.{eqb-true}
use Rattle.std.proofs.Common.{◌≡◌, sym}
use Rattle.msgpack.specs.Formats.{kind_index}
use Rattle.msgpack.specs.KindLaws.{same_index}
use mathlib.Core.Path.{◌∙◌}
use native.Mathlib.Omega.{arith}
use Rattle.slices.specs.Bytes.{AllBytes}
use Rattle.msgpack.specs.Items.{head_read}
use Rattle.msgpack.specs.Readers.{count_at}
use Rattle.msgpack.proofs.Forms.{some_size, counted_form}
use Rattle.msgpack.proofs.count_at.Goals as goal
use Rattle.msgpack.proofs.count_at.Goals.{Then-eq}

of_kind : (c : Then-eq) → kind_index c.head_at-h.result.kind ≡ kind_index c.args.kind
of_kind c = eqb-true _ _ (sym (c.if-eq.ensures ∙ same_index _ _))

pub short_count-requires : goal.short_count-requires
short_count-requires c =
    let h = c.head_at-h in
    some_size (kind_index c.args.kind) c.args.s.now (head_read h.result) h.ensures.is (omega (arith, c.requires)) (of_kind (goal.at.short_count-requires c).Then-eq)

pub returns-then-eq-clause-result_value : goal.returns-then-eq-clause-result_value
unfolding count_at
returns-then-eq-clause-result_value c = rw (← c.head_at-h.ensures.is, sym (c.if-eq.ensures ∙ same_index _ _))

pub returns-then-eq-clause-short : goal.returns-then-eq-clause-short
unfolding count_at
returns-then-eq-clause-short c =
    let h = c.head_at-h in
    let bytes : AllBytes c.args.s.now = record { below = λ i. (c.type_inv.s i).fits } in
    c.short_count.ensures
    ∙ counted_form (kind_index c.args.kind) c.args.s.now (head_read h.result) h.ensures.is bytes c.requires (of_kind (goal.at.returns-then-eq-clause-short c).Then-eq)

pub returns-else-eq-clause-result_value : goal.returns-else-eq-clause-result_value
unfolding count_at
returns-else-eq-clause-result_value c = rw (← c.head_at-h.ensures.is, sym (c.if-eq.ensures ∙ same_index _ _))

pub returns-else-eq-clause-short : goal.returns-else-eq-clause-short
unfolding count_at
returns-else-eq-clause-short c = rw (← c.head_at-h.ensures.is, sym (c.if-eq.ensures ∙ same_index _ _))
