-- `msgpack::content_at` meets its contract.
use mathlib.Core.Bool.{true}
use mathlib.Core.Path.{◌≡◌, sym, ◌∙◌}
use native.Mathlib.Omega.{arith}
use lib.ListN.{length}
use Rattle.slices.specs.Bytes.{AllBytes}
use Rattle.msgpack.specs.Formats.{kind_index}
use Rattle.msgpack.specs.Items.{head_read}
use Rattle.msgpack.specs.Readers.{is_whole, content_at}
use Rattle.msgpack.specs.ReaderLaws.{is_whole_lem}
use Rattle.msgpack.proofs.Forms.{some_size, content_form}
use Rattle.msgpack.proofs.content_at.Goals as goal
use Rattle.msgpack.proofs.content_at.Goals.{Then-is_whole}

there : (c : Then-is_whole)
    → is_whole (kind_index c.args.kind) (head_read c.head_at-h.result) (length c.args.s.now) ≡ true
there c = sym c.is_whole.ensures ∙ c.if-is_whole.true

pub short_count-requires : goal.short_count-requires
short_count-requires c =
    let h = c.head_at-h in
    some_size (kind_index c.args.kind) c.args.s.now (head_read h.result) h.ensures.is (omega (arith, c.requires)) (is_whole_lem _ _ _ (there c)).of_kind

pub returns-then-is_whole-clause-result_value : goal.returns-then-is_whole-clause-result_value
unfolding content_at
returns-then-is_whole-clause-result_value c =
    rw (← c.head_at-h.ensures.is, sym c.is_whole.ensures ∙ c.if-is_whole.true)

pub returns-then-is_whole-clause-short : goal.returns-then-is_whole-clause-short
unfolding content_at
returns-then-is_whole-clause-short c =
    let h = c.head_at-h in
    let bytes : AllBytes c.args.s.now = record { below = λ i. (c.type_inv.s i).fits } in
    c.short_count.ensures ∙ content_form (kind_index c.args.kind) c.args.s.now (head_read h.result) h.ensures.is bytes c.requires (sym c.is_whole.ensures ∙ c.if-is_whole.true)

pub returns-else-is_whole-clause-result_value : goal.returns-else-is_whole-clause-result_value
unfolding content_at
returns-else-is_whole-clause-result_value c =
    let nothing = sym c.is_whole.ensures ∙ c.if-is_whole.false in
    rw (← c.head_at-h.ensures.is, nothing)

pub returns-else-is_whole-clause-short : goal.returns-else-is_whole-clause-short
unfolding content_at
returns-else-is_whole-clause-short c =
    let nothing = sym c.is_whole.ensures ∙ c.if-is_whole.false in
    rw (← c.head_at-h.ensures.is, nothing)
