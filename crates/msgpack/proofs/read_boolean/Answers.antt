-- `msgpack::read_boolean` meets its contract: a whole boolean has a first byte.
use mathlib.Core.Path.{sym, ◌∙◌}
use native.Mathlib.Omega.{arith}
use Rattle.msgpack.specs.Formats.{boolean_kind}
use Rattle.msgpack.specs.Items.{head_read}
use Rattle.msgpack.specs.Readers.{read_boolean}
use Rattle.msgpack.specs.ReaderLaws.{is_whole_lem, has_byte}
use Rattle.msgpack.proofs.read_boolean.Goals as goal

pub bounds-s-0 : goal.bounds-s-0
bounds-s-0 c =
    let h = c.head_at-h in
    let k = (is_whole_lem boolean_kind (head_read h.result) _ (sym c.is_whole.ensures ∙ c.if-not-is_whole.false)).of_kind in
    has_byte c.args.s.now (rw (← h.ensures.is, k) (omega arith))

pub returns-then-not-is_whole : goal.returns-then-not-is_whole
unfolding read_boolean
returns-then-not-is_whole c = rw (← c.head_at-h.ensures.is, sym c.is_whole.ensures ∙ c.if-not-is_whole.true)

pub returns : goal.returns
unfolding read_boolean
returns c = rw (← c.head_at-h.ensures.is, sym c.is_whole.ensures ∙ c.if-not-is_whole.false)
