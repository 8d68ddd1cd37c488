-- `msgpack::is_whole` meets its contract: what is compared is the definition's sum, with the head's length taken off both sides.
use Rattle.std.proofs.Common.{sym, ◌∙◌}
use Rattle.msgpack.specs.KindLaws.{same_index}
use Rattle.slices.specs.Logic.{leb_shift}
use Rattle.msgpack.specs.Readers.{is_whole}
use Rattle.msgpack.proofs.is_whole.Goals as goal

pub returns-then-eq : goal.returns-then-eq
unfolding is_whole
returns-then-eq c = rw (sym (c.if-eq.ensures ∙ same_index _ _)) (leb_shift _ _ _ c.requires)

pub returns-else-eq : goal.returns-else-eq
unfolding is_whole
returns-else-eq c = rw (sym (c.if-eq.ensures ∙ same_index _ _))
