-- `msgpack::items_of` meets its contract.
use Rattle.std.proofs.Common.{sym, ◌∙◌, arith}
use Rattle.msgpack.specs.declared.Kind.TheVariants.{Map}
use Rattle.msgpack.specs.KindLaws.{same_index}
use Rattle.msgpack.proofs.items_of.Goals as goal

pub returns-then-eq : goal.returns-then-eq
returns-then-eq c = rw (sym (c.if-eq.ensures ∙ same_index c.args.kind Map)) (omega arith)

pub returns-else-eq : goal.returns-else-eq
returns-else-eq c = rw (sym (c.if-eq.ensures ∙ same_index c.args.kind Map)) (omega arith)
