-- `pack_list::with_rest` meets its contract: a rest that is not 0 is one block.
use native.Mathlib.Omega.{arith}
use Rattle.pack_list.specs.Lengths.{one_rest}
use Rattle.pack_list.proofs.with_rest.Goals as goal

pub returns-then-rest-eq0 : goal.returns-then-rest-eq0
returns-then-rest-eq0 c = rw c.if-rest-eq0.true (omega arith)

pub overflow_add-result : goal.overflow_add-result
overflow_add-result c = omega arith

pub returns : goal.returns
returns c = rw (one_rest c.args.rest (omega (arith, c.if-rest-eq0.false)))
