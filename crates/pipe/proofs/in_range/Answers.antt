-- `pipe::in_range` meets its contract: nothing is added before it is compared.
use Prim.Native.Nat.{◌+◌}
use native.Mathlib.Omega.{arith}
use borrow.Author.Tests.{le-leb, lt-leb}
use Rattle.pipe.specs.Limit.{pipe_limit}
use Rattle.pipe.proofs.in_range.Goals as goal

pub returns-then-size-gt-LIMIT : goal.returns-then-size-gt-LIMIT
returns-then-size-gt-LIMIT c = rw (lt-leb (c.args.start + c.args.size) pipe_limit (omega arith))

pub returns-then-size-start : goal.returns-then-size-start
returns-then-size-start c = rw (lt-leb (c.args.start + c.args.size) pipe_limit (omega arith))

pub returns : goal.returns
returns c = rw (le-leb (c.args.start + c.args.size) pipe_limit (omega arith))
