-- `msgpack_heads::unsigned_form` meets its contract: the tests are the definition's.
use borrow.Author.Tests.{lt-ltb, le-ltb}
use mathlib.Core.Path.{◌∙◌}
use Rattle.msgpack_heads.specs.Heads.{unsigned_form}
use Rattle.msgpack_heads.proofs.unsigned_form.Goals as goal

pub returns-then-n-lt128 : goal.returns-then-n-lt128
unfolding unsigned_form
returns-then-n-lt128 c = rw (lt-ltb _ _ c.if-n-lt128.true)

pub returns-then-n-lt4294967296 : goal.returns-then-n-lt4294967296
unfolding unsigned_form
returns-then-n-lt4294967296 c = c.sized_form.ensures ∙ rw (le-ltb _ _ c.if-n-lt128.false, lt-ltb _ _ c.if-n-lt4294967296.true)

pub returns : goal.returns
unfolding unsigned_form
returns c = rw (le-ltb _ _ c.if-n-lt128.false, le-ltb _ _ c.if-n-lt4294967296.false)
