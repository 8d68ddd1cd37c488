-- `msgpack_heads::sized_form` meets its contract: the tests are the definition's.
use borrow.Author.Tests.{lt-ltb, le-ltb}
use Rattle.msgpack_heads.specs.Heads.{sized_form}
use Rattle.msgpack_heads.proofs.sized_form.Goals as goal

pub returns-then-n-lt256 : goal.returns-then-n-lt256
unfolding sized_form
returns-then-n-lt256 c = rw (lt-ltb _ _ c.if-n-lt256.true)

pub returns-then-n-lt65536 : goal.returns-then-n-lt65536
unfolding sized_form
returns-then-n-lt65536 c = rw (le-ltb _ _ c.if-n-lt256.false, lt-ltb _ _ c.if-n-lt65536.true)

pub returns : goal.returns
unfolding sized_form
returns c = rw (le-ltb _ _ c.if-n-lt256.false, le-ltb _ _ c.if-n-lt65536.false)
