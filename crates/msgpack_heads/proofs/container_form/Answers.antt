-- `msgpack_heads::container_form` meets its contract: the tests are the definition's.
use borrow.Author.Tests.{lt-ltb, le-ltb}
use Rattle.msgpack_heads.specs.Heads.{container_form}
use Rattle.msgpack_heads.proofs.container_form.Goals as goal

pub returns-then-n-lt16 : goal.returns-then-n-lt16
unfolding container_form
returns-then-n-lt16 c = rw (lt-ltb _ _ c.if-n-lt16.true)

pub returns-then-n-lt65536 : goal.returns-then-n-lt65536
unfolding container_form
returns-then-n-lt65536 c = rw (le-ltb _ _ c.if-n-lt16.false, lt-ltb _ _ c.if-n-lt65536.true)

pub returns : goal.returns
unfolding container_form
returns c = rw (le-ltb _ _ c.if-n-lt16.false, le-ltb _ _ c.if-n-lt65536.false)
