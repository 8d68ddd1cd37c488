-- `msgpack_heads::text_form` meets its contract: the tests are the definition's.
use borrow.Author.Tests.{lt-ltb, le-ltb}
use mathlib.Core.Path.{◌∙◌}
use Rattle.msgpack_heads.specs.Heads.{text_form}
use Rattle.msgpack_heads.proofs.text_form.Goals as goal

pub returns-then-n-lt32 : goal.returns-then-n-lt32
unfolding text_form
returns-then-n-lt32 c = rw (lt-ltb _ _ c.if-n-lt32.true)

pub returns : goal.returns
unfolding text_form
returns c = c.sized_form.ensures ∙ rw (le-ltb _ _ c.if-n-lt32.false)
