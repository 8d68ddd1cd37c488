-- `msgpack::negative_width` meets its contract: the tests are the definition's.
use borrow.Author.Tests.{le-leb, lt-leb}
use Rattle.msgpack.specs.Short.{fixed_holds, fits_in, short_width}
use Rattle.msgpack.proofs.negative_width.Goals as goal

pub returns-then-n-le32 : goal.returns-then-n-le32
unfolding short_width fixed_holds fits_in
returns-then-n-le32 c = rw (le-leb _ _ c.if-n-le32.true)

pub returns-then-n-le128 : goal.returns-then-n-le128
unfolding short_width fixed_holds fits_in
returns-then-n-le128 c = rw (lt-leb _ _ c.if-n-le32.false, le-leb _ _ c.if-n-le128.true)

pub returns-then-n-le32768 : goal.returns-then-n-le32768
unfolding short_width fixed_holds fits_in
returns-then-n-le32768 c = rw (lt-leb _ _ c.if-n-le32.false, lt-leb _ _ c.if-n-le128.false, le-leb _ _ c.if-n-le32768.true)

pub returns-then-n-le2147483648 : goal.returns-then-n-le2147483648
unfolding short_width fixed_holds fits_in
returns-then-n-le2147483648 c =
    let b = c in
    rw (lt-leb _ _ b.if-n-le32.false, lt-leb _ _ b.if-n-le128.false, lt-leb _ _ c.if-n-le32768.false, le-leb _ _ c.if-n-le2147483648.true)

pub returns-else-n-le2147483648 : goal.returns-else-n-le2147483648
unfolding short_width fixed_holds fits_in
returns-else-n-le2147483648 c =
    let b = c in
    rw (lt-leb _ _ b.if-n-le32.false, lt-leb _ _ b.if-n-le128.false, lt-leb _ _ c.if-n-le32768.false, lt-leb _ _ c.if-n-le2147483648.false)
