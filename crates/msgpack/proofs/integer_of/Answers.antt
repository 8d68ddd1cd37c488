-- `msgpack::integer_of` meets its contract: the tests are the definition's.
use borrow.Author.Tests.{lt-ltb, le-ltb}
use Rattle.msgpack.specs.Readers.{integer_of}
use Rattle.msgpack.proofs.Forms.{negative_told}
use Rattle.msgpack.proofs.integer_of.Goals as goal

pub returns-then-first-lt128 : goal.returns-then-first-lt128
unfolding integer_of
returns-then-first-lt128 c = rw (lt-ltb _ _ c.if-first-lt128.true) c.non_negative.ensures

pub returns-then-first-lt208 : goal.returns-then-first-lt208
unfolding integer_of
returns-then-first-lt208 c = rw (le-ltb _ _ c.if-first-lt128.false, lt-ltb _ _ c.if-first-lt208.true) c.non_negative-then-first-lt208.ensures

pub returns-then-first-lt224 : goal.returns-then-first-lt224
unfolding integer_of
returns-then-first-lt224 c =
    rw (le-ltb _ _ c.if-first-lt128.false, le-ltb _ _ c.if-first-lt208.false, lt-ltb _ _ c.if-first-lt224.true)
    c.twos_complement.ensures

pub returns : goal.returns
unfolding integer_of
returns c =
    rw (le-ltb _ _ c.if-first-lt128.false, le-ltb _ _ c.if-first-lt208.false, le-ltb _ _ c.if-first-lt224.false)
    (negative_told _ _ _ _ (c.negative.ensures.result_value, c.negative.ensures.short))
