-- `msgpack::twos_complement` meets its contract: the table holds the halves, and what is taken from a half is at most a half.
use borrow.Author.Tests.{lt-ltb, le-ltb}
use Prim.Native.Nat.{ℕ}
use mathlib.Core.Path.{subst}
use native.Mathlib.Omega.{arith}
use Rattle.msgpack.specs.Readers.{minus, half, twos_complement}
use Rattle.msgpack.specs.Short.{IntegerTold}
use Rattle.msgpack.proofs.Integers.{halves_are, two_halves}
use Rattle.msgpack.proofs.Forms.{negative_told}
use Rattle.msgpack.proofs.twos_complement.Goals as goal

pub overflow_sub-half : goal.overflow_sub-half
overflow_sub-half c = omega (arith, halves_are c.args.width c.requires.0, two_halves c.args.width c.args.n c.requires.1)

pub returns-then-n-half : goal.returns-then-n-half
unfolding twos_complement
returns-then-n-half c =
    let a = c in
    let e = halves_are a.args.width a.requires.0 in
    rw (lt-ltb a.args.n (half a.args.width) (omega arith)) c.non_negative.ensures

pub returns-else-n-half : goal.returns-else-n-half
unfolding twos_complement
returns-else-n-half c =
    let a = c in
    let e = halves_are a.args.width a.requires.0 in
    rw (le-ltb a.args.n (half a.args.width) (omega arith))
    (subst (λ (m : ℕ). IntegerTold a.args.b a.args.width (minus m) c.negative.result) (omega arith) (negative_told a.args.b _ _ _ (c.negative.ensures.result_value, c.negative.ensures.short)))
