-- `endian::little` meets its contract. The invariant: n is the number of the first i bytes. It stays below 256 ^ i, so that one byte more fits.
use borrow.Author.Rules.{rules}
use mathlib.Core.Path.{◌≡◌, refl}
use Prim.Native.Nat.{◌+◌, ◌*◌, ◌^◌, ◌<◌}
use lib.ListN.{get_or, take, drop}
use native.Mathlib.Omega.{arith}
use Rattle.endian.specs.Numbers.{little, little_lt}
use Rattle.endian.proofs.Digits.{little_more, shifted, fits}
use Rattle.endian.proofs.little.Goals as goal
use Rattle.endian.proofs.little.Goals.{In-loop-i}

-- the number with the next byte is that of one byte more, and fits
more : (c : In-loop-i) → c.loop-i.n + get_or c.args.s.now (c.args.at + c.loop-i.i) 0 * 256 ^ c.loop-i.i ≡ little (take (c.loop-i.i + 1) (drop c.args.at c.args.s.now))
more c = little_more c.args.s.now c.args.at c.loop-i.i (omega arith) c.loop-i.invariant.1 refl

more_fits : (c : In-loop-i) → c.loop-i.n + get_or c.args.s.now (c.args.at + c.loop-i.i) 0 * 256 ^ c.loop-i.i < 2 ^ 64
more_fits c =
    rw (more c)
    (fits little little_lt c.args.s.now c.args.at (c.loop-i.i + 1) (record { below = λ k. (c.type_inv.s k).fits }) (omega arith) (omega arith))

pub loop-i-init : goal.loop-i-init
unfolding little
loop-i-init c = search rules

pub overflow_add-n : goal.overflow_add-n
overflow_add-n c = rw (shifted c.loop-i.i c.byte.result (omega arith) c.byte.ensures.1, c.byte.ensures.0) (record { fits = more_fits (goal.at.overflow_add-n c).In-loop-i })

pub loop-i-preserved : goal.loop-i-preserved
loop-i-preserved c = (search rules, rw (shifted c.loop-i.i c.byte.result (omega arith) c.byte.ensures.1, c.byte.ensures.0) (more (goal.at.loop-i-preserved c).In-loop-i))

pub returns : goal.returns
returns c =
    let e : c.loop-i.i ≡ c.args.width = omega arith in
    rw e at c.loop-i.invariant.1
