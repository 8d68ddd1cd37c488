-- `msgpack::head_at` meets its contract: a range of first bytes has heads of one byte.
use native.Mathlib.Omega.{arith}
use Rattle.msgpack.proofs.Heads.{nothing_at, short_at, positive, fixmap, fixarray, fixtext, negative}
use Rattle.msgpack.proofs.head_at.Goals as goal

pub returns-then-s-at : goal.returns-then-s-at
returns-then-s-at c = nothing_at _ _ c.if-s-at.true

pub overflow_cast-n : goal.overflow_cast-n
overflow_cast-n c = omega (arith, (c.type_inv.s c.args.at).fits)

pub returns-then-n-lt128 : goal.returns-then-n-lt128
returns-then-n-lt128 c =
    let a = c in
    rw c.short_head.ensures (short_at _ _ _ _ c.if-s-at.false (record { below = λ k. (c.type_inv.s k).fits }) (positive _ c.if-n-lt128.true))

pub returns-then-n-lt144 : goal.returns-then-n-lt144
returns-then-n-lt144 c =
    let a = c in
    rw c.short_head-then-n-lt144.ensures (short_at _ _ _ _ c.if-s-at.false (record { below = λ k. (c.type_inv.s k).fits }) (fixmap _ c.if-n-lt128.false c.if-n-lt144.true))

pub returns-then-n-lt160 : goal.returns-then-n-lt160
returns-then-n-lt160 c =
    let a = c in
    rw c.short_head-then-n-lt160.ensures (short_at _ _ _ _ c.if-s-at.false (record { below = λ k. (c.type_inv.s k).fits }) (fixarray _ c.if-n-lt144.false c.if-n-lt160.true))

pub returns-then-n-lt192 : goal.returns-then-n-lt192
returns-then-n-lt192 c =
    let a = c in
    rw c.short_head-then-n-lt192.ensures (short_at _ _ _ _ c.if-s-at.false (record { below = λ k. (c.type_inv.s k).fits }) (fixtext _ c.if-n-lt160.false c.if-n-lt192.true))

pub returns : goal.returns
returns c =
    let a = c in
    rw c.short_head-2.ensures (short_at _ _ _ _ c.if-s-at.false (record { below = λ k. (c.type_inv.s k).fits }) (negative _ c.if-n-lt224.false))
