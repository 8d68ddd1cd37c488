-- `pack_list::stride_for` meets its contract.
use Prim.Native.Nat.{◌-◌}
use mathlib.Core.Path.{ap, ◌∙◌}
use native.Mathlib.Omega.{arith}
use borrow.Author.Tests.{lt-ltb, not-false, not-true}
use Rattle.std.specs.Int.{div_ceil}
use Rattle.pack_list.proofs.Summing.{ceiling_is}
use Rattle.pack_list.proofs.stride_for.Goals as goal

pub returns-then-blocks-eq0 : goal.returns-then-blocks-eq0
returns-then-blocks-eq0 c = rw c.if-blocks-eq0.true

pub returns-then-not-sums : goal.returns-then-not-sums
returns-then-not-sums c =
    let o = c in
    rw (lt-ltb 0 o.args.blocks (omega (arith, o.if-blocks-eq0.false)), (not-true _ c.if-not-sums.true))

pub div_ceil-requires : goal.div_ceil-requires
div_ceil-requires c = omega (arith, c.if-blocks-eq0.false)

pub returns : goal.returns
returns c =
    let some_block = c.if-blocks-eq0.false in
    let n = c.args.blocks in
    rw (lt-ltb 0 n (omega (arith, some_block)), not-false _ c.if-not-sums.false)
    (c.div_ceil.ensures ∙ ap (λ a. div_ceil a n) c.saturating_sub-bytes.ensures ∙ ceiling_is _ n (omega (arith, some_block)))
