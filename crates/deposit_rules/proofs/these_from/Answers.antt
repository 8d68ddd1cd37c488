-- `deposit_rules::these_from` meets its contract: the keys passed are the first of these.
use Rattle.std.proofs.Common.{arith}
use Rattle.slices.specs.Bytes.{AllBytes}
use Rattle.deposit_rules.proofs.Maps.{those_none, those_broken, those_fail, those_on, those_all}
use Rattle.deposit_rules.proofs.these_from.Goals as goal

pub loop-wanted-init : goal.loop-wanted-init
loop-wanted-init c = those_none _ _ _

pub returns-in_default : goal.returns-in_default
returns-in_default c =
    let bytes : AllBytes c.args.s.now = record { below = λ k. (c.type_inv.s k).fits } in
    record {
      are = those_broken _ _ bytes _ c.loop-wanted.at _ (omega arith) c.loop-wanted.invariant c.pair_at.result c.pair_at.ensures c.in_default.not-Ok;
    }

pub returns-then-code-wanted : goal.returns-then-code-wanted
returns-then-code-wanted c =
    let bytes : AllBytes c.args.s.now = record { below = λ k. (c.type_inv.s k).fits } in
    record { are = those_fail _ _ bytes _ c.loop-wanted.at _ (omega arith) c.loop-wanted.invariant _ _ _ c.in-Ok.ensures c.if-code-wanted.true }

pub loop-wanted-preserved : goal.loop-wanted-preserved
loop-wanted-preserved c =
    let bytes : AllBytes c.args.s.now = record { below = λ k. (c.type_inv.s k).fits } in
    those_on _ _ bytes _ c.loop-wanted.at _ (omega arith) c.loop-wanted.invariant _ _ _ c.in-Ok.ensures c.if-code-wanted.false

pub returns : goal.returns
returns c = record { are = those_all _ _ _ c.loop-wanted.at _ (omega arith) c.loop-wanted.invariant }
