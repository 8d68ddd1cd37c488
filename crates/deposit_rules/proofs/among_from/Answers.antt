-- `deposit_rules::among_from` meets its contract: the keys passed are among those.
use Rattle.std.proofs.Common.{◌≡◌, ◌+◌, ◌-◌, sym, ◌∙◌, arith}
use Rattle.slices.specs.Bytes.{AllBytes}
use Rattle.deposit_rules.proofs.Loops.{among_broken, among_fails, among_on, among_all}
use Rattle.deposit_rules.proofs.among_from.Goals as goal

pub returns-in_default : goal.returns-in_default
returns-in_default c =
    let bytes : AllBytes c.args.s.now = record { below = λ k. (c.type_inv.s k).fits } in
    record { are = among_broken _ _ bytes _ c.loop.at _ (omega arith) c.loop.invariant c.pair_at.result c.pair_at.ensures c.in_default.not-Ok }

pub returns-then-not-is_listed : goal.returns-then-not-is_listed
returns-then-not-is_listed c =
    let bytes : AllBytes c.args.s.now = record { below = λ k. (c.type_inv.s k).fits } in
    record {
      are = among_fails _ _ bytes _ c.loop.at _ (omega arith) c.loop.invariant _ _ _ c.in-Ok.ensures (sym c.is_listed.ensures ∙ c.if-not-is_listed.true);
    }

pub loop-preserved : goal.loop-preserved
loop-preserved c =
    let bytes : AllBytes c.args.s.now = record { below = λ k. (c.type_inv.s k).fits } in
    let n : c.args.count - c.loop.counter - 1 ≡ c.args.count - (c.loop.counter + 1) = omega arith in
    rw (← n) (among_on _ _ bytes _ c.loop.at _ (omega arith) c.loop.invariant _ _ _ c.in-Ok.ensures (sym c.is_listed.ensures ∙ c.if-not-is_listed.false))

pub returns : goal.returns
returns c = record { are = among_all _ _ _ c.loop.at _ (omega arith) c.loop.invariant }
