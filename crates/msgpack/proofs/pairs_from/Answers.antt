-- `msgpack::pairs_from` meets its contract, pair by pair.
use Rattle.std.proofs.Common.{◌≡◌, ◌+◌, ◌-◌, refl, arith}
use Rattle.msgpack.proofs.Maps.{whole_pair_lem, kept_first, kept_further, kept_last, kept_fault}
use Rattle.msgpack.proofs.pairs_from.Goals as goal

pub loop-init : goal.loop-init
loop-init c =
    let all : c.args.pairs - 0 ≡ c.args.pairs = omega arith in
    rw all (kept_first _ _ _ _ c.requires)

pub with_value-values-requires : goal.with_value-values-requires
with_value-values-requires c = c.loop.invariant.sized

pub loop-preserved : goal.loop-preserved
loop-preserved c =
    let l = c.loop in
    let left = c.args.pairs - l.counter in
    let next : left - 1 ≡ c.args.pairs - (l.counter + 1) = omega arith in
    rw next at
    (kept_further _ _ _ _ _ left _ l.invariant _ _ _ (whole_pair_lem _ l.at _ _ _ c.in-Ok.ensures) (omega arith) _
    (rw c.position.ensures at c.with_value-values.ensures))

pub returns-in-Err : goal.returns-in-Err
returns-in-Err c =
    let l = c.loop in
    kept_fault _ _ _ _ _ (c.args.pairs - l.counter) _ l.invariant (omega arith) c.in-Err.f c.in-Err.ensures _ c.no_pairs.ensures

pub returns : goal.returns
returns c =
    let l = c.loop in
    kept_last _ _ _ _ _ (c.args.pairs - l.counter) _ l.invariant (omega arith) _ refl refl refl refl
