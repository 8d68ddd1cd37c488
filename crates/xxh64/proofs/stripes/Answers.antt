-- `xxh64::stripes` meets its contract. The invariant: each accumulator has taken one lane of each of k stripes.
use Rattle.std.proofs.Common.{◌≡◌, ◌*◌, sym, refl, ap, zero-add, arith, rules}
use Rattle.xxh64.specs.Xxh64.{lane, round, taken}
use Rattle.xxh64.proofs.Laws.{taken_more}
use Rattle.xxh64.proofs.stripes.Goals as goal

pub loop-k-init : goal.loop-k-init
unfolding taken
loop-k-init c = search rules

pub loop-k-preserved : goal.loop-k-preserved
loop-k-preserved c =
    let s = c.args.s.now in
    let v = c.loop-k.invariant in
    let r = c.stripe-acc.ensures in (
      search rules,
      taken_more round 8 32 _ 0 _ _ v.1 (sym (ap (λ n. lane s n 8) (zero-add (32 * c.loop-k.k)))) r.acc1_value,
      taken_more round 8 32 _ 8 _ _ v.2 refl r.acc2_value,
      taken_more round 8 32 _ 16 _ _ v.3 refl r.acc3_value,
      taken_more round 8 32 _ 24 _ _ v.4 refl r.acc4_value,
    )

pub returns-clause-acc1_value : goal.returns-clause-acc1_value
returns-clause-acc1_value c =
    let v = c.loop-k.invariant in
    let e : c.loop-k.k ≡ c.args.n = omega arith in
    rw e at v.1

pub returns-clause-acc2_value : goal.returns-clause-acc2_value
returns-clause-acc2_value c =
    let v = c.loop-k.invariant in
    let e : c.loop-k.k ≡ c.args.n = omega arith in
    rw e at v.2

pub returns-clause-acc3_value : goal.returns-clause-acc3_value
returns-clause-acc3_value c =
    let v = c.loop-k.invariant in
    let e : c.loop-k.k ≡ c.args.n = omega arith in
    rw e at v.3

pub returns-clause-acc4_value : goal.returns-clause-acc4_value
returns-clause-acc4_value c =
    let v = c.loop-k.invariant in
    let e : c.loop-k.k ≡ c.args.n = omega arith in
    rw e at v.4
