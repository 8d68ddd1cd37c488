-- `xxh64::State::take_stripes` meets its contract. With none begun, whole stripes are taken from where they stand.
use Rattle.std.proofs.Common.{◌≡◌, ◌+◌, ◌*◌, ◌%◌, ◌^◌, ◌<◌, take, refl, sym, ap, ◌∙◌, arith, rules}
use Rattle.xxh64.specs.Xxh64.{add}
use Rattle.xxh64.specs.Parts.{hashing_of, pushed_stripes}
use Rattle.xxh64.proofs.States.{striped_is}
use Rattle.xxh64.proofs.State.take_stripes.Goals as goal

pub returns : goal.returns
unfolding add hashing_of
returns c =
    let b = c in
    let t = b.args.self in
    let n = b.args.n in
    let fits : t.count < 2 ^ 64 = search rules in
    let r = c.stripes-acc.ensures in
    let a = c.accumulators.ensures in
    let none : (t.count + 32 * n) % 2 ^ 64 % 32 ≡ 0 = omega (arith, b.requires.0) in
    striped_is t b.args.s.now n _ (rw a.0 at r.acc1_value) (rw a.1 at r.acc2_value) (rw a.2 at r.acc3_value) (rw a.3 at r.acc4_value) refl none
    ∙ sym (pushed_stripes (hashing_of t) b.args.s.now n (ap (λ k. take k t.held) b.requires.0) fits b.requires.1)
