-- `xxh64::State::fill` meets its contract. The bytes held and those written are the stripe that is taken.
use Rattle.std.proofs.Common.{◌≡◌, ◌+◌, ◌%◌, ◌^◌, length, refl, sym, ap, ◌∙◌, arith, rules}
use Rattle.xxh64.specs.Xxh64.{add}
use Rattle.xxh64.specs.Parts.{striped, hashing_of, pushed_whole}
use Rattle.xxh64.proofs.States.{held_length, stripe_whole, striped_is}
use Rattle.xxh64.proofs.State.fill.Goals as goal

pub returns : goal.returns
unfolding add hashing_of
returns c =
    let b = c in
    let t = b.args.self in
    let s = b.args.s.now in
    let long : length t.held ≡ 32 = search rules in
    let r = c.stripes-acc.ensures in
    let a = c.accumulators.ensures in
    let none : (t.count + length s) % 2 ^ 64 % 32 ≡ 0 = omega (arith, b.requires) in
    striped_is t _ 1 _ (rw a.0 at r.acc1_value) (rw a.1 at r.acc2_value) (rw a.2 at r.acc3_value) (rw a.3 at r.acc4_value) refl none
    ∙ sym
    (pushed_whole (hashing_of t) s (omega (arith, b.requires)) (omega (arith, b.requires, held_length t long))
    ∙ ap (λ h. striped (hashing_of t) h 1 (add t.count (length s))) (stripe_whole t long s (omega (arith, b.requires)) c.write_bytes.ensures.out_after b.requires))
