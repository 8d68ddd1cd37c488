-- `xxh64::State::hold` meets its contract. What was written stands after the bytes that were held.
use Rattle.std.proofs.Common.{◌≡◌, ◌^◌, ◌<◌, length, refl, arith, rules}
use Rattle.xxh64.specs.Xxh64.{add}
use Rattle.xxh64.proofs.States.{held_is}
use Rattle.xxh64.proofs.State.hold.Goals as goal

pub returns : goal.returns
unfolding add
returns c =
    let b = c in
    let long : length b.args.self.held ≡ 32 = search rules in
    let fits : b.args.self.count < 2 ^ 64 = search rules in
    held_is b.args.self long b.args.s.now (omega (arith, b.requires)) c.write_bytes.ensures.out_after fits b.requires refl
