-- `xxh64::State::finish` meets its contract. The count tells whether there was a stripe, and how many bytes are held.
use Rattle.std.proofs.Common.{◌≡◌, length, sym, arith, rules, le-ltb, lt-ltb}
use Rattle.xxh64.specs.Parts.{finished, hashing_of}
use Rattle.xxh64.proofs.States.{held_length}
use Rattle.xxh64.proofs.State.finish.Goals as goal

pub slice_bounds-held-end : goal.slice_bounds-held-end
slice_bounds-held-end c =
    let long : length c.args.self.held ≡ 32 = search rules in
    omega (arith, long)

pub slice_bounds-finish-end : goal.slice_bounds-finish-end
unfolding hashing_of
slice_bounds-finish-end c =
    let b = c in
    let long : length b.args.self.held ≡ 32 = search rules in
    sym (held_length b.args.self long)

pub finish-requires : goal.finish-requires
unfolding hashing_of
finish-requires c =
    let b = c in
    let long : length b.args.self.held ≡ 32 = search rules in
    omega (arith, held_length b.args.self long)

pub returns-then-self-lt32 : goal.returns-then-self-lt32
unfolding finished hashing_of
returns-then-self-lt32 c = rw (lt-ltb _ _ c.if-self-lt32.true) c.finish.ensures

pub slice_bounds-held-end-2 : goal.slice_bounds-held-end-2
slice_bounds-held-end-2 c =
    let long : length c.args.self.held ≡ 32 = search rules in
    omega (arith, long)

pub slice_bounds-finish-end-2 : goal.slice_bounds-finish-end-2
unfolding hashing_of
slice_bounds-finish-end-2 c =
    let b = c in
    let long : length b.args.self.held ≡ 32 = search rules in
    sym (held_length b.args.self long)

pub finish-requires-2 : goal.finish-requires-2
unfolding hashing_of
finish-requires-2 c =
    let b = c in
    let long : length b.args.self.held ≡ 32 = search rules in
    omega (arith, held_length b.args.self long)

pub returns : goal.returns
unfolding finished hashing_of
returns c =
    let a = c.accumulators.ensures in
    rw (le-ltb _ _ c.if-self-lt32.false)
    (rw (c.converge.ensures, a.0, a.1, a.2, a.3) at c.finish-2.ensures)
