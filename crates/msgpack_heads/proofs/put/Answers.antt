-- `msgpack_heads::put` meets its contract: the first byte and the number, written one after the other, are the form.
use mathlib.Core.Path.{◌∙◌}
use native.Mathlib.Omega.{arith}
use Rattle.msgpack_heads.proofs.Forms.{no_place, unwritten, next_place_lem, both_written}
use Rattle.msgpack_heads.proofs.put.Goals as goal

pub returns-then-out-size-clause-result_value : goal.returns-then-out-size-clause-result_value
returns-then-out-size-clause-result_value c = no_place c.args.out.now c.args.at c.args.f.first c.args.f.width c.args.n (omega arith)

pub returns-then-out-size-clause-out_after : goal.returns-then-out-size-clause-out_after
returns-then-out-size-clause-out_after c = unwritten c.args.out.now c.args.at c.args.f.first c.args.f.width c.args.n (omega arith)

pub returns-then-out-size-2-clause-result_value : goal.returns-then-out-size-2-clause-result_value
returns-then-out-size-2-clause-result_value c = no_place c.args.out.now c.args.at c.args.f.first c.args.f.width c.args.n (omega arith)

pub returns-then-out-size-2-clause-out_after : goal.returns-then-out-size-2-clause-out_after
returns-then-out-size-2-clause-out_after c = unwritten c.args.out.now c.args.at c.args.f.first c.args.f.width c.args.n (omega arith)

pub returns-clause-result_value : goal.returns-clause-result_value
returns-clause-result_value c =
    let a = c in
    next_place_lem a.args.out.now a.args.at a.args.f.first a.args.f.width a.args.n (omega arith)

pub returns-clause-out_after : goal.returns-clause-out_after
returns-clause-out_after c =
    let a = c in
    c.write_big-2.ensures.out_after
    ∙ rw c.write_big.ensures.out_after (both_written a.args.out.now a.args.at a.args.f.first a.args.f.width a.args.n (omega arith) a.requires.0 a.requires.1)
