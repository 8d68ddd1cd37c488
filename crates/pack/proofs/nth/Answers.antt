-- The walker's answers are the reading's, by the place that it stands at.
use Rattle.std.proofs.Common.{◌≡◌, ◌∙◌, ap, add-one, arith}
use Rattle.refusals.specs.Limit.{pack_limit}
use Rattle.pack.specs.Walk.{Call, place_from, place_of, turn_at}
use Rattle.pack.proofs.Walk.{walk_yields}
use Rattle.pack.proofs.nth.Goals as goal

pub loop-init : goal.loop-init
unfolding place_from
loop-init c = record { pack = rw c.new-w.ensures.0; place = c.new-w.ensures.1 }

pub loop-preserved : goal.loop-preserved
unfolding place_from
loop-preserved c =
    let was = c.loop.invariant in
    let called : turn_at pack_limit c.loop.w.pack.now c.loop.w.at ≡ turn_at pack_limit c.args.pack.now (place_of pack_limit c.args.pack.now c.loop.counter)
    = rw (was.pack, was.place) in
    record {
      pack = rw c.next.ensures.1.0 was.pack;
      place = c.next.ensures.1.1 ∙ ap (λ (d : Call). d.place) called ∙ rw add-one;
    }

pub returns : goal.returns
returns c =
    let was = c.loop.invariant in
    let all : c.loop.counter ≡ c.args.n = omega arith in
    c.next-2.ensures.0 ∙ rw (was.pack, was.place, all) (walk_yields pack_limit c.args.pack.now c.args.n)
