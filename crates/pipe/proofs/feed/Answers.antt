-- `pipe::feed` meets its contract. The invariant: the run over the whole pack goes on from here, with the records told so far and their words written.
use Prim.Native.Nat.{◌+◌, ◌≤◌}
use mathlib.Core.Path.{◌≡◌, refl, ap, ◌∙◌}
use native.Mathlib.Omega.{arith}
use lib.ListN.{length, take}
use Rattle.slices.specs.Overwriting.{overwritten}
use Rattle.pack.specs.Reading.{Ending}
use Rattle.pipe.specs.Limit.{pipe_limit}
use Rattle.pipe.specs.Taking.{Progress, refused, ended, close}
use Rattle.pipe.specs.Whole.{piped}
use Rattle.pipe.specs.Feeding.{words_of, ending_in}
use Rattle.pipe.specs.States.{progress_of, call_of, notice_of}
use Rattle.pipe.specs.declared.Event.{Event}
use Rattle.pipe.proofs.Handing.{AllTold, Turn, turn_first, turn_inside, turn_wanted, turn_last, turn_fits, turn_complete, turn_refused, turn_over, never_unfit, turn_written, turn_length, told_count, told_ending}
use Rattle.pipe.proofs.feed.Goals as goal
use Rattle.pipe.proofs.feed.Goals.{After-slice_known-in-Complete-1, After-take-call}

pub part_end-stop-requires : goal.part_end-stop-requires
part_end-stop-requires c = omega arith

pub loop-k-init : goal.loop-k-init
loop-k-init c =
    let a = c.args in
    turn_first a.pack.now a.lengths.now a.told.now a.room c.part_end-stop.result (progress_of c.fresh-state.result) c.fresh-state.ensures c.part_end-stop.ensures

pub slice_bounds-take-count : goal.slice_bounds-take-count
slice_bounds-take-count c = c.loop-k.invariant.feeds.begun

pub slice_bounds-take-start : goal.slice_bounds-take-start
slice_bounds-take-start c = omega (arith, c.loop-k.invariant.feeds.begun, c.loop-k.invariant.feeds.inside)

pub slice_bounds-take-end : goal.slice_bounds-take-end
slice_bounds-take-end c = omega (arith, c.loop-k.invariant.feeds.begun, c.loop-k.invariant.feeds.inside)

-- the bytes that a call takes lie inside the pack
inside : (c : After-take-call) → c.loop-k.at + c.take-call.result.taken ≤ length c.args.pack.now
inside c = turn_inside c.loop-k.invariant (call_of c.take-call.result) c.take-call.ensures

-- where all records were told
ends : (c : After-take-call) (q : Progress) (e : Ending) → AllTold c.args.pack.now q c.loop-k.count → e ≡ ending_in (close q)
    → ((c.loop-k.count ≡ length (piped pipe_limit c.args.pack.now).entries) × (e ≡ (piped pipe_limit c.args.pack.now).ending))
    × (c.loop-k.told ≡ overwritten c.args.told.now 0 (words_of (take c.args.room (piped pipe_limit c.args.pack.now).entries)))
ends c q e h is = (
  (told_count h, is ∙ told_ending h),
  turn_written c.loop-k.invariant (call_of c.take-call.result) c.take-call.ensures c.requires q h,
)

-- the lent words keep their number
as_many : (c : After-take-call) → length c.loop-k.told ≡ length c.args.told.now
as_many c = turn_length c.loop-k.invariant (call_of c.take-call.result) c.take-call.ensures c.requires

-- what the call says
says : (c : After-take-call) (e : Event) → c.take-call.result.event ≡ e → (call_of c.take-call.result).notice ≡ notice_of e
says c e q = ap notice_of q

pub overflow_add-at : goal.overflow_add-at
overflow_add-at c = omega (arith, inside (goal.at.overflow_add-at c).After-take-call)

pub announced-requires : goal.announced-requires
announced-requires c = turn_fits c.loop-k.invariant (call_of c.take-call.result) c.take-call.ensures

pub shape_of-told-then-lengths-k : goal.shape_of-told-then-lengths-k
shape_of-told-then-lengths-k c = as_many (goal.at.shape_of-told-then-lengths-k c).After-take-call

pub returns-then-lengths-k-clause-records_value : goal.returns-then-lengths-k-clause-records_value
returns-then-lengths-k-clause-records_value c =
    let t = c in
    (ends (goal.at.returns-then-lengths-k-clause-records_value t).After-take-call (progress_of t.take-call.result.state) _
    (turn_last t.loop-k.invariant (call_of t.take-call.result) t.take-call.ensures (says (goal.at.returns-then-lengths-k-clause-records_value t).After-take-call _ c.in-Wanted.is) c.if-lengths-k.true)
    c.announced.ensures).0

pub returns-then-lengths-k-clause-told_after : goal.returns-then-lengths-k-clause-told_after
returns-then-lengths-k-clause-told_after c =
    let t = c in
    (ends (goal.at.returns-then-lengths-k-clause-told_after t).After-take-call (progress_of t.take-call.result.state) _
    (turn_last t.loop-k.invariant (call_of t.take-call.result) t.take-call.ensures (says (goal.at.returns-then-lengths-k-clause-told_after t).After-take-call _ c.in-Wanted.is) c.if-lengths-k.true)
    c.announced.ensures).1

pub overflow_add-k : goal.overflow_add-k
overflow_add-k c = omega (arith, c.if-lengths-k.false, c.well_formed.1.0)

pub part_end-stop-requires-in-Wanted : goal.part_end-stop-requires-in-Wanted
part_end-stop-requires-in-Wanted c = inside (goal.at.part_end-stop-requires-in-Wanted c).After-take-call

pub loop-k-smaller-in-Wanted : goal.loop-k-smaller-in-Wanted
loop-k-smaller-in-Wanted c = omega (arith, inside (goal.at.loop-k-smaller-in-Wanted c).After-take-call, c.if-lengths-k.false)

pub loop-k-preserved-in-Wanted : goal.loop-k-preserved-in-Wanted
loop-k-preserved-in-Wanted c =
    let t = c in
    turn_wanted t.loop-k.invariant (call_of t.take-call.result) t.take-call.ensures (says (goal.at.loop-k-preserved-in-Wanted t).After-take-call _ c.in-Wanted.is)
    c.part_end-stop-in-Wanted.result c.part_end-stop-in-Wanted.ensures c.if-lengths-k.false

pub tell-requires : goal.tell-requires
tell-requires c = omega (arith, as_many (goal.at.tell-requires c).After-take-call, c.requires)

says-2 : (c : After-slice_known-in-Complete-1) (e : Event) → c.take-call.result.event ≡ e → (call_of c.take-call.result).notice ≡ notice_of e
says-2 c e q = ap notice_of q

-- a record was complete, and some bytes taken
further : (c : After-slice_known-in-Complete-1) →
    let t = c in
    let l = t.loop-k in
    (1 ≤ t.take-call.result.taken)
    × Turn t.args.pack.now t.args.lengths.now t.args.told.now c.tell.new.told t.args.room
    (progress_of t.take-call.result.state) (l.at + t.take-call.result.taken) l.k l.stop (l.count + 1)
further c =
    let t = c in
    turn_complete t.loop-k.invariant (call_of t.take-call.result) t.take-call.ensures t.requires c.in-Complete.e
    (says-2 t _ c.in-Complete.is) c.tell.new.told c.tell.ensures

pub overflow_add-count : goal.overflow_add-count
overflow_add-count c = omega (arith, inside (goal.at.overflow_add-count c).After-take-call, c.loop-k.invariant.feeds.few, c.loop-k.invariant.feeds.begun, c.loop-k.invariant.feeds.inside, c.well_formed.0)

pub loop-k-smaller : goal.loop-k-smaller
loop-k-smaller c = omega (arith, inside (goal.at.loop-k-smaller c).After-take-call, (further (goal.at.loop-k-smaller c).After-slice_known-in-Complete-1).0)

pub loop-k-preserved : goal.loop-k-preserved
loop-k-preserved c = (further (goal.at.loop-k-preserved c).After-slice_known-in-Complete-1).1

pub shape_of-told-in-Refusal : goal.shape_of-told-in-Refusal
shape_of-told-in-Refusal c = as_many (goal.at.shape_of-told-in-Refusal c).After-take-call

pub returns-in-Refusal-clause-records_value : goal.returns-in-Refusal-clause-records_value
returns-in-Refusal-clause-records_value c =
    let t = c in
    let g = c.in-Refusal in
    (ends (goal.at.returns-in-Refusal-clause-records_value t).After-take-call (refused g.number g.place) _
    (turn_refused t.loop-k.invariant (call_of t.take-call.result) t.take-call.ensures g.number g.place (says (goal.at.returns-in-Refusal-clause-records_value t).After-take-call _ g.is)) refl).0

pub returns-in-Refusal-clause-told_after : goal.returns-in-Refusal-clause-told_after
returns-in-Refusal-clause-told_after c =
    let t = c in
    let g = c.in-Refusal in
    (ends (goal.at.returns-in-Refusal-clause-told_after t).After-take-call (refused g.number g.place) _
    (turn_refused t.loop-k.invariant (call_of t.take-call.result) t.take-call.ensures g.number g.place (says (goal.at.returns-in-Refusal-clause-told_after t).After-take-call _ g.is)) refl).1

pub shape_of-told-in-Over : goal.shape_of-told-in-Over
shape_of-told-in-Over c = as_many (goal.at.shape_of-told-in-Over c).After-take-call

pub returns-in-Over-clause-records_value : goal.returns-in-Over-clause-records_value
returns-in-Over-clause-records_value c =
    let t = c in
    let g = c.in-Over in
    (ends (goal.at.returns-in-Over-clause-records_value t).After-take-call (ended g.field-0) _ (turn_over t.loop-k.invariant (call_of t.take-call.result) t.take-call.ensures g.field-0 (says (goal.at.returns-in-Over-clause-records_value t).After-take-call _ g.is)) refl).0

pub returns-in-Over-clause-told_after : goal.returns-in-Over-clause-told_after
returns-in-Over-clause-told_after c =
    let t = c in
    let g = c.in-Over in
    (ends (goal.at.returns-in-Over-clause-told_after t).After-take-call (ended g.field-0) _ (turn_over t.loop-k.invariant (call_of t.take-call.result) t.take-call.ensures g.field-0 (says (goal.at.returns-in-Over-clause-told_after t).After-take-call _ g.is)) refl).1

pub shape_of-told-in-Malformed : goal.shape_of-told-in-Malformed
shape_of-told-in-Malformed c = as_many (goal.at.shape_of-told-in-Malformed c).After-take-call

pub returns-in-Malformed : goal.returns-in-Malformed
returns-in-Malformed c =
    let t = c in
    absurd (never_unfit t.loop-k.invariant (call_of t.take-call.result) t.take-call.ensures (says (goal.at.returns-in-Malformed t).After-take-call _ c.in-Malformed.is))
