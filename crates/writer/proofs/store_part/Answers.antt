-- The lengths are tested; then the value is written, and the header in front of it.
use mathlib.Core.Path.{refl, ap, ◌∙◌}
use Rattle.std.specs.Prelude.{Err}
use Rattle.std.proofs.lemmas.Result.{err_from_is_err_and}
use native.Mathlib.Omega.{arith}
use borrow.Author.Rules.{rules}
use lib.ListN.{length}
use Rattle.writer.specs.Limits.{content_within, too_long}
use Rattle.writer.specs.Values.{part_value}
use Rattle.writer.specs.Writing.{version}
use Rattle.writer.proofs.Stores.{Tested, stores_nothing, fits, value_fits, stores_record}
use Rattle.writer.proofs.Fixed.{part_value_size}
use Rattle.writer.proofs.store_part.Goals as goal
use Rattle.writer.proofs.store_part.Goals.{After-room}

-- the lengths that the test of the room was given
tested : (c : After-room) → Tested c.args.used c.args.tag (part_value c.args.part.now) c.args.buf.now c.part_value_size-value.result c.room.result
tested c = record { size = part_value_size _ _ _ refl c.part_value_size-value.ensures; answer = c.room.ensures }

pub returns-then-part-gt-LIMIT : goal.returns-then-part-gt-LIMIT
returns-then-part-gt-LIMIT c =
    let entry = c in
    let p = entry.args.part.now in
    let e = too_long _ (length entry.args.buf.now) entry.args.used entry.args.tag p _ (content_within (version p)) c.if-part-gt-LIMIT.true in
    record { told = e; left = rw (← e) refl }

pub overflow_add-used : goal.overflow_add-used
overflow_add-used c = omega (arith, fits (tested (goal.at.overflow_add-used c).After-room) c.in_ok-end.was)

pub put_part_value-requires : goal.put_part_value-requires
put_part_value-requires c = (search rules, value_fits (tested (goal.at.put_part_value-requires c).After-room) c.in_ok-end.was)

pub put_header-requires : goal.put_header-requires
put_header-requires c =
    let at-put-part-value = c in
    let at_end = at-put-part-value in
    let at_room = at_end in
    omega (arith, fits (tested (goal.at.put_header-requires at_room).After-room) at_end.in_ok-end.was, at-put-part-value.put_part_value.auto.out)

pub returns : goal.returns
returns c =
    let at-put-part-value = c in
    let at_end = at-put-part-value in
    let at_room = at_end in
    stores_record (tested (goal.at.returns at_room).After-room) at_end.in_ok-end.was at-put-part-value.put_part_value.ensures c.put_header.ensures

pub returns-in_err-end : goal.returns-in_err-end
returns-in_err-end c =
    let p = err_from_is_err_and c.from_residual.result c.from_residual.ensures.1 in
    stores_nothing (tested (goal.at.returns-in_err-end c).After-room) _ _ c.in_err-end.was (p.1 ∙ ap Err p.2)
