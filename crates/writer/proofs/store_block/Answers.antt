-- The lengths are tested; then the value is written, and the header in front of it.
use mathlib.Core.Path.{refl, ap, ◌∙◌}
use Rattle.std.specs.Prelude.{Err}
use Rattle.std.proofs.lemmas.Result.{err_from_is_err_and}
use native.Mathlib.Omega.{arith}
use lib.ListN.{length}
use Rattle.identifier.specs.Identity.{Identity, identity}
use Rattle.records.specs.Record.{block_tag}
use Rattle.writer.specs.Limits.{content_within, too_long}
use Rattle.writer.specs.Values.{block_value}
use Rattle.writer.specs.Writing.{block}
use Rattle.writer.proofs.Stores.{Tested, stores_nothing, fits, value_fits, stores_record}
use Rattle.writer.proofs.Fixed.{block_value_size}
use Rattle.writer.proofs.store_block.Goals as goal
use Rattle.writer.proofs.store_block.Goals.{After-room, Start}

-- the identifier handed in
abbrev of : Start → Identity
of s = identity s.args.texts.ulid.now s.args.texts.bucket.now s.args.texts.object.now

abbrev of-2 : After-room → Identity
of-2 s = identity s.args.texts.ulid.now s.args.texts.bucket.now s.args.texts.object.now

-- the lengths that the test of the room was given
tested : (c : After-room) → Tested c.args.used block_tag (block_value (of-2 c) c.args.content.now) c.args.buf.now c.block_value_size-value.result c.room.result
tested c = record { size = block_value_size _ _ _ _ c.block_part_size-part.ensures.0 c.block_value_size-value.ensures; answer = c.room.ensures }

pub returns-then-content-gt-LIMIT : goal.returns-then-content-gt-LIMIT
returns-then-content-gt-LIMIT c =
    let entry = c in
    let d = entry.args.content.now in
    let e = too_long _ (length entry.args.buf.now) entry.args.used block_tag d _ (content_within (block (of (goal.at.returns-then-content-gt-LIMIT entry).Start) d)) c.if-content-gt-LIMIT.true in
    record { told = e; left = rw (← e) refl }

pub overflow_add-start : goal.overflow_add-start
overflow_add-start c = omega (arith, fits (tested (goal.at.overflow_add-start c).After-room) c.in_ok-end.was)

pub put_block_value-requires : goal.put_block_value-requires
put_block_value-requires c =
    let at_room = c in
    let at-block-part-size = at_room in
    let entry = at-block-part-size in
    (entry.requires, at-block-part-size.block_part_size-part.ensures.0, at-block-part-size.block_part_size-part.ensures.1, value_fits (tested (goal.at.put_block_value-requires at_room).After-room) c.in_ok-end.was)

pub put_header-requires : goal.put_header-requires
put_header-requires c =
    let at-put-block-value = c in
    let at_end = at-put-block-value in
    let at_room = at_end in
    omega (arith, fits (tested (goal.at.put_header-requires at_room).After-room) at_end.in_ok-end.was, at-put-block-value.put_block_value.auto.out)

pub returns : goal.returns
returns c =
    let at-put-block-value = c in
    let at_end = at-put-block-value in
    let at_room = at_end in
    stores_record (tested (goal.at.returns at_room).After-room) at_end.in_ok-end.was at-put-block-value.put_block_value.ensures c.put_header.ensures

pub returns-in_err-end : goal.returns-in_err-end
returns-in_err-end c =
    let p = err_from_is_err_and c.from_residual.result c.from_residual.ensures.1 in
    stores_nothing (tested (goal.at.returns-in_err-end c).After-room) _ _ c.in_err-end.was (p.1 ∙ ap Err p.2)
