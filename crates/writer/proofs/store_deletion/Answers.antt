-- The lengths are tested; then the value is written, and the header in front of it.
use mathlib.Core.Path.{refl, ap, ◌∙◌}
use Rattle.std.specs.Prelude.{Err}
use Rattle.std.proofs.lemmas.Result.{err_from_is_err_and}
use native.Mathlib.Omega.{arith}
use Rattle.identifier.specs.Identity.{Identity, identity}
use Rattle.records.specs.Record.{version_delete_tag}
use Rattle.writer.specs.Values.{part_value, delete_part}
use Rattle.writer.proofs.Stores.{Tested, stores_nothing, fits, value_fits, stores_record}
use Rattle.writer.proofs.Fixed.{part_value_size}
use Rattle.writer.proofs.store_deletion.Goals as goal
use Rattle.writer.proofs.store_deletion.Goals.{After-room, Start}

-- the identifier handed in
abbrev of : Start → Identity
of s = identity s.args.texts.ulid.now s.args.texts.bucket.now s.args.texts.object.now

abbrev of-2 : After-room → Identity
of-2 s = identity s.args.texts.ulid.now s.args.texts.bucket.now s.args.texts.object.now

-- the lengths that the test of the room was given
tested : (c : After-room) → Tested c.args.used version_delete_tag (part_value (delete_part (of-2 c) c.args.deleteid.now)) c.args.buf.now c.part_value_size-value.result c.room.result
tested c = record { size = part_value_size _ _ _ c.delete_part_size-part.ensures.0 c.part_value_size-value.ensures; answer = c.room.ensures }

pub overflow_add-start : goal.overflow_add-start
overflow_add-start c = omega (arith, fits (tested (goal.at.overflow_add-start c).After-room) c.in_ok-end.was)

pub put_delete_value-requires : goal.put_delete_value-requires
put_delete_value-requires c =
    let at_room = c in
    let at-delete-part-size = at_room in
    let entry = at-delete-part-size in
    (entry.requires.0, entry.requires.1, at-delete-part-size.delete_part_size-part.ensures.0, at-delete-part-size.delete_part_size-part.ensures.1, value_fits (tested (goal.at.put_delete_value-requires at_room).After-room) c.in_ok-end.was)

pub put_header-requires : goal.put_header-requires
put_header-requires c =
    let at-put-delete-value = c in
    let at_end = at-put-delete-value in
    let at_room = at_end in
    omega (arith, fits (tested (goal.at.put_header-requires at_room).After-room) at_end.in_ok-end.was, at-put-delete-value.put_delete_value.auto.out)

pub returns : goal.returns
returns c =
    let at-put-delete-value = c in
    let at_end = at-put-delete-value in
    let at_room = at_end in
    stores_record (tested (goal.at.returns at_room).After-room) at_end.in_ok-end.was at-put-delete-value.put_delete_value.ensures c.put_header.ensures

pub returns-in_err-end : goal.returns-in_err-end
returns-in_err-end c =
    let p = err_from_is_err_and c.from_residual.result c.from_residual.ensures.1 in
    stores_nothing (tested (goal.at.returns-in_err-end c).After-room) _ _ c.in_err-end.was (p.1 ∙ ap Err p.2)
