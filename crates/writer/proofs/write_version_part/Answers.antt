-- The texts of a struct that is admitted are those of a valid identifier, and its part is stored.
use mathlib.Core.Path.{◌≡◌, refl, sym, ap, ◌∙◌}
use Rattle.std.specs.Prelude.{Some}
use Rattle.std.proofs.lemmas.Result.{err_from_is_err_and}
use Rattle.held_identifier.specs.Held.{named}
use Rattle.writer.specs.Writing.{part_written, part_after}
use Rattle.writer.proofs.Parts.{no_part}
use Rattle.writer.proofs.write_version_part.Goals as goal

pub store_version_part-requires : goal.store_version_part-requires
store_version_part-requires c = c.in_ok-texts.ensures.1

pub returns-clause-answer : goal.returns-clause-answer
returns-clause-answer c = let valid = c.in_ok-texts.ensures.1 in rw (c.in_ok-texts.ensures.0, valid) c.store_version_part.ensures.told

pub returns-clause-buffer : goal.returns-clause-buffer
returns-clause-buffer c = let valid = c.in_ok-texts.ensures.1 in rw (c.in_ok-texts.ensures.0, valid) c.store_version_part.ensures.left

pub returns-in_err-texts-clause-answer : goal.returns-in_err-texts-clause-answer
unfolding part_written part_after
returns-in_err-texts-clause-answer c =
    let e = err_from_is_err_and c.from_residual.result c.from_residual.ensures.1 in
    rw (e.1, e.2, c.in_err-texts.ensures.0, no_part c.args.marker (named c.args.id) c.in_err-texts.ensures.1)

pub returns-in_err-texts-clause-buffer : goal.returns-in_err-texts-clause-buffer
unfolding part_written part_after
returns-in_err-texts-clause-buffer c = rw (no_part c.args.marker (named c.args.id) c.in_err-texts.ensures.1)
