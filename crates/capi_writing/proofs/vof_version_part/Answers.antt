-- `capi_writing::vof_version_part` meets its contract: the struct read from the text names what the text reads as.
use mathlib.Core.Path.{◌≡◌, sym, ap, ◌∙◌}
use Rattle.std.specs.Prelude.{None}
use lib.ListN.{length}
use Rattle.identifier.specs.Composite.{identity_in}
use Rattle.held_identifier.specs.Held.{named}
use Rattle.writer.specs.Writing.{version_part_of, part_written, part_after}
use Rattle.capi_writing.specs.Write.{written_word, is_set}
use Rattle.capi_writing.proofs.Bounds.{part_within}
use Rattle.capi_writing.proofs.Identities.{read_names, none_read}
use Rattle.capi_writing.proofs.vof_version_part.Goals as goal
use Rattle.capi_writing.proofs.vof_version_part.Goals.{In-Some, In_default}

names : (c : In-Some) → named c.in-Some.identifier ≡ identity_in c.args.id.now
names c = read_names _ _ (sym c.read_composite.ensures ∙ c.in-Some.is)

none : (c : In_default) → identity_in c.args.id.now ≡ None
none c = none_read _ (λ id e. c.in_default.not-Some id (c.read_composite.ensures ∙ e))

pub word_of-requires : goal.word_of-requires
word_of-requires c = part_within _ (is_set c.args.marker) _ c.write_version_part.result c.write_version_part.ensures.answer

pub returns-clause-answer : goal.returns-clause-answer
returns-clause-answer c =
    let same = names (goal.at.returns-clause-answer c).In-Some in
    c.word_of.ensures ∙ ap written_word (c.write_version_part.ensures.answer ∙ ap (λ o. part_written (length c.args.out.now) (version_part_of (is_set c.args.marker) o)) same)

pub returns-clause-buffer : goal.returns-clause-buffer
returns-clause-buffer c =
    let same = names (goal.at.returns-clause-buffer c).In-Some in
    c.write_version_part.ensures.buffer ∙ ap (λ o. part_after (version_part_of (is_set c.args.marker) o) c.args.out.now) same

pub returns-in_default-clause-answer : goal.returns-in_default-clause-answer
unfolding part_written
returns-in_default-clause-answer c = rw (none (goal.at.returns-in_default-clause-answer c).In_default, c.answer.ensures)

pub returns-in_default-clause-buffer : goal.returns-in_default-clause-buffer
unfolding part_after
returns-in_default-clause-buffer c = rw (none (goal.at.returns-in_default-clause-buffer c).In_default)
