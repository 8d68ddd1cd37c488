-- `capi_writing::vof_write_version` meets its contract: it answers what the writer does.
use mathlib.Core.Path.{ap, ◌∙◌}
use Rattle.capi_writing.specs.Write.{written_word}
use Rattle.capi_writing.proofs.Bounds.{count_within}
use Rattle.capi_writing.proofs.vof_write_version.Goals as goal

pub word_of-requires : goal.word_of-requires
word_of-requires c =
    let called = c.write_version in
    count_within _ _ _ called.result called.ensures.answer

pub returns-clause-answer : goal.returns-clause-answer
returns-clause-answer c =
    let called = c.write_version in
    c.word_of.ensures ∙ ap written_word called.ensures.answer

pub returns-clause-buffer : goal.returns-clause-buffer
returns-clause-buffer c =
    let called = c.write_version in
    called.ensures.buffer
