-- `records::contents` meets its contract, by the tag.
use borrow.Author.Tests.{eq-eqb, ne_eqb}
use mathlib.Core.Path.{◌∙◌}
use Rattle.records.specs.Record.{contents}
use Rattle.records.proofs.contents.Goals as goal

pub returns-then-tag-eq-BLOCK-clause-result_value : goal.returns-then-tag-eq-BLOCK-clause-result_value
unfolding contents
returns-then-tag-eq-BLOCK-clause-result_value c = c.block.ensures.result_value ∙ rw (eq-eqb _ _ c.if-tag-eq-BLOCK.true)

pub returns-then-tag-eq-BLOCK-clause-inside : goal.returns-then-tag-eq-BLOCK-clause-inside
unfolding contents
returns-then-tag-eq-BLOCK-clause-inside c = c.block.ensures.inside

pub returns-then-tag-eq-VERSION-clause-result_value : goal.returns-then-tag-eq-VERSION-clause-result_value
unfolding contents
returns-then-tag-eq-VERSION-clause-result_value c = c.version.ensures.result_value ∙ rw (ne_eqb _ _ c.if-tag-eq-BLOCK.false, eq-eqb _ _ c.if-tag-eq-VERSION.true)

pub returns-then-tag-eq-VERSION-clause-inside : goal.returns-then-tag-eq-VERSION-clause-inside
unfolding contents
returns-then-tag-eq-VERSION-clause-inside c = c.version.ensures.inside

pub returns-then-tag-eq-VERSION_DELETE-clause-result_value : goal.returns-then-tag-eq-VERSION_DELETE-clause-result_value
unfolding contents
returns-then-tag-eq-VERSION_DELETE-clause-result_value c = c.version_delete.ensures.result_value
    ∙ rw (ne_eqb _ _ c.if-tag-eq-BLOCK.false, ne_eqb _ _ c.if-tag-eq-VERSION.false, eq-eqb _ _ c.if-tag-eq-VERSION_DELETE.true)

pub returns-then-tag-eq-VERSION_DELETE-clause-inside : goal.returns-then-tag-eq-VERSION_DELETE-clause-inside
unfolding contents
returns-then-tag-eq-VERSION_DELETE-clause-inside c = c.version_delete.ensures.inside

pub returns-clause-result_value : goal.returns-clause-result_value
unfolding contents
returns-clause-result_value c = c.pack_list.ensures.result_value
    ∙ rw (ne_eqb _ _ c.if-tag-eq-BLOCK.false, ne_eqb _ _ c.if-tag-eq-VERSION.false, ne_eqb _ _ c.if-tag-eq-VERSION_DELETE.false)

pub returns-clause-inside : goal.returns-clause-inside
unfolding contents
returns-clause-inside c = c.pack_list.ensures.inside
