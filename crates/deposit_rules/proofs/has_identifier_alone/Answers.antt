-- `deposit_rules::has_identifier_alone` meets its contract: by its keys, and by the place told of `I`.
use mathlib.Core.Path.{sym, ◌∙◌}
use Rattle.deposit_rules.proofs.Tables.{block_coded}
use Rattle.deposit_rules.proofs.Maps.{other_keys, no_identifier, text_is}
use Rattle.deposit_rules.proofs.has_identifier_alone.Goals as goal

pub returns-then-not-are_these : goal.returns-then-not-are_these
returns-then-not-are_these c = other_keys _ (sym (c.are_these.ensures.are _ block_coded) ∙ c.if-not-are_these.true)

pub returns-then-at-eq0 : goal.returns-then-at-eq0
returns-then-at-eq0 c =
    no_identifier _ (sym (c.are_these.ensures.are _ block_coded) ∙ c.if-not-are_these.false) _ c.read_pairs.ensures c.if-at-eq0.true

pub returns : goal.returns
returns c =
    c.is_some.ensures
    ∙ text_is _ (sym (c.are_these.ensures.are _ block_coded) ∙ c.if-not-are_these.false) _ c.read_pairs.ensures c.if-at-eq0.false _
    (rw c.from.ensures.result_value at c.read_text.ensures.result_value)
