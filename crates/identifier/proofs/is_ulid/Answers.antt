-- The three tests are those of the definition.
use borrow.Author.Tests.{eq-eqb, ne_eqb}
use mathlib.Core.Path.{sym, ◌∙◌}
use mathlib.Core.Bool.{true≢false}
use Rattle.identifier.specs.Ulid.{is_character, is_ulid}
use Rattle.identifier.proofs.Searches.{all_is}
use Rattle.identifier.proofs.is_ulid.Goals as goal
use Rattle.identifier.proofs.is_ulid.Goals.{then-s-eq26, else-s-eq26}

pub returns-then-are_characters : goal.returns-then-are_characters
unfolding is_ulid
returns-then-are_characters c = elim c.if-s-eq26.branch [
  | then-s-eq26 w ↦ rw (eq-eqb _ _ w.if-s-eq26.true, ← all_is is_character c.args.s.now, ← w.are_characters.ensures, ← w.value-is, c.if-are_characters.true)
  | else-s-eq26 w ↦ absurd (true≢false (sym c.if-are_characters.true ∙ w.value-is ∙ ne_eqb _ _ w.if-s-eq26.false))
]

pub returns-else-are_characters : goal.returns-else-are_characters
unfolding is_ulid
returns-else-are_characters c = elim c.if-s-eq26.branch [
  | then-s-eq26 w ↦ c.if-are_characters.false
      ∙ rw (eq-eqb _ _ w.if-s-eq26.true, ← all_is is_character c.args.s.now, ← w.are_characters.ensures, ← w.value-is, c.if-are_characters.false)
  | else-s-eq26 w ↦ c.if-are_characters.false ∙ rw (ne_eqb _ _ w.if-s-eq26.false)
]
