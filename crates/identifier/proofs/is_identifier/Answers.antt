-- The three tests are those of the definition.
use mathlib.Core.Path.{sym, ◌∙◌}
use mathlib.Core.Bool.{true≢false}
use Rattle.identifier.specs.Identity.{is_valid}
use Rattle.identifier.proofs.is_identifier.Goals as goal
use Rattle.identifier.proofs.is_identifier.Goals.{then-is_ulid, else-is_ulid}

pub returns-then-is_bucket : goal.returns-then-is_bucket
unfolding is_valid
returns-then-is_bucket c = elim c.if-is_ulid.branch [
  | then-is_ulid w ↦ rw (← c.is_ulid.ensures, w.if-is_ulid.true, ← w.is_bucket.ensures, ← w.value-is, c.if-is_bucket.true) c.is_object.ensures
  | else-is_ulid w ↦ absurd (true≢false (sym c.if-is_bucket.true ∙ w.value-is ∙ w.if-is_ulid.false))
]

pub returns-else-is_bucket : goal.returns-else-is_bucket
unfolding is_valid
returns-else-is_bucket c = elim c.if-is_ulid.branch [
  | then-is_ulid w ↦ c.if-is_bucket.false ∙ rw (← c.is_ulid.ensures, w.if-is_ulid.true, ← w.is_bucket.ensures, ← w.value-is, c.if-is_bucket.false)
  | else-is_ulid w ↦ c.if-is_bucket.false ∙ rw (← c.is_ulid.ensures, w.if-is_ulid.false)
]
