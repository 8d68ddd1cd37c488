-- What was tested is held.
use Rattle.held_identifier.specs.Held.{answered}
use Rattle.identifier.specs.Identity.{identity_of, sizes}
use mathlib.Core.Path.{sym, ◌∙◌}
use Rattle.held_identifier.proofs.from_parts.Goals as goal

pub hold-requires : goal.hold-requires
hold-requires c = let s = sizes _ (sym c.is_identifier.ensures ∙ c.if-is_identifier.true) in (s.ulid, s.bucketmost, s.objectmost)

pub returns-then-is_identifier : goal.returns-then-is_identifier
unfolding answered identity_of
returns-then-is_identifier c = rw (sym c.is_identifier.ensures ∙ c.if-is_identifier.true, c.hold.ensures)

pub returns-else-is_identifier : goal.returns-else-is_identifier
unfolding answered identity_of
returns-else-is_identifier c = rw (sym c.is_identifier.ensures ∙ c.if-is_identifier.false)
