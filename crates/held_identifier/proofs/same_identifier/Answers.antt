-- The tests of the definition.
use Rattle.std.specs.Prelude.{Option, None, Some}
use mathlib.Core.Path.{◌≡◌, refl, sym, ◌∙◌}
use mathlib.Core.Bool.{false, true≢false}
use Rattle.identifier.specs.Identity.{Identity, same_identity}
use Rattle.held_identifier.specs.Held.{same}
use Rattle.held_identifier.proofs.same_identifier.Goals as goal
use Rattle.held_identifier.proofs.same_identifier.Goals.{then-same_bytes, else-same_bytes}

none_same : (x : Option Identity) → same x None ≡ false
unfolding same
none_same None = refl
none_same (Some i) = refl

pub returns-in_default : goal.returns-in_default
unfolding same
returns-in_default c = rw (← c.in_default.ensures)

pub returns-in_default-texts : goal.returns-in_default-texts
returns-in_default-texts c = rw (← c.in_default-texts.ensures) (sym (none_same _))

pub returns-then-same_bytes-2 : goal.returns-then-same_bytes-2
unfolding same same_identity
returns-then-same_bytes-2 c = rw (← c.in-Some.ensures, ← c.in-Some-texts.ensures, ← c.same_bytes.ensures) (elim c.if-same_bytes.branch [
  | then-same_bytes w ↦ rw (w.if-same_bytes.true, ← w.same_bytes-then-same_bytes.ensures, ← w.value-is, c.if-same_bytes-2.true) c.same_bytes-then-same_bytes-2.ensures
  | else-same_bytes w ↦ absurd (true≢false (sym c.if-same_bytes-2.true ∙ w.value-is ∙ w.if-same_bytes.false))
])

pub returns-else-same_bytes-2 : goal.returns-else-same_bytes-2
unfolding same same_identity
returns-else-same_bytes-2 c = rw (← c.in-Some.ensures, ← c.in-Some-texts.ensures, ← c.same_bytes.ensures) (elim c.if-same_bytes.branch [
  | then-same_bytes w ↦ c.if-same_bytes-2.false ∙ rw (w.if-same_bytes.true, ← w.same_bytes-then-same_bytes.ensures, ← w.value-is, c.if-same_bytes-2.false)
  | else-same_bytes w ↦ c.if-same_bytes-2.false ∙ rw (w.if-same_bytes.false)
])
