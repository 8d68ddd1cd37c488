-- `deposit_rules::are_name_bytes` meets its contract: the bytes passed keep the rule, and what matters of them is whether the last is a dot.
use Rattle.std.proofs.Common.{sym, ◌∙◌, ⊎_elim, arith, ne_eqb}
use Rattle.deposit_rules.specs.Buckets.{dot}
use Rattle.deposit_rules.proofs.Loops.{name_fails, name_dots, name_on, name_end}
use Rattle.deposit_rules.proofs.are_name_bytes.Goals as goal
use Rattle.deposit_rules.proofs.are_name_bytes.Goals.{then-not-is_name_byte-via-then-not-is_name_byte, then-not-is_name_byte-via-else-not-is_name_byte+then-here}

pub returns-then-not-is_name_byte : goal.returns-then-not-is_name_byte
returns-then-not-is_name_byte c = sym (c.loop-b.invariant ∙ elim c.then-not-is_name_byte.branch [
  | then-not-is_name_byte-via-then-not-is_name_byte w ↦ name_fails _ _ c.loop-b.b-index (omega arith) (sym c.is_name_byte.ensures ∙ w.if-not-is_name_byte.true)
  | then-not-is_name_byte-via-else-not-is_name_byte+then-here w ↦ name_dots _ _ c.loop-b.b-index (omega arith) w.if-here.true.0 w.if-here.true.1
])

pub loop-b-preserved : goal.loop-b-preserved
loop-b-preserved c =
    c.loop-b.invariant
    ∙ name_on _ _ c.loop-b.b-index (omega arith) (sym c.is_name_byte.ensures ∙ c.if-not-is_name_byte.false)
    (⊎_elim (λ p. rw (p.0, ne_eqb _ dot p.1)) (λ p. rw p) c.if-here.either)

pub returns : goal.returns
returns c = sym (c.loop-b.invariant ∙ name_end _ _ c.loop-b.b-index (omega arith))
