-- `tlv::pass_at` meets its contract. What the test says is what the definition turns on.
use mathlib.Core.Path.{sym, ◌∙◌}
use Prim.Native.Nat.{◌+◌, ◌-◌, ◌≤◌}
use native.Mathlib.Omega.{arith}
use lib.ListN.{length}
use Rattle.tlv.specs.Passing.{pass_at, inside_facts}
use Rattle.tlv.proofs.pass_at.Goals as goal
use Rattle.tlv.proofs.pass_at.Goals.{Then-inside}

-- the record lies inside
lies : (c : Then-inside) → (c.args.at + 32 ≤ length c.args.pack.now) × (c.fields_at-header.result.length ≤ length c.args.pack.now - 32 - c.args.at)
lies c = inside_facts _ _ _ (sym c.inside.ensures ∙ c.if-inside.true)

pub overflow_add-result : goal.overflow_add-result
overflow_add-result c = omega (arith, (lies c).0)

pub overflow_add-result-then-inside : goal.overflow_add-result-then-inside
overflow_add-result-then-inside c = omega (arith, (lies c).0, (lies c).1)

pub returns-then-inside : goal.returns-then-inside
unfolding pass_at
returns-then-inside c = rw (← c.fields_at-header.ensures, sym c.inside.ensures ∙ c.if-inside.true)

pub returns-else-inside : goal.returns-else-inside
unfolding pass_at
returns-else-inside c =
    rw (← c.fields_at-header.ensures, sym c.inside.ensures ∙ c.if-inside.false)
    (λ i. record { header = c.no_header.ensures i; next = c.args.at })
