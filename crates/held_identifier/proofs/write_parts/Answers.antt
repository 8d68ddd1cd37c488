-- The tests of the definition: the rules first, then the room.
use lib.ListN.{length}
use Rattle.std.specs.Prelude.{Some}
use Rattle.slices.specs.Overwriting.{overwritten}
use mathlib.Core.Bool.{true}
use Rattle.identifier.specs.Composite.{composite_text, composite_length}
use Rattle.held_identifier.specs.Writing.{wrote, outcome, left, write_inadmissible, write_short, write_done}
use Rattle.identifier.specs.Identity.{Identity, identity, is_valid, sizes}
use Prim.Native.Nat.{ℕ, ◌+◌, ◌<◌, ◌≤◌}
use mathlib.Core.List.{List}
use native.Mathlib.Omega.{arith}
use mathlib.Core.Path.{◌≡◌, sym, ap, ◌∙◌}
use Rattle.held_identifier.proofs.write_parts.Goals as goal
use Rattle.held_identifier.proofs.write_parts.Goals.{Else-not-is_identifier, then-out-n-via-then-out-n, then-out-n-via-else-out-n+then-out-n-2}

-- the code counts the text's bytes before it puts them
done : (i : Identity) (out l : List ℕ) (at n : ℕ) → is_valid i ≡ true → length (composite_text i) ≡ n → at + n ≤ length out → l ≡ overwritten out at (composite_text i)
    → (wrote n ≡ outcome (Some i) out at) × (l ≡ left (Some i) out at)
done i out l at n v e h f =
    let d = write_done i out at v (rw e h) in
    (ap wrote (sym e) ∙ sym d.0, f ∙ sym d.1)

-- the test has shown that the three keep the rules
known : (c : Else-not-is_identifier) → is_valid (identity c.args.ulid.now c.args.bucket.now c.args.object.now) ≡ true
known c = sym c.is_identifier.ensures ∙ c.if-not-is_identifier.false

pub returns-then-not-is_identifier : goal.returns-then-not-is_identifier
returns-then-not-is_identifier c =
    let e = write_inadmissible _ _ _ (sym c.is_identifier.ensures ∙ c.if-not-is_identifier.true) in
    record { answer = sym e.0; holds = sym e.1 }

pub overflow_add-n : goal.overflow_add-n
overflow_add-n c = omega (arith, sizes _ (known c))

pub overflow_add-n-2 : goal.overflow_add-n-2
overflow_add-n-2 c = omega (arith, sizes _ (known c))

pub returns-then-out-n : goal.returns-then-out-n
returns-then-out-n c =
    let k = known (goal.at.returns-then-out-n c).Else-not-is_identifier in
    let short = elim c.then-out-n.branch as (λ _. length c.args.out.now < c.args.at + length (composite_text (identity c.args.ulid.now c.args.bucket.now c.args.object.now))) [
      | then-out-n-via-then-out-n w ↦ omega (arith, composite_length _ k)
      | then-out-n-via-else-out-n+then-out-n-2 w ↦ omega (arith, composite_length _ k)
    ] in
    let e = write_short _ _ _ k short in
    record { answer = sym e.0; holds = sym e.1 }

pub put_composite-requires : goal.put_composite-requires
put_composite-requires c = ((sizes _ (known (goal.at.put_composite-requires c).Else-not-is_identifier)).ulid, omega arith)

pub returns : goal.returns
returns c = let k = known (goal.at.returns c).Else-not-is_identifier in
    let e = done _ _ _ _ _ k (composite_length _ k) (omega arith) c.put_composite.ensures in
    record { answer = e.0; holds = e.1 }
