-- `console::put_decimal` meets its contract. The fewest digits are those with no leading zero.
use mathlib.Core.List.{List}
use mathlib.Core.Path.{◌≡◌, subst, ◌∙◌}
use Prim.Native.Nat.{ℕ, ◌<◌, ◌^◌}
use native.Mathlib.Omega.{arith}
use lib.Dec.{lit<, lit≤}
use lib.ListN.{take}
use Rattle.console.specs.Put.{Next}
use Rattle.console.specs.Text.{decimal, fewest_decimal, places_most}
use Rattle.console.proofs.put_decimal.Goals as goal
use Rattle.console.proofs.put_decimal.Goals.{After-decimal-k}

-- the digits are the number's
text : (c : After-decimal-k) → take c.decimal-k.result c.decimal-k.new.out ≡ decimal c.args.n
text c =
    let n = c.args.n in
    let d = c.decimal-k in
    let few : n < 10 ^ 20 = omega (arith, c.ranges.n.fits) in
    d.ensures.digits ∙ fewest_decimal d.result 20 n (places_most 10 1 n d.result 20 (lit< tt) few (lit≤ tt) d.ensures.len) d.ensures.len

pub returns : goal.returns
returns c =
    subst (λ (t : List ℕ). Next c.args.out.now c.args.at t c.put.new.out c.put.result) (text (goal.at.returns c).After-decimal-k) c.put.ensures
