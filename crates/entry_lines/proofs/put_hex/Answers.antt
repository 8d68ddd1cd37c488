-- `entry_lines::put_hex` meets its contract. The number has at most so many digits, and is given as many.
use mathlib.Core.List.{List}
use mathlib.Core.Path.{◌≡◌, ap, subst, ◌∙◌}
use Prim.Native.Nat.{ℕ, ◌≤◌, min, max}
use native.Mathlib.Omega.{arith}
use lib.Dec.{lit<}
use lib.ListN.{take}
use Rattle.io.specs.Digits.{last_digits, IsDigitCount}
use Rattle.console.specs.Put.{Next}
use Rattle.console.specs.Text.{places_most}
use Rattle.entry_lines.specs.Text.{hex, hex_length}
use Rattle.entry_lines.proofs.put_hex.Goals as goal
use Rattle.entry_lines.proofs.put_hex.Goals.{After-hex-k}

-- the digits are so many, and the number's
text : (c : After-hex-k) → take c.hex-k.result c.hex-k.new.out ≡ hex c.args.width c.args.n
text c =
    let n = c.args.n in
    let w = c.args.width in
    let k = c.hex-k.result in
    let least : min (max w 1) 16 ≡ w = omega (arith, c.requires.0.0, c.requires.0.1) in
    let few : IsDigitCount 16 w n k = rw least at c.hex-k.ensures.len in
    let most : k ≤ w = places_most 16 w n k w (lit< tt) c.requires.1.0 (omega arith) few in
    let all : k ≡ w = omega (arith, few.0) in
    c.hex-k.ensures.digits ∙ ap (λ (d : ℕ). last_digits 16 d n) all

pub returns : goal.returns
returns c =
    (subst (λ (t : List ℕ). Next c.args.out.now c.args.at t c.put.new.out c.put.result) (text (goal.at.returns c).After-hex-k) c.put.ensures).fits (rw hex_length c.requires.1.1)
