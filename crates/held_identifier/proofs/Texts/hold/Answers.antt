-- Each text is copied over the front of an array of zeros.
use Rattle.held_identifier.proofs.Structs.{zeros_lengths, hold_is}
use native.Mathlib.Omega.{arith}
use Rattle.held_identifier.proofs.Texts.hold.Goals as goal

pub put-requires : goal.put-requires
put-requires c =
    let z = c in
    omega (arith, (zeros_lengths _ z.zeros-id.ensures).0, z.requires)

pub put-requires-2 : goal.put-requires-2
put-requires-2 c =
    let z = c in
    omega (arith, (zeros_lengths _ z.zeros-id.ensures).1, z.requires)

pub put-requires-3 : goal.put-requires-3
put-requires-3 c =
    let z = c in
    omega (arith, (zeros_lengths _ z.zeros-id.ensures).2, z.requires)

pub returns : goal.returns
returns c =
    let z = c in
    hold_is _ _ _ _ _ _ _ z.zeros-id.ensures z.requires.0 c.put.ensures c.put-2.ensures c.put-3.ensures
