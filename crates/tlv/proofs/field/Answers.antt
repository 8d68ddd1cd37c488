-- `tlv::field` meets its contract. The field lies inside, so that the read gives its number.
use mathlib.Core.Path.{◌≡◌}
use mathlib.Core.List.{List}
use Prim.Native.Nat.{ℕ, ◌+◌, ◌≤◌, ◌<◌, ◌^◌}
use native.Mathlib.Omega.{arith}
use lib.ListN.{length, take, drop, length-drop}
use lib.Seq.{length-take-le}
use Rattle.slices.specs.Bytes.{AllBytes, take_bytes, drop_bytes}
use Rattle.endian.specs.Numbers.{big, big_lt}
use Rattle.endian.specs.Places.{number_there, read_number}
use Rattle.tlv.specs.Layout.{field}
use Rattle.tlv.proofs.field.Goals as goal

-- the field's number, and its bound
number : (s : List ℕ) (at w n : ℕ) → AllBytes s → at + w ≤ length s → n ≡ big (take w (drop at s)) → (n ≡ field s at w) × (n < 256 ^ w)
unfolding field
number s at w n bytes inside e =
    let l : length (take w (drop at s)) ≡ w = length-take-le w (drop at s) (rw length-drop (omega arith)) in
    (e, rw e (rw l at (big_lt (take w (drop at s)) (take_bytes w (drop at s) (drop_bytes at bytes)))))

pub unwrap-requires : goal.unwrap-requires
unwrap-requires c =
    rw (c.read_big.ensures, number_there big c.args.s.now c.args.at c.args.width (record { narrow = c.requires.0; inside = c.requires.1 }))

pub returns : goal.returns
returns c =
    let a = c.args in
    number a.s.now a.at a.width _ (record { below = λ k. (c.type_inv.s k).fits }) c.requires.1
    (read_number big a.s.now a.at a.width (record { narrow = c.requires.0; inside = c.requires.1 }) _ _ c.read_big.ensures c.unwrap.ensures)
