-- `tlv::fields_at` meets its contract. The part from a place on is what is left of the pack there.
use borrow.Author.Tests.{lt-ltb}
use mathlib.Core.Path.{ap, ◌∙◌}
use Prim.Native.Nat.{◌-◌}
use native.Mathlib.Omega.{arith}
use lib.ListN.{length, drop, length-drop}
use lib.Seq.{take_all}
use Rattle.tlv.specs.Found.{fields_of}
use Rattle.tlv.proofs.fields_at.Goals as goal

pub returns-then-pack-at : goal.returns-then-pack-at
unfolding fields_of
returns-then-pack-at c =
    let a = c.args in
    rw (lt-ltb (length (drop a.at a.pack.now)) 32 (rw length-drop (omega arith))) c.no_header.ensures

pub returns : goal.returns
returns c =
    let a = c.args in
    c.fields.ensures ∙ ap fields_of (take_all (length a.pack.now - a.at) (drop a.at a.pack.now) (rw length-drop (omega arith)))
