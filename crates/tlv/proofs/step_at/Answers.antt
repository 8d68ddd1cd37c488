-- `tlv::step_at` meets its contract. The part from a place on is what is left of the pack there.
use mathlib.Core.Path.{sym, ap, ◌∙◌}
use Prim.Native.Nat.{◌-◌}
use native.Mathlib.Omega.{arith}
use lib.ListN.{length, drop, length-drop}
use lib.Seq.{take_all}
use Rattle.tlv.specs.Found.{step, step_none}
use Rattle.tlv.proofs.step_at.Goals as goal

pub returns-then-pack-at : goal.returns-then-pack-at
returns-then-pack-at c =
    let a = c.args in
    sym (step_none (drop a.at a.pack.now) (rw length-drop (omega arith)))

pub returns : goal.returns
returns c =
    let a = c.args in
    c.in_ok-h.ensures ∙ ap step (take_all (length a.pack.now - a.at) (drop a.at a.pack.now) (rw length-drop (omega arith)))
