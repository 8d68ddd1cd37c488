-- `pack_list::holds` meets its contract: the offset in the range is compared, and nothing is added.
use Prim.Native.Nat.{ℕ, ◌+◌, ◌-◌, ◌≤◌}
use mathlib.Core.Bool.{Bool, true, false}
use mathlib.Core.Path.{◌≡◌, refl}
use native.Mathlib.Omega.{arith}
use borrow.Author.Tests.{le-leb, lt-leb, lt-ltb, le-ltb, ltb-true, ltb-false}
use lib.Dec.{ltb}
use Rattle.pack_list.proofs.holds.Goals as goal

offset_below : (start len byte : ℕ) → start ≤ byte → ltb (byte - start) len ≡ ltb byte (start + len)
offset_below start len byte h = go (ltb byte (start + len)) refl
  where
    go : (t : Bool) → ltb byte (start + len) ≡ t → ltb (byte - start) len ≡ t
    go true e = lt-ltb (byte - start) len (omega (arith, ltb-true byte (start + len) e))
    go false e = le-ltb (byte - start) len (omega (arith, ltb-false byte (start + len) e))

pub returns-then-byte-source : goal.returns-then-byte-source
returns-then-byte-source c = rw (lt-leb _ _ c.if-byte-source.true)

pub returns : goal.returns
returns c = let h = c.if-byte-source.false in rw (le-leb _ _ h) (offset_below _ _ _ h)
