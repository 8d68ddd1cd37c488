-- `pack_list::with_loss` meets its contract: the sum is there exactly where it fits.
use mathlib.Core.Logic.{inr}
use mathlib.Core.Path.{refl, sym}
use native.Mathlib.Nat.{add-zero}
use native.Mathlib.Omega.{arith}
use Rattle.pack_list.proofs.Summing.{with_room, without_room}
use Rattle.pack_list.proofs.with_loss.Goals as goal

pub returns-in-Some : goal.returns-in-Some
returns-in-Some c = let h = c.in-Some.ensures in with_room _ _ _ (omega arith) (omega (arith, h.0)) (sym (add-zero _)) h.1 refl

pub returns-in-None : goal.returns-in-None
returns-in-None c = let h = c.in-None.ensures in without_room _ _ _ (inr (omega (arith, h))) refl
