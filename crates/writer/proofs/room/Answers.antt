-- The tests of the definition, the limit first.
use mathlib.Core.Path.{refl}
use native.Mathlib.Omega.{arith}
use Rattle.writer.proofs.Stores.{above_limit, no_room, has_room_lem}
use Rattle.writer.proofs.room.Goals as goal

pub returns-then-value : goal.returns-then-value
returns-then-value c = above_limit _ _ _ _ (omega arith)

pub returns-then-n-used : goal.returns-then-n-used
returns-then-n-used c = above_limit _ _ _ _ (omega arith)

pub returns-then-len-end : goal.returns-then-len-end
returns-then-len-end c = no_room _ _ _ _ (omega arith) (omega arith)

pub returns : goal.returns
returns c = has_room_lem _ _ _ _ _ refl (omega arith) (omega arith)
