-- `pipe::tell` meets its contract: four words fit wherever one of the first so many records stands.
use borrow.Author.Tests.{lt-ltb, le-ltb}
use mathlib.Core.Path.{◌∙◌}
use Prim.Native.Nat.{◌*◌}
use native.Mathlib.Omega.{arith}
use Rattle.slices.specs.Overwriting.{written_within}
use Rattle.pipe.specs.Feeding.{words_in}
use Rattle.pipe.proofs.tell.Goals as goal

pub returns-then-count-room : goal.returns-then-count-room
returns-then-count-room c =
    let s = c in
    rw (lt-ltb s.args.count s.args.room c.if-count-room.true)
    (c.store.ensures.told_after ∙ written_within s.args.told.now (4 * s.args.count) (words_in s.args.e) (omega (arith, s.requires, c.if-count-room.true)))

pub returns-else-count-room : goal.returns-else-count-room
returns-else-count-room c = rw (le-ltb c.args.count c.args.room c.if-count-room.false)
