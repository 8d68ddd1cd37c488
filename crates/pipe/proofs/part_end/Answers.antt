-- `pipe::part_end` meets its contract: the last part, and one before it.
use borrow.Author.Tests.{lt-leb}
use mathlib.Core.Path.{sym, ap}
use Prim.Native.Nat.{ℕ, ◌+◌}
use lib.ListN.{length}
use Rattle.pipe.specs.Feeding.{part_end, part_end_last}
use Rattle.pipe.proofs.part_end.Goals as goal

pub returns-then-lengths-k : goal.returns-then-lengths-k
returns-then-lengths-k c =
    let a = c.args in
    sym (part_end_last a.len a.lengths.now a.k a.at c.if-lengths-k.true)

pub returns : goal.returns
unfolding part_end
returns c =
    let a = c.args in
    rw (lt-leb (length a.lengths.now) a.k c.if-lengths-k.false) (ap (λ (n : ℕ). a.at + n) c.min.ensures)
