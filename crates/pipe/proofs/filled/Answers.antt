-- `pipe::filled` meets its contract: the bytes that are written follow those that are kept.
use borrow.Author.Rules.{rules}
use Prim.Native.Nat.{ℕ, ◌+◌, ◌≤◌}
use mathlib.Core.List.{List}
use mathlib.Core.Path.{◌≡◌, ap, ◌∙◌}
use native.Mathlib.Omega.{arith}
use lib.ListN.{length, take}
use Rattle.slices.specs.Overwriting.{written_within, take_overwritten}
use Rattle.pipe.proofs.filled.Goals as goal
use Rattle.pipe.proofs.filled.Goals.{Start}

long : (s : Start) → length s.args.header ≡ 32
long s = search rules

pub returns : goal.returns
returns c =
    let s = c in
    let a = s.args in
    let fits : a.held + length a.part.now ≤ length a.header = omega (arith, long (goal.at.returns s).Start, s.requires) in
    ap (λ (l : List ℕ). take (a.held + length a.part.now) l) (c.write_bytes.ensures.out_after ∙ written_within a.header a.held a.part.now fits)
    ∙ take_overwritten a.header a.held a.part.now fits
