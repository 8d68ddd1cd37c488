-- `pack_list::with_entry` meets its contract.
use Rattle.std.specs.Prelude.{ℕ, max, Bool, true, false, cond, ◌≡◌, refl, leb}
use Rattle.std.proofs.Common.{◌∙◌, arith, leb-true, leb-false}
use Rattle.pack_list.specs.Blocks.{larger}
use Rattle.pack_list.specs.Answers.{with_tests}
use Rattle.pack_list.proofs.with_entry.Goals as goal

larger_max : (a b : ℕ) → max a b ≡ larger a b
larger_max a b = go (leb a b) refl
  where
    go : (t : Bool) → leb a b ≡ t → max a b ≡ cond t b a
    go true e = omega (arith, leb-true a b e)
    go false e = omega (arith, leb-false a b e)

pub returns : goal.returns
unfolding with_tests
returns c = rw (c.max.ensures, larger_max c.args.all.stride c.args.t.stride)
