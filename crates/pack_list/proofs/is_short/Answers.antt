-- `pack_list::is_short` meets its contract: the sum is there exactly where it fits.
use Rattle.std.specs.Prelude.{ℕ, ◌^◌, ◌<◌, Option, None, Some, SomeIff, is_some, leb, ◌≡◌}
use Rattle.std.proofs.Common.{sym, ◌∙◌, arith, le-leb}
use borrow.Author.Tests.{lt-leb}
use Rattle.pack_list.specs.Lists.{greatest, is_short}
use Rattle.pack_list.proofs.is_short.Goals as goal

short_is : (n : ℕ) (o : Option ℕ) → SomeIff o (n < 2 ^ 64) n → is_some o ≡ leb n greatest
short_is n (Some x) h = sym (le-leb n greatest (omega (arith, h.0)))
short_is n None h = sym (lt-leb n greatest (omega (arith, h)))

pub returns : goal.returns
unfolding is_short
returns c = c.is_some.ensures ∙ short_is _ _ c.checked_add.ensures
