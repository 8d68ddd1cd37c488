-- `endian::read_big` meets its contract. The test has shown that the number stands there.
use Rattle.std.specs.Prelude.{Some}
use mathlib.Core.Path.{sym, ap, ◌∙◌}
use lib.ListN.{length}
use Rattle.endian.specs.Numbers.{big}
use Rattle.endian.specs.Places.{number_at, Within, holds_within, number_there}
use Rattle.endian.proofs.read_big.Goals as goal
use Rattle.endian.proofs.read_big.Goals.{Then-holds}

-- the test has shown that the number can stand there
within : (c : Then-holds) → Within (length c.args.s.now) c.args.at c.args.width
within c = holds_within _ _ _ (sym c.holds.ensures ∙ c.if-holds.true)

pub big-requires : goal.big-requires
big-requires c = let h = within c in (h.narrow, h.inside)

pub returns-then-holds : goal.returns-then-holds
returns-then-holds c = ap Some c.big.ensures ∙ sym (number_there big _ _ _ (within (goal.at.returns-then-holds c).Then-holds))

pub returns-else-holds : goal.returns-else-holds
unfolding number_at
returns-else-holds c = rw (sym c.holds.ensures ∙ c.if-holds.false)
