-- `deposit_rules::is_name_byte` meets its contract.
use Rattle.std.proofs.Common.{rules}
use Rattle.deposit_rules.specs.Buckets.{is_name_byte}
use Rattle.deposit_rules.proofs.is_name_byte.Goals as goal

pub returns-then-b-eq46 : goal.returns-then-b-eq46
unfolding is_name_byte
returns-then-b-eq46 c = search rules

pub returns-else-b-eq46 : goal.returns-else-b-eq46
unfolding is_name_byte
returns-else-b-eq46 c = search rules
