-- `deposit_rules::is_bucket_name` meets its contract, test by test.
use Rattle.std.proofs.Common.{rules}
use Rattle.deposit_rules.specs.Buckets.{is_bucket_name}
use Rattle.deposit_rules.proofs.is_bucket_name.Goals as goal

pub returns-then-is_letter_or_digit-2 : goal.returns-then-is_letter_or_digit-2
unfolding is_bucket_name
returns-then-is_letter_or_digit-2 c = search rules

pub returns-else-is_letter_or_digit-2 : goal.returns-else-is_letter_or_digit-2
unfolding is_bucket_name
returns-else-is_letter_or_digit-2 c = search rules
