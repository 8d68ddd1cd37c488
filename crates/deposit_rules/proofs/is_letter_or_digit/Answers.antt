-- `deposit_rules::is_letter_or_digit` meets its contract.
use Rattle.std.proofs.Common.{rules}
use Rattle.deposit_rules.specs.Buckets.{is_letter_or_digit}
use Rattle.deposit_rules.proofs.is_letter_or_digit.Goals as goal

pub returns-then-is_ascii_lowercase : goal.returns-then-is_ascii_lowercase
unfolding is_letter_or_digit
returns-then-is_ascii_lowercase c = search rules

pub returns-else-is_ascii_lowercase : goal.returns-else-is_ascii_lowercase
unfolding is_letter_or_digit
returns-else-is_ascii_lowercase c = search rules
