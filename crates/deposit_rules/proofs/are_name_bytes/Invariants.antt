-- `deposit_rules::are_name_bytes` meets its contract: the bytes passed keep the rule, and what matters of them is whether the last is a dot.
use Rattle.std.specs.Prelude.{◌≡◌, false, drop}
use Rattle.deposit_rules.specs.Buckets.{are_name_bytes}
use Rattle.deposit_rules.proofs.are_name_bytes.Given as goal

abbrev pub invariant-loop-b : goal.invariant-loop-b
invariant-loop-b l = are_name_bytes false l.text ≡ are_name_bytes l.after (drop l.b-index l.text)
