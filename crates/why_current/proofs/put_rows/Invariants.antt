-- `why_current::put_rows` meets its contract. The invariant: the lines of the first i rows have been put, of at most 54 bytes each.
use Prim.Native.Nat.{◌-◌, ◌≤◌}
use Rattle.why_current.proofs.Rows.{Rows}
use Rattle.why_current.proofs.put_rows.Given as goal

abbrev pub invariant-loop-i : goal.invariant-loop-i
invariant-loop-i l = (l.i ≤ l.n) × Rows l.initial.out l.told l.ulid l.i l.out l.at

abbrev pub decreases-loop-i : goal.decreases-loop-i
decreases-loop-i l = l.n - l.i
