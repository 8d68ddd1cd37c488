-- `msgpack_forms::short_container`, `short_item` and `short_items` meet their contracts together: the allowance falls where a container is entered.
use Prim.Native.Nat.{◌+◌, ◌-◌, ◌≤◌}
use mathlib.Core.Path.{◌≡◌}
use lib.ListN.{drop}
use Rattle.msgpack.specs.Items.{beyond, pass_items}
use Rattle.msgpack_forms.specs.Items.{short_item}
use Rattle.msgpack_forms.proofs.+short_container_short_item_short_items.Given as goal

abbrev pub decreases-short_container : goal.decreases-short_container
decreases-short_container l = l.allowance + l.allowance + l.allowance

abbrev pub decreases-short_item : goal.decreases-short_item
decreases-short_item l = l.allowance + l.allowance + l.allowance + 1

abbrev pub decreases-short_items : goal.decreases-short_items
decreases-short_items l = l.allowance + l.allowance + l.allowance + 2

abbrev pub invariant-short_items-loop : goal.invariant-short_items-loop
invariant-short_items-loop l =
    (l.from ≤ l.at)
    × (beyond l.from (pass_items (short_item l.allowance) l.count (drop l.from l.s))
    ≡ beyond l.at (pass_items (short_item l.allowance) (l.count - l.counter) (drop l.at l.s)))

abbrev pub decreases-short_items-loop : goal.decreases-short_items-loop
decreases-short_items-loop l = l.count - l.counter
