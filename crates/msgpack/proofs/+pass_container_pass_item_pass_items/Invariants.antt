-- The allowance falls where a container is entered. In the loop: what is left to pass, from the loop's place on, gives the whole answer.
use Rattle.std.proofs.Common.{◌≡◌, ◌+◌, ◌-◌, ◌*◌, ◌≤◌, drop}
use Rattle.msgpack.specs.Items.{beyond, pass_items, pass_item}
use Rattle.msgpack.proofs.+pass_container_pass_item_pass_items.Given as goal

abbrev pub decreases-pass_container : goal.decreases-pass_container
decreases-pass_container l = 3 * l.allowance

abbrev pub decreases-pass_item : goal.decreases-pass_item
decreases-pass_item l = 3 * l.allowance + 1

abbrev pub decreases-pass_items : goal.decreases-pass_items
decreases-pass_items l = 3 * l.allowance + 2

abbrev pub invariant-pass_items-loop : goal.invariant-pass_items-loop
invariant-pass_items-loop l =
    (l.from ≤ l.at)
    × (beyond l.from (pass_items (pass_item l.allowance) l.count (drop l.from l.s))
    ≡ beyond l.at (pass_items (pass_item l.allowance) (l.count - l.counter) (drop l.at l.s)))

abbrev pub decreases-pass_items-loop : goal.decreases-pass_items-loop
decreases-pass_items-loop l = l.count - l.counter
