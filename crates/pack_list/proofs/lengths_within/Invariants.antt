-- `pack_list::lengths_within` meets its contract: what the lengths from here on tell, with what is left of the total, is what all of them tell.
use Prim.Native.Nat.{◌-◌}
use mathlib.Core.Bool.{true}
use mathlib.Core.Path.{◌≡◌}
use lib.ListN.{drop}
use Rattle.msgpack.specs.Lookup.{over}
use Rattle.msgpack.specs.Views.{items_from}
use Rattle.value.specs.Fields.{read_natural}
use Rattle.pack_list.specs.Lists.{each_of}
use Rattle.pack_list.specs.Answers.{within_from}
use Rattle.pack_list.proofs.lengths_within.Given as goal

abbrev pub invariant-loop : goal.invariant-loop
invariant-loop l =
    over (within_from true l.total) (each_of read_natural (items_from l.fn.lengths.count (drop l.fn.lengths.first l.part)))
    ≡ over (within_from l.within l.left) (each_of read_natural (items_from (l.fn.lengths.count - l.counter) (drop l.at l.part)))

abbrev pub decreases-loop : goal.decreases-loop
decreases-loop l = l.fn.lengths.count - l.counter
