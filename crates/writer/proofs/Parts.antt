-- What is answered for a primary part alone, by the tests, and what is then left.
use Prim.Native.Nat.{ℕ, ◌≤◌, ◌<◌}
use mathlib.Core.Bool.{Bool, false}
use mathlib.Core.List.{List}
use Rattle.std.specs.Prelude.{Option, None, Some, Ok, Err}
use mathlib.Core.Path.{◌≡◌, refl}
use borrow.Author.Tests.{le-leb, lt-leb}
use lib.ListN.{length}
use Rattle.refusals.specs.declared.Unwritten.TheVariants.{NoRoom}
use Rattle.identifier.specs.Identity.{Identity}
use Rattle.held_identifier.specs.Held.{is_admitted}
use Rattle.writer.specs.Putting.{Puts}
use Rattle.writer.specs.Writing.{version_part_of, part_written, part_after, StoresPart}

module _ (part out : List ℕ) where
  pub part_short_lem : length out < length part → StoresPart part out (Err NoRoom) out
  unfolding part_written part_after
  part_short_lem h = record { told = rw (lt-leb _ _ h) refl; left = rw (lt-leb _ _ h) refl }

  pub part_stored : {after : List ℕ} {n next : ℕ} → n ≡ length part → length part ≤ length out → Puts out 0 part after next → StoresPart part out (Ok n) after
  unfolding part_written part_after
  part_stored e h p = record { told = rw (le-leb _ _ h, e) refl; left = rw (le-leb _ _ h) p.left }

pub no_part : (marker : Bool) (o : Option Identity) → is_admitted o ≡ false → version_part_of marker o ≡ None
unfolding is_admitted
no_part marker None e = refl
no_part marker (Some i) e = rw e refl
