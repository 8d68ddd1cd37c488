-- So many calls have been made: the walker has the pack, and stands where a new one stands after these.
use Rattle.std.proofs.Common.{◌≡◌}
use Rattle.refusals.specs.Limit.{pack_limit}
use Rattle.pack.specs.Walk.{place_of}
use Rattle.pack.proofs.nth.Given as goal

abbrev pub invariant-loop : goal.invariant-loop
invariant-loop l = record {
  pack : l.w.pack.now ≡ l.pack;
  place : l.w.at ≡ place_of pack_limit l.pack l.counter;
}
