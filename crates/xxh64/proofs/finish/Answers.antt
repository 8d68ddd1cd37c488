-- `xxh64::finish` meets its contract. The part from the front to the end is the whole, and of fewer than 32 bytes the remainder by 32 is their number.
use Rattle.std.proofs.Common.{◌≡◌, ◌%◌, length, sym, ap, arith, rules}
use lib.Seq.{take-length}
use Rattle.xxh64.specs.Xxh64.{add}
use Rattle.xxh64.specs.Parts.{finish}
use Rattle.xxh64.proofs.finish.Goals as goal

pub slice_bounds-all-end : goal.slice_bounds-all-end
slice_bounds-all-end c = sym (ap length (take-length c.args.rest.now))

pub remaining-eights-requires : goal.remaining-eights-requires
remaining-eights-requires c = (search rules, omega (arith, ap length (take-length c.args.rest.now)))

pub remaining-fours-requires : goal.remaining-fours-requires
remaining-fours-requires c = (search rules, omega (arith, ap length (take-length c.args.rest.now)))

pub remaining-requires : goal.remaining-requires
remaining-requires c = (search rules, omega (arith, ap length (take-length c.args.rest.now)))

pub returns : goal.returns
unfolding finish add
returns c =
    let b = c in
    let few : length b.args.rest.now % 32 ≡ length b.args.rest.now = omega (arith, b.requires) in
    rw (
      c.avalanche.ensures,
      c.remaining.ensures,
      c.remaining-fours.ensures,
      c.remaining-eights.ensures,
      take-length b.args.rest.now,
      few,
    )
