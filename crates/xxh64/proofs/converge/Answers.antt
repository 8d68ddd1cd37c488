-- `xxh64::converge` meets its contract. Each call computes what the definition has in its place.
use Rattle.xxh64.specs.Xxh64.{converge, add}
use Rattle.xxh64.proofs.converge.Goals as goal

pub returns : goal.returns
unfolding converge add
returns c =
    rw (
      c.merge_accumulator-3.ensures,
      c.merge_accumulator-2.ensures,
      c.merge_accumulator-merged.ensures,
      c.merge_accumulator.ensures,
      c.rotl-4.ensures,
      c.rotl-3.ensures,
      c.rotl-2.ensures,
      c.rotl.ensures,
    )
