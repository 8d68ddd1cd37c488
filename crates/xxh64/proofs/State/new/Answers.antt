-- `xxh64::State::new` meets its contract. Of a count of 0 none of the array is held.
use Rattle.std.proofs.Common.{[]}
use Rattle.xxh64.specs.Parts.{fresh, hashing_of}
use Rattle.xxh64.proofs.State.new.Goals as goal

pub returns : goal.returns
unfolding hashing_of fresh
returns c =
    let f = c.fresh-acc.ensures in
    λ i. record { acc1 = f.0 i; acc2 = f.1 i; acc3 = f.2 i; acc4 = f.3 i; held = []; count = 0 }
