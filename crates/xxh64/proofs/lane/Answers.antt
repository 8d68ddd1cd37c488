-- `xxh64::lane` meets its contract. The part holds the whole lane, so that the read gives its number.
use Rattle.std.proofs.Common.{◌∙◌}
use Rattle.endian.specs.Numbers.{little}
use Rattle.endian.specs.Places.{number_there, read_number}
use Rattle.xxh64.proofs.Laws.{part_holds, lane_of_part}
use Rattle.xxh64.proofs.lane.Goals as goal

pub unwrap-requires : goal.unwrap-requires
unwrap-requires c =
    rw (c.read_little.ensures, number_there little _ 0 c.args.width (record { narrow = c.requires.0; inside = part_holds c.args.s.now c.args.at c.args.width c.requires.1 }))

pub returns : goal.returns
returns c =
    let a = c.args in
    read_number little _ 0 a.width (record { narrow = c.requires.0; inside = part_holds a.s.now a.at a.width c.requires.1 }) _ _ c.read_little.ensures c.unwrap.ensures
    ∙ lane_of_part a.s.now a.at a.width c.requires.1
