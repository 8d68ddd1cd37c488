-- `primary::read_block_beside` meets its contract: `I` is the first key asked for.
use Rattle.primary.proofs.read_block_beside.Goals as goal

pub block_by-requires : goal.block_by-requires
block_by-requires c = record { others = _; read = c.read_pairs-pairs.ensures }

pub returns-clause-block_value : goal.returns-clause-block_value
returns-clause-block_value c = c.block_by.ensures.result_value

pub returns-clause-inside : goal.returns-clause-inside
returns-clause-inside c = c.block_by.ensures.inside

pub returns-clause-beside : goal.returns-clause-beside
returns-clause-beside c = c.read_pairs-pairs.ensures
