-- `primary::read_block` meets its contract: `I` is the one key asked for.
use Rattle.primary.proofs.read_block.Goals as goal

pub block_by-requires : goal.block_by-requires
block_by-requires c = record { others = _; read = c.read_pairs.ensures }
