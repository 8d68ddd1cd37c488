-- `records::told_from` meets its contract, part by part.
use Rattle.records.proofs.told_from.Goals as goal

pub returns : goal.returns
returns c = rw (c.part_from-primary.ensures, c.part_from-secondary.ensures)
