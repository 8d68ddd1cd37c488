-- `primary::is_valid` meets its contract: the parts lent are the texts told.
use Rattle.primary.proofs.is_valid.Goals as goal

pub returns : goal.returns
returns c = cc
