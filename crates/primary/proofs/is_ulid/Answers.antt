-- `primary::is_ulid` meets its contract: the part lent is the text told.
use Rattle.primary.proofs.is_ulid.Goals as goal

pub returns : goal.returns
returns c = cc
