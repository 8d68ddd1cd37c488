-- `records::is_known` meets its contract: it is the definition.
use mathlib.Core.Path.{refl}
use Rattle.records.specs.Record.{is_known}
use Rattle.records.proofs.is_known.Goals as goal

pub returns : goal.returns
unfolding is_known
returns c = refl
