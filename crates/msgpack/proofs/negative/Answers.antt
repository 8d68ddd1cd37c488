-- `msgpack::negative` meets its contract.
use mathlib.Core.Path.{refl}
use Rattle.msgpack.proofs.negative.Goals as goal

pub returns-clause-result_value : goal.returns-clause-result_value
returns-clause-result_value c = refl

pub returns-clause-short : goal.returns-clause-short
returns-clause-short c = rw c.negative_width.ensures
