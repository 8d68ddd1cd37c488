-- `msgpack::short_width` meets its contract: a number past the kinds has a map's width.
use Rattle.std.proofs.Common.{◌∙◌, ap}
use Rattle.msgpack.specs.Readers.{plus}
use Rattle.msgpack.specs.Short.{short_width}
use Rattle.msgpack.proofs.Widths.{width_past}
use Rattle.msgpack.proofs.short_width.Goals as goal

pub returns : goal.returns
returns g c = c.width_of.ensures ∙ ap (λ k. short_width k (plus c.args.n)) c.to_kind.ensures ∙ width_past _ _
