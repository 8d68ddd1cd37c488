-- `capi_pipe::state::pack` meets its contract.
use mathlib.Core.Path.{refl}
use Rattle.slices.specs.Bytes.{AllBytes}
use Rattle.capi_pipe.proofs.Packing.{packed_back}
use Rattle.capi_pipe.proofs.state.pack.Goals as goal

pub returns : goal.returns
returns c =
    let b = c in
    let bytes : AllBytes b.args.bytes.now = record { below = λ k. (b.type_inv.bytes k).fits } in
    rw (c.number-4.ensures, c.number-3.ensures, c.number-2.ensures, c.number.ensures)
    (refl, packed_back b.args.bytes.now bytes b.requires)
