-- `capi_pipe::state::number` meets its contract: the bytes are there, so that the read gives their number and no other answer.
use mathlib.Core.Path.{ap, ◌∙◌}
use native.Mathlib.Omega.{arith}
use Rattle.std.specs.Prelude.{unwrap_or}
use Rattle.endian.specs.Numbers.{big}
use Rattle.endian.specs.Places.{number_there}
use Rattle.capi_pipe.proofs.state.number.Goals as goal

pub returns : goal.returns
returns c =
    let there = number_there big c.args.bytes.now c.args.at 8 (record { narrow = omega arith; inside = c.requires }) in
    c.unwrap_or.ensures ∙ ap (λ o. unwrap_or o 0) (c.read_big.ensures ∙ there)
