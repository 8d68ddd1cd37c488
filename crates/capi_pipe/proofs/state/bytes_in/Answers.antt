-- `capi_pipe::state::bytes_in` meets its contract: one number after the other fills the bytes.
use mathlib.Core.Path.{refl}
use Rattle.capi_pipe.proofs.Packing.{bytes_written}
use Rattle.capi_pipe.proofs.state.bytes_in.Goals as goal

pub returns : goal.returns
returns c =
    rw (
      c.write_big-4.ensures.out_after,
      c.write_big-3.ensures.out_after,
      c.write_big-2.ensures.out_after,
      c.write_big.ensures.out_after,
      c.word-4.ensures,
      c.word-3.ensures,
      c.word-2.ensures,
      c.word.ensures,
    )
    (bytes_written _ _ _ _ _ refl)
