-- `capi_pipe::state::read_state` meets its contract, field by field.
use Rattle.capi_pipe.specs.State.{hash_in, state_in}
use Rattle.capi_pipe.proofs.state.read_state.Goals as goal

pub returns : goal.returns
unfolding state_in hash_in
returns c =
    rw (c.word-8.ensures, c.word-7.ensures, c.word-6.ensures, c.word-5.ensures, c.word-4.ensures, c.word-3.ensures, c.word-2.ensures, c.word.ensures, c.bytes_in.ensures, c.bytes_in-2.ensures, c.unwrap_or.ensures, c.phase_in.ensures)
