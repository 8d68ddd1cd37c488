-- `capi_pipe::state::write_state` meets its contract: the words before the bytes, then those of the header and of the stripe.
use Rattle.capi_pipe.proofs.Written.{state_said}
use Rattle.capi_pipe.proofs.state.write_state.Goals as goal

pub returns : goal.returns
returns c =
    let b = c in
    rw (c.store-3.ensures.told_after, c.store-2.ensures.told_after, c.store.ensures.told_after)
    (state_said b.args.words.now b.requires b.args.state c.phase_words-phase.result c.phase_words-phase.ensures.value c.phase_words-phase.ensures.number_bound
    c.pack-front.result c.pack-back.result c.pack-front.ensures.0 c.pack-back.ensures.0 c.pack-front.ensures.1 c.pack-back.ensures.1)
