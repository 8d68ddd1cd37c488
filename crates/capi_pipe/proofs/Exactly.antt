-- 20 is answered for a part exactly where the words are not well formed.
use Rattle.std.specs.Prelude.{ℕ, List, ◌↔◌, ◌≡◌}
use Rattle.std.proofs.Common.{ap}
use Rattle.pipe.specs.Limit.{pipe_limit}
use Rattle.pipe.specs.Taking.{Call}
use Rattle.pipe.specs.Step.{take_unfit}
use Rattle.words.specs.Words.{answer}
use Rattle.capi_pipe.specs.State.{progress_in}
use Rattle.capi_pipe.specs.WellFormed.{WellFormed}
use Rattle.capi_pipe.specs.Answers.{take_from, take_answer}
use Rattle.capi_pipe.specs.Exactly.{unfit_state, take_other}

module _ (w part : List ℕ) (words : ℕ) where
  pub take_malformed_exactly : take_answer (take_from w part) words ≡ answer 20 0 ↔ (WellFormed w → ⊥)
  take_malformed_exactly =
      (λ e h. take_other w part words h e, λ h. ap (λ (c : Call). take_answer c words) (take_unfit pipe_limit (progress_in w) part (unfit_state w h)))
