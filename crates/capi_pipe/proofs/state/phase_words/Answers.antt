-- `capi_pipe::state::phase_words` meets its contract.
use native.Mathlib.Omega.{arith}
use Rattle.capi_pipe.proofs.state.phase_words.Goals as goal

pub returns-in-Header-clause-value : goal.returns-in-Header-clause-value
returns-in-Header-clause-value c = rw c.in-Header.is

pub returns-in-Header-clause-number_bound : goal.returns-in-Header-clause-number_bound
returns-in-Header-clause-number_bound c = omega arith

pub returns-in-Value-clause-value : goal.returns-in-Value-clause-value
returns-in-Value-clause-value c = rw c.in-Value.is

pub returns-in-Value-clause-number_bound : goal.returns-in-Value-clause-number_bound
returns-in-Value-clause-number_bound c = omega arith

pub returns-in-Refused-clause-value : goal.returns-in-Refused-clause-value
returns-in-Refused-clause-value c = rw c.in-Refused.is

pub returns-in-Refused-clause-number_bound : goal.returns-in-Refused-clause-number_bound
returns-in-Refused-clause-number_bound c = omega arith

pub returns-in-Ended-clause-value : goal.returns-in-Ended-clause-value
returns-in-Ended-clause-value c = rw c.in-Ended.is

pub returns-in-Ended-clause-number_bound : goal.returns-in-Ended-clause-number_bound
returns-in-Ended-clause-number_bound c = omega arith
