-- `msgpack::fixed_holds` meets its contract: the arms are the definition's tests.
use Rattle.std.proofs.Common.{⊎_elim}
use Rattle.msgpack.specs.Short.{fixed_holds}
use Rattle.msgpack.proofs.fixed_holds.Goals as goal

pub returns-in-Integer : goal.returns-in-Integer
unfolding fixed_holds
returns-in-Integer c = rw c.in-Integer.is

pub returns-in-Text : goal.returns-in-Text
unfolding fixed_holds
returns-in-Text c = rw c.in-Text.is

pub returns-in-Binary : goal.returns-in-Binary
unfolding fixed_holds
returns-in-Binary c = rw c.in-Binary.is

pub returns-in-Extension : goal.returns-in-Extension
unfolding fixed_holds
returns-in-Extension c = rw c.in-Extension.is

pub returns-in-Array : goal.returns-in-Array
unfolding fixed_holds
returns-in-Array c = ⊎_elim (λ e. rw e) (λ e. rw e) c.in-Array.is

pub returns-in-Unused : goal.returns-in-Unused
unfolding fixed_holds
returns-in-Unused c = ⊎_elim (λ e. rw e) (⊎_elim (λ e. rw e) (⊎_elim (λ e. rw e) (λ e. rw e))) c.in-Unused.is
