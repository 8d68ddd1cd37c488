-- `capi_items::kind_number` meets its contract: each arm is the definition at the kind's number.
use Rattle.std.proofs.Common.{⊎_elim}
use Rattle.capi_items.specs.Items.{kind_number}
use Rattle.capi_items.proofs.kind_number.Goals as goal

pub returns-in-Unused : goal.returns-in-Unused
unfolding kind_number
returns-in-Unused c = ⊎_elim (λ e. rw e) (λ e. rw e) c.in-Unused.is

pub returns-in-Boolean : goal.returns-in-Boolean
unfolding kind_number
returns-in-Boolean c = rw c.in-Boolean.is

pub returns-in-Integer : goal.returns-in-Integer
unfolding kind_number
returns-in-Integer c = rw c.in-Integer.is

pub returns-in-Float : goal.returns-in-Float
unfolding kind_number
returns-in-Float c = rw c.in-Float.is

pub returns-in-Text : goal.returns-in-Text
unfolding kind_number
returns-in-Text c = rw c.in-Text.is

pub returns-in-Binary : goal.returns-in-Binary
unfolding kind_number
returns-in-Binary c = rw c.in-Binary.is

pub returns-in-Array : goal.returns-in-Array
unfolding kind_number
returns-in-Array c = rw c.in-Array.is

pub returns-in-Map : goal.returns-in-Map
unfolding kind_number
returns-in-Map c = rw c.in-Map.is

pub returns-in-Extension : goal.returns-in-Extension
unfolding kind_number
returns-in-Extension c = rw c.in-Extension.is
