-- `msgpack_forms::argument_of` meets its contract: the arms are the definition's tests.
use Rattle.std.proofs.Common.{◌≡◌, ⊎_elim, ◌∙◌, refl, Bool, true, false, cond}
use mir.Val.{bool_byte}
use Rattle.msgpack_forms.specs.Items.{argument_of}
use Rattle.msgpack_forms.proofs.argument_of.Goals as goal

by_flag : (t : Bool) → bool_byte t ≡ cond t 1 0
by_flag true = refl
by_flag false = refl

pub returns-in-Boolean : goal.returns-in-Boolean
unfolding argument_of
returns-in-Boolean c = rw c.in-Boolean.is (c.from.ensures ∙ by_flag _)

pub returns-in-Extension : goal.returns-in-Extension
unfolding argument_of
returns-in-Extension c = rw (c.in-Extension.is, c.saturating_sub.ensures)

pub returns-in-Text : goal.returns-in-Text
unfolding argument_of
returns-in-Text c = ⊎_elim (λ e. rw e) (⊎_elim (λ e. rw e) (⊎_elim (λ e. rw e) (λ e. rw e))) c.in-Text.is

pub returns-in-Unused : goal.returns-in-Unused
unfolding argument_of
returns-in-Unused c = ⊎_elim (λ e. rw e) (⊎_elim (λ e. rw e) (⊎_elim (λ e. rw e) (λ e. rw e))) c.in-Unused.is
