-- `why_current::object` meets its contract. The slash lies within the name, or behind its end.
use borrow.Author.Rules.{rules}
use mathlib.Core.Path.{ap, ◌∙◌}
use Prim.Native.Nat.{ℕ, ◌+◌}
use lib.ListN.{drop}
use Rattle.identifier.specs.Texts.{before_length}
use Rattle.identifier.specs.Identity.{slash}
use Rattle.why_current.specs.Text.{object_of}
use Rattle.why_current.proofs.object.Goals as goal

pub overflow_add-count_before_slash : goal.overflow_add-count_before_slash
overflow_add-count_before_slash c =
    let most = before_length slash c.args.name.now in
    search rules

pub returns : goal.returns
unfolding object_of
returns c =
    let s = c.args.name.now in
    c.from.ensures.result_value ∙ ap (λ (n : ℕ). drop (n + 1) s) c.count_before_slash.ensures
