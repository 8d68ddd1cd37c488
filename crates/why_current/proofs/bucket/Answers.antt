-- `why_current::bucket` meets its contract. As many bytes as stand before the slash are those before it.
use mathlib.Core.Path.{ap, ◌∙◌}
use Prim.Native.Nat.{ℕ}
use lib.ListN.{take}
use Rattle.identifier.specs.Texts.{before_take}
use Rattle.identifier.specs.Identity.{slash}
use Rattle.why_current.specs.Text.{bucket_of}
use Rattle.why_current.proofs.bucket.Goals as goal

pub returns : goal.returns
unfolding bucket_of
returns c =
    let s = c.args.name.now in
    c.front.ensures.result_value ∙ ap (λ (n : ℕ). take n s) c.count_before_slash.ensures ∙ before_take slash s
