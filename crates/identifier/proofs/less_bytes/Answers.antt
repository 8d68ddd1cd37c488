-- The order of the library's slices is that of the definition.
use mathlib.Core.Path.{refl}
use native.Mathlib.Omega.{arith}
use Rattle.std.specs.Ordering.{nat_cmp, is_lt}
use Rattle.std.proofs.lemmas.Bool.Decides.{nat_tests}
use Rattle.std.proofs.lemmas.Cmp.{same_from_slice_cmp_tested}
use Rattle.identifier.specs.Texts.{less}
use Rattle.identifier.proofs.less_bytes.Goals as goal

pub returns : goal.returns
unfolding less
returns c =
    same_from_slice_cmp_tested nat_cmp is_lt less refl (λ _ _. refl) (λ _ _. refl) (grind (arith, nat_tests)) c.args.a.now c.args.b.now c.lt.result c.lt.ensures
