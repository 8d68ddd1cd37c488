-- What a composite text reads as is what the struct read from it names.
use Prim.Native.Nat.{ℕ}
use mathlib.Core.List.{List}
use Rattle.std.specs.Prelude.{Option, None, Some}
use mathlib.Core.Path.{◌≡◌, refl}
use Rattle.slices.specs.Logic.{absurd_numbers}
use Rattle.identifier.specs.Identity.{Identity, sizes}
use Rattle.identifier.specs.Composite.{identity_in, reads_text}
use Rattle.held_identifier.specs.Held.{named, held, answered, named_held}
use Rattle.held_identifier.specs.declared.Identifier.{Identifier}

module _ (t : List ℕ) where
  pub read_names : (id : Identifier) → answered (identity_in t) ≡ Some id → named id ≡ identity_in t
  unfolding answered
  read_names id e = by (identity_in t) refl e
    where
      by : (x : Option Identity) → identity_in t ≡ x → answered x ≡ Some id → named id ≡ x
      by (Some i) f g = let is : held i ≡ id = cc in rw (← is) (named_held i (sizes i (reads_text t i f).0))
      by None f g = absurd_numbers (cc)

  pub none_read : ((id : Identifier) → answered (identity_in t) ≡ Some id → ⊥) → identity_in t ≡ None
  unfolding answered
  none_read = by (identity_in t)
    where
      by : (x : Option Identity) → ((id : Identifier) → answered x ≡ Some id → ⊥) → x ≡ None
      by (Some i) n = absurd (n (held i) refl)
      by None n = refl
