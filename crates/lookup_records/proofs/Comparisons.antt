-- Names and identifiers are compared text by text: the first that differs decides.
use Prim.Native.Nat.{ℕ}
use mathlib.Core.Bool.{true, false}
use mathlib.Core.List.{List}
use Rattle.std.specs.Prelude.{Some}
use mathlib.Core.Path.{◌≡◌}
use Rattle.slices.specs.Bytes.{same_bytes}
use Rattle.slices.specs.Places.{part_at}
use Rattle.identifier.specs.Identity.{identity, same_identity}
use Rattle.held_identifier.specs.Held.{has_name}
use Rattle.primary.specs.Answers.{texts_in}
use Rattle.primary.specs.declared.Texts.{Texts}

module _ (s : List ℕ) (t : Texts) (bucket object : List ℕ) where
  pub other_bucket : same_bytes (part_at s t.bucket) bucket ≡ false → false ≡ has_name (Some (texts_in s t)) bucket object
  unfolding has_name
  other_bucket e = rw e

  pub same_bucket : same_bytes (part_at s t.bucket) bucket ≡ true → same_bytes (part_at s t.object) object ≡ has_name (Some (texts_in s t)) bucket object
  unfolding has_name
  same_bucket e = rw e

module _ (s : List ℕ) (t : Texts) (ulid bucket object : List ℕ) where
  pub other_ulid : same_bytes (part_at s t.ulid) ulid ≡ false → false ≡ same_identity (texts_in s t) (identity ulid bucket object)
  unfolding same_identity
  other_ulid e = rw e

  pub same_ulid : same_bytes (part_at s t.ulid) ulid ≡ true → has_name (Some (texts_in s t)) bucket object ≡ same_identity (texts_in s t) (identity ulid bucket object)
  unfolding same_identity has_name
  same_ulid e = rw e
