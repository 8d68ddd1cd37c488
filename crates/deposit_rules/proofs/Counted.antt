-- The keys of the map at the front, by what its head says.
use Prim.Native.Nat.{ℕ}
use mathlib.Core.Bool.{Bool, false}
use mathlib.Core.List.{List, [], ◌∷◌}
use Rattle.std.specs.Prelude.{None, Some}
use mathlib.Core.Path.{◌≡◌, refl, ◌∙◌}
use lib.ListN.{length}
use Rattle.msgpack.specs.Readers.{counted, read_map}
use Rattle.deposit_rules.specs.Keys.{keys_from, keys_of, are_among, are_these}
use Rattle.deposit_rules.specs.Codes.{AmongThose, AreThose}
use Rattle.deposit_rules.proofs.Loops.{none_of}
use Rattle.deposit_rules.proofs.Maps.{same_number, not_so_many}

module _ (s codes : List ℕ) where
  pub among_no_map : read_map s ≡ None → AmongThose codes (keys_of s) false
  unfolding keys_of are_among
  among_no_map e = record { are = λ texts c. rw (e, none_of texts) }

  pub those_no_map : read_map s ≡ None → AreThose codes (keys_of s) false
  unfolding keys_of are_these
  those_no_map e = record { are = λ texts c. rw e (no_key texts) }
    where
      no_key : (texts : List (List ℕ)) → false ≡ are_these texts (None ∷ [])
      no_key [] = refl
      no_key (t ∷ ts) = refl

  module _ (count size : ℕ) (e : read_map s ≡ Some (counted count size)) where
    keys_are : keys_of s ≡ keys_from count s size
    unfolding keys_of
    keys_are = rw e

    pub among_counted : (r : Bool) → AmongThose codes (keys_from count s size) r → AmongThose codes (keys_of s) r
    among_counted r a = rw keys_are a

    pub those_counted : (r : Bool) → count ≡ length codes → AreThose codes (keys_from (length codes) s size) r → AreThose codes (keys_of s) r
    those_counted r n a = rw (keys_are, n) a

    pub those_other_number : (count ≡ length codes → ⊥) → AreThose codes (keys_of s) false
    those_other_number n = record {
      are = λ texts c. rw keys_are (not_so_many texts count s size (λ (m : count ≡ length texts). n (m ∙ same_number texts codes c)));
    }
