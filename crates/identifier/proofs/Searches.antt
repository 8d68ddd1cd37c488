-- What the library's searches find in a text is what the definitions say.
use Prim.Native.Nat.{ℕ, ◌+◌}
use mathlib.Core.Path.{◌≡◌, refl, sym, ap}
use mathlib.Core.Bool.{Bool, true, false, cond, ◌&&◌, ◌||◌}
use mathlib.Core.List.{List, [], ◌∷◌}
use native.Mathlib.Omega.{arith}
use borrow.Author.Tests.{ltb-false}
use lib.Dec.{ltb}
use lib.ListN.{length}
use Rattle.std.specs.Prelude.{Some, None, nat_eq, position}
use Rattle.std.specs.Option.{unwrap_or}
use Rattle.std.specs.List.{list_all, list_any, position_or_len}
use Rattle.std.proofs.lemmas.List.Recursion.{is_position_or_len}
use Rattle.identifier.specs.Texts.{member, all, before, before_length}

pub all_is : (p : ℕ → Bool) (s : List ℕ) → list_all p s ≡ all p s
unfolding all
all_is p [] = refl
all_is p (x ∷ s) = ap (λ t. p x && t) (all_is p s)

pub member_is : (x : ℕ) (s : List ℕ) → list_any (λ y. nat_eq y x) s ≡ member x s
unfolding member
member_is x [] = refl
member_is x (y ∷ s) = ap (λ t. nat_eq y x || t) (member_is x s)

-- the first x stands where what is before it ends
pub before_is : (x : ℕ) (s : List ℕ) → length (before x s) ≡ position_or_len (λ y. nat_eq y x) s
unfolding before
before_is x s = is_position_or_len (λ l. length (before x l)) (λ y. nat_eq y x) refl step s
  where
    step : (y : ℕ) (l : List ℕ) → length (before x (y ∷ l)) ≡ cond (nat_eq y x) 0 (1 + length (before x l))
    step y l = go (nat_eq y x)
      where
        go : (t : Bool) → length (cond t [] (y ∷ before x l)) ≡ cond t 0 (1 + length (before x l))
        go true = refl
        go false = omega arith

pub before_counted : (x : ℕ) (s : List ℕ) → unwrap_or (position (λ y. nat_eq y x) s) (length s) ≡ length (before x s)
before_counted x s = go (ltb (position_or_len (λ y. nat_eq y x) s) (length s)) refl
  where
    go : (t : Bool) → ltb (position_or_len (λ y. nat_eq y x) s) (length s) ≡ t
        → unwrap_or (cond t (Some (position_or_len (λ y. nat_eq y x) s)) None) (length s) ≡ length (before x s)
    go true e = sym (before_is x s)
    go false e = omega (arith, ltb-false _ _ e, before_is x s, before_length x s)
