-- Kinds of items: `==` compares their numbers, and what each number says that the code finds by a match.
use Rattle.std.specs.Prelude.{ℕ, ◌≤◌, ◌<◌, Bool, true, false, [], ◌∷◌, ◌≡◌, refl, eqb, get_or}
use Rattle.std.proofs.Common.{◌⊎◌, inl, inr, arith, rules, sym, ap, ◌∙◌}
use borrow.Author.Tests.{eq-eqb, ne_eqb}
use denote.Enum.Bare.{sameb, same_true, same_false}
use Rattle.msgpack.specs.Formats.{kind_index, unused_kind, array_kind}
use Rattle.msgpack.specs.declared.Kind.{Kind}
use Rattle.msgpack.specs.declared.Kind.TheVariants.{Unused, Nil, Boolean, Integer, Float, Text, Binary, Extension, Array, Map}
use Rattle.msgpack.specs.contracts.Kind.{the_type}

kind_of_index : ℕ → Kind
kind_of_index n = get_or (Unused ∷ Nil ∷ Boolean ∷ Integer ∷ Float ∷ Text ∷ Binary ∷ Extension ∷ Array ∷ Map ∷ []) n Unused

back : (k : Kind) → kind_of_index (kind_index k) ≡ k
unfolding kind_of_index
back Unused = refl
back Nil = refl
back Boolean = refl
back Integer = refl
back Float = refl
back Text = refl
back Binary = refl
back Extension = refl
back Array = refl
back Map = refl

one_index : (a b : Kind) → kind_index a ≡ kind_index b → a ≡ b
one_index a b e = sym (back a) ∙ ap kind_of_index e ∙ back b

pub same_index : (a b : Kind) → sameb the_type a b ≡ eqb (kind_index a) (kind_index b)
same_index a b = by (sameb the_type a b) refl
  where
    by : (t : Bool) → sameb the_type a b ≡ t → t ≡ eqb (kind_index a) (kind_index b)
    by true e = sym (eq-eqb _ _ (ap kind_index (same_true the_type (search rules) a b e)))
    by false e = sym (ne_eqb _ _ (λ (i : kind_index a ≡ kind_index b). same_false the_type a b e (one_index a b i)))

pub container_kind : (k : Kind) → (k ≡ Array) ⊎ (k ≡ Map) → array_kind ≤ kind_index k
container_kind k (inl e) = rw e (omega arith)
container_kind k (inr e) = rw e (omega arith)

pub flat_kind : (k : Kind) → (k ≡ Array → ⊥) → (k ≡ Map → ⊥) → kind_index k < array_kind
flat_kind Unused a m = omega arith
flat_kind Nil a m = omega arith
flat_kind Boolean a m = omega arith
flat_kind Integer a m = omega arith
flat_kind Float a m = omega arith
flat_kind Text a m = omega arith
flat_kind Binary a m = omega arith
flat_kind Extension a m = omega arith
flat_kind Array a m = absurd (a refl)
flat_kind Map a m = absurd (m refl)

pub used_kind : (k : Kind) → (k ≡ Unused → ⊥) → kind_index k ≡ unused_kind → ⊥
used_kind Unused u e = u refl
used_kind Nil u e = omega arith
used_kind Boolean u e = omega arith
used_kind Integer u e = omega arith
used_kind Float u e = omega arith
used_kind Text u e = omega arith
used_kind Binary u e = omega arith
used_kind Extension u e = omega arith
used_kind Array u e = omega arith
used_kind Map u e = omega arith
