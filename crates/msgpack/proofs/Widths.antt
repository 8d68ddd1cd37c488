-- The short form's width by the number of a kind: one past the kinds has a map's, since what holds items comes last.
use Rattle.std.specs.Prelude.{ℕ, ◌≤◌, ◌<◌, ◌≡◌, min}
use Rattle.std.proofs.Common.{◌⊎◌, inl, inr, arith, ap, ◌∙◌}
use Rattle.std.proofs.lemmas.Bool.{cases_lt}
use borrow.Author.Tests.{ne_eqb, le-leb, le-ltb}
use Rattle.msgpack.specs.Formats.{kind_index, integer_kind, text_kind, binary_kind, extension_kind, array_kind, map_kind}
use Rattle.msgpack.specs.Readers.{Int, plus, minus}
use Rattle.msgpack.specs.Short.{fixed_holds, short_width}
use Rattle.msgpack.specs.declared.Kind.{Kind}
use Rattle.msgpack.specs.declared.Kind.TheVariants.{Unused, Nil, Boolean, Integer, Float, Text, Binary, Extension, Array, Map}

pub index_within : (k : Kind) → kind_index k ≤ map_kind
index_within Unused = omega arith
index_within Nil = omega arith
index_within Boolean = omega arith
index_within Integer = omega arith
index_within Float = omega arith
index_within Text = omega arith
index_within Binary = omega arith
index_within Extension = omega arith
index_within Array = omega arith
index_within Map = omega arith

past : (k : ℕ) (i : Int) → map_kind < k → short_width map_kind i ≡ short_width k i
unfolding short_width fixed_holds
past k (plus n) h =
    let held : array_kind ≤ k = omega arith in
    rw (
      ne_eqb k integer_kind (λ (e : k ≡ integer_kind). omega arith),
      ne_eqb k text_kind (λ (e : k ≡ text_kind). omega arith),
      ne_eqb k binary_kind (λ (e : k ≡ binary_kind). omega arith),
      ne_eqb k extension_kind (λ (e : k ≡ extension_kind). omega arith),
      le-leb _ _ held,
      le-ltb _ _ held,
    )
past k (minus n) h =
    let held : array_kind ≤ k = omega arith in
    rw (le-ltb _ _ held)

pub width_past : (k : ℕ) (i : Int) → short_width (min k map_kind) i ≡ short_width k i
width_past k i = by (cases_lt map_kind k)
  where
    by : (map_kind < k) ⊎ (k ≤ map_kind) → short_width (min k map_kind) i ≡ short_width k i
    by (inl h) = ap (λ (m : ℕ). short_width m i) (omega arith) ∙ past k i h
    by (inr h) = ap (λ (m : ℕ). short_width m i) (omega arith)
