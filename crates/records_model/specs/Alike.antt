-- Values alike: equal up to the order of pairs in maps, at every depth, and in bytes that themselves hold an encoding.
use Rattle.std.specs.Prelude.{ℕ, max, List, ◌++◌, ◌≡◌, refl}
use Rattle.std.specs.Prelude.{Option, Some, None as nothing}
use Rattle.std.proofs.Common.{ap, ◌∙◌, arith}
use Rattle.msgpack.specs.Views.{Both, both, neither}
use Rattle.msgpack_model.specs.Values.{Value, Binary, Array, Map, Values, no_values_lem, value, Pairs, no_pairs, pair, depth, values_depth, pairs_depth, as_binary}
use Rattle.msgpack_model.specs.Encoding.{Encodes}
use Rattle.msgpack_model.proofs.Unique.{one_value}

-- the least such relation: a swap of neighbours, anywhere and as often as wanted, makes every order
mutual
  pub data Alike : Value → Value → Type 0 where
    same : (v : Value) → Alike v v
    and_then : {u v w : Value} → Alike u v → Alike v w → Alike u w
    arrays : {vs ws : Values} → AlikeValues vs ws → Alike (Array vs) (Array ws)
    maps : {ps qs : Pairs} → AlikePairs ps qs → Alike (Map ps) (Map qs)
    -- as `e` of a header holds the primary part
    embedded : {v w : Value} {e f : List ℕ} → Encodes v e → Encodes w f → Alike v w → Alike (Binary e) (Binary f)

  pub data AlikeValues : Values → Values → Type 0 where
    no_values_alike : AlikeValues no_values_lem no_values_lem
    next : {v w : Value} {vs ws : Values} → Alike v w → AlikeValues vs ws → AlikeValues (value v vs) (value w ws)

  pub data AlikePairs : Pairs → Pairs → Type 0 where
    no_pairs_alike : AlikePairs no_pairs no_pairs
    next_pair : {k l v w : Value} {ps qs : Pairs} → Alike k l → Alike v w → AlikePairs ps qs → AlikePairs (pair k v ps) (pair l w qs)
    swapped : (k v l w : Value) (ps : Pairs) → AlikePairs (pair k v (pair l w ps)) (pair l w (pair k v ps))
    and_further : {ps qs rs : Pairs} → AlikePairs ps qs → AlikePairs qs rs → AlikePairs ps rs

-- ---- what is equal in values alike

passing : (a b c : ℕ) → max a (max b c) ≡ max b (max a c)
passing a b c = omega arith

two_passing : (a b c d n : ℕ) → max a (max b (max c (max d n))) ≡ max c (max d (max a (max b n)))
two_passing a b c d n =
    let past_second : max b (max c (max d n)) ≡ max c (max d (max b n)) = passing b c (max d n) ∙ ap (max c) (passing b d n) in
    ap (max a) past_second ∙ passing a c (max d (max b n)) ∙ ap (max c) (passing a d (max b n))

pub same_depth : {v w : Value} → Alike v w → depth v ≡ depth w
same_depth x = elim x as (λ v w y. depth v ≡ depth w) (λ vs ws y. values_depth vs ≡ values_depth ws) (λ ps qs y. pairs_depth ps ≡ pairs_depth qs) [
  | same v ↦ refl
  | and_then (y → p) (z → q) ↦ p ∙ q
  | arrays (y → p) ↦ omega arith
  | maps (y → p) ↦ omega arith
  | embedded y z u ↦ refl
  | no_values_alike ↦ refl
  | next (y → p) (ys → q) ↦ omega arith
  | no_pairs_alike ↦ refl
  | next_pair (y → p) (z → q) (ys → r) ↦ omega arith
  | swapped k v l w ps ↦ two_passing (depth k) (depth v) (depth l) (depth w) (pairs_depth ps)
  | and_further (y → p) (z → q) ↦ p ∙ q
]

-- ---- what is alike

pub both_same : {A : Type 0} {R : A → A → Type 0} → ((a : A) → R a a) → (o : Option A) → Both R o o
both_same r (Some a) = both (r a)
both_same r nothing = neither

pub both_and : {A : Type 0} {R : A → A → Type 0} → ((a b c : A) → R a b → R b c → R a c) → {o p q : Option A} → Both R o p → Both R p q → Both R o q
both_and t (both {a = a} {b = b} x) (both {b = c} y) = both (t a b c x y)
both_and t neither neither = neither

-- bytes alike: the same, or encodings of values alike
pub data AlikeBytes : List ℕ → List ℕ → Type 0 where
  same_bytes_lem : (e : List ℕ) → AlikeBytes e e
  encodings : {v w : Value} {e f : List ℕ} → Encodes v e → Encodes w f → Alike v w → AlikeBytes e f

-- values of records alike: the same, whatever they hold, or encodings of headers alike and then the same secondary part
pub data AlikeRecordValues : List ℕ → List ℕ → Type 0 where
  same_value : (value : List ℕ) → AlikeRecordValues value value
  headers : {v w : Value} {e f : List ℕ} → Encodes v e → Encodes w f → Alike v w → (secondary : List ℕ)
      → AlikeRecordValues (e ++ secondary) (f ++ secondary)

bytes_and : (e f g : List ℕ) → AlikeBytes e f → AlikeBytes f g → AlikeBytes e g
bytes_and e f g (same_bytes_lem d) y = y
bytes_and e f g (encodings x y z) (same_bytes_lem d) = encodings x y z
bytes_and e f g (encodings x y z) (encodings p q r) = encodings x q (and_then z (rw (← one_value y p) at r))

pub alike_binary : {v w : Value} → Alike v w → Both AlikeBytes (as_binary v) (as_binary w)
alike_binary (same v) = both_same same_bytes_lem (as_binary v)
alike_binary (and_then x y) = both_and bytes_and (alike_binary x) (alike_binary y)
alike_binary (arrays x) = neither
alike_binary (maps x) = neither
alike_binary (embedded x y z) = both (encodings x y z)
