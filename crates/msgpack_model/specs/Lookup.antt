-- The last value of a key is the one that the map's value has, and the key stands as often as in it; and where the key does not repeat, the
-- order of pairs plays no part.
use Rattle.std.specs.Prelude.{ℕ, ◌+◌, ◌≤◌, Bool, true, false, cond, ◌≡◌, refl}
use mathlib.Core.List.{List, ◌++◌}
use Rattle.std.specs.Prelude.{Option, Some, None as nothing}
use Rattle.std.proofs.Math.Path.{ap}
use Rattle.std.proofs.Common.{◌∙◌, arith}
use Rattle.std.proofs.Math.ListN.{drop}
use Rattle.slices.specs.Bytes.{same_bytes}
use Rattle.msgpack.specs.Lookup.{ValuePlace, found, missing, broken, last_value}
use Rattle.msgpack_model.specs.Values.{Value, Pairs, no_pairs, pair, as_text}
use Rattle.msgpack_model.specs.Encoding.{Encodes}

-- ---- the lookup in values

abbrev pub is_text : List ℕ → Option (List ℕ) → Bool
is_text key (Some e) = same_bytes e key
is_text key nothing = false

-- whether a key is that text
abbrev pub key_is : List ℕ → Value → Bool
key_is key v = is_text key (as_text v)

-- the last value whose key is that text; `best` where there is none
abbrev pub last_from : List ℕ → Pairs → Option Value → Option Value
last_from key no_pairs best = best
last_from key (pair k v ps) best = last_from key ps (cond (key_is key k) (Some v) best)

abbrev pub last_in : List ℕ → Pairs → Option Value
last_in key ps = last_from key ps nothing

-- ---- the value that is found

-- at this place of the list stands an encoding of that value; or there is none
pub data FoundAt (s : List ℕ) : ValuePlace → Option Value → Type 0 where
  value_there : {p : ℕ} {v : Value} {f : List ℕ} (q : List ℕ) → drop p s ≡ f ++ q → Encodes v f → FoundAt s (found p) (Some v)
  none_there : FoundAt s missing nothing

-- ---- the last value in the map at the front

pub data MapLookup (key s : List ℕ) : Option Pairs → Type 0 where
  in_map : {ps : Pairs} → FoundAt s (last_value key s) (last_in key ps) → MapLookup key s (Some ps)
  not_map : last_value key s ≡ broken → MapLookup key s nothing

-- ---- how often a key stands in a map

-- how often the text stands as a key
abbrev pub times_key : List ℕ → Pairs → ℕ
times_key key no_pairs = 0
times_key key (pair k v ps) = cond (key_is key k) 1 0 + times_key key ps

-- 0 where there is no map
abbrev pub times_in : List ℕ → Option Pairs → ℕ
times_in key (Some ps) = times_key key ps
times_in key nothing = 0

-- ---- the order of pairs

-- the same pairs in another order
pub data Reordered : Pairs → Pairs → Type 0 where
  same_order : (ps : Pairs) → Reordered ps ps
  behind : {k v : Value} {ps qs : Pairs} → Reordered ps qs → Reordered (pair k v ps) (pair k v qs)
  swapped : (k v l w : Value) (ps : Pairs) → Reordered (pair k v (pair l w ps)) (pair l w (pair k v ps))
  and_then : {ps qs rs : Pairs} → Reordered ps qs → Reordered qs rs → Reordered ps rs

module _ (key : List ℕ) where
  pub as_often : {ps qs : Pairs} → Reordered ps qs → times_key key ps ≡ times_key key qs
  as_often (same_order ps) = refl
  as_often (behind {k = k} x) = ap (λ n. cond (key_is key k) 1 0 + n) (as_often x)
  as_often (swapped k v l w ps) = omega arith
  as_often (and_then x y) = as_often x ∙ as_often y

  apart : (s t : Bool) (v w best : Option Value) → cond {A = ℕ} s 1 0 + (cond t 1 0 + 0) ≤ 1 → cond t w (cond s v best) ≡ cond s v (cond t w best)
  apart true true v w best h = absurd (omega arith)
  apart true false v w best h = refl
  apart false true v w best h = refl
  apart false false v w best h = refl

  reordered_from : {ps qs : Pairs} → Reordered ps qs → times_key key ps ≤ 1 → (best : Option Value) → last_from key ps best ≡ last_from key qs best
  reordered_from (same_order ps) h best = refl
  reordered_from (behind {k = k} {v = v} x) h best = reordered_from x (omega arith) (cond (key_is key k) (Some v) best)
  reordered_from (swapped k v l w ps) h best = ap (last_from key ps) (apart (key_is key k) (key_is key l) (Some v) (Some w) best (omega arith))
  reordered_from (and_then x y) h best = reordered_from x h best ∙ reordered_from y (omega (arith, as_often x)) best

  -- where the key does not repeat, the order plays no part
  pub any_order : {ps qs : Pairs} → Reordered ps qs → times_key key ps ≤ 1 → last_in key ps ≡ last_in key qs
  any_order x h = reordered_from x h nothing
