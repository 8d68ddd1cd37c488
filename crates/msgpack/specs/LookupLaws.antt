-- A value that is found is a whole item within the list; and what the code is told of a key, as a value found or missing.
use Prim.Native.Nat.{ℕ, zero, suc, ◌+◌, ◌<◌}
use Rattle.std.specs.Prelude.{Bool, true, false, cond, ◌≡◌, refl, eqb, length}
use mathlib.Core.List.{List}
use Rattle.std.proofs.Common.{sym, ◌∙◌, arith, length-drop}
use Rattle.std.proofs.Math.Path.{ap}
use Rattle.std.proofs.Math.Nat.{add_assoc}
use Rattle.std.proofs.Math.ListN.{drop}
use Rattle.std.proofs.Math.Seq.{drop-drop}
use Rattle.slices.specs.Logic.{absurd_numbers}
use Rattle.msgpack.specs.Formats.{map_kind}
use Rattle.msgpack.specs.Items.{Passage, whole, cut, too_deep, head_of, pass_item, depth_allowed, WholeItem}
use Rattle.msgpack.specs.Lookup.{ValuePlace, found, missing, broken, if_whole, key_at, last_where, last_value}
use Rattle.msgpack.specs.PassingLaws.{bounded}

record Next (r : Passage) (next : ℕ → ValuePlace) (p : ℕ) : Type 0 where
  size : ℕ
  is : r ≡ whole size
  then_found : next size ≡ found p

if_found : (r : Passage) (next : ℕ → ValuePlace) (p : ℕ) → if_whole r next ≡ found p → Next r next p
if_found (whole n) next p h = record { size = n; is = refl; then_found = h }
if_found cut next p h = absurd_numbers (cc)
if_found too_deep next p h = absurd_numbers (cc)

-- in pairs of s, from a place on
module _ (test : List ℕ → Bool) (s : List ℕ) where
  abbrev IsValue : ValuePlace → Type 0
  IsValue best = (p : ℕ) → best ≡ found p → WholeItem (drop p s)

  chosen : (t : Bool) (v : ℕ) (best : ValuePlace) → WholeItem (drop v s) → IsValue best → IsValue (cond t (found v) best)
  chosen true v best w b p e = let q : v ≡ p = cc in rw (← q) w
  chosen false v best w b p e = b p e

  pair_value : (count from : ℕ) (best : ValuePlace) → IsValue best → IsValue (last_where (pass_item depth_allowed) test count from (drop from s) best)
  unfolding last_where
  pair_value zero from best b p h = b p h
  pair_value (suc count) from best b p h =
      let x = if_found (pass_item depth_allowed (drop from s))
      (λ k. if_whole (pass_item depth_allowed (drop k (drop from s))) λ m. last_where (pass_item depth_allowed) test count (from + k + m)
      (drop (k + m) (drop from s)) (cond (test (drop from s)) (found (from + k)) best)) p h in
      let k : ℕ = x.size in
      let y = if_found (pass_item depth_allowed (drop k (drop from s)))
      (λ m. last_where (pass_item depth_allowed) test count (from + k + m) (drop (k + m) (drop from s)) (cond (test (drop from s)) (found (from + k)) best)) p
      x.then_found in
      let m : ℕ = y.size in
      let value : WholeItem (drop (from + k) s) = record { size = m; is = ap (pass_item depth_allowed) (sym (drop-drop k from s)) ∙ y.is } in
      let next : drop (k + m) (drop from s) ≡ drop (from + k + m) s = drop-drop (k + m) from s ∙ rw (← add_assoc from k m) in
      pair_value count (from + k + m) (cond (test (drop from s)) (found (from + k)) best) (chosen (test (drop from s)) (from + k) best value b) p
      (ap (λ (t : List ℕ). last_where (pass_item depth_allowed) test count (from + k + m) t (cond (test (drop from s)) (found (from + k)) best)) (sym next)
      ∙ y.then_found)

pub value_whole : (key s : List ℕ) (p : ℕ) → last_value key s ≡ found p → WholeItem (drop p s)
unfolding last_value
value_whole key s p h = by (eqb (head_of s).kind map_kind) h
  where
    by : (t : Bool) → cond t (last_where (pass_item depth_allowed) (key_at key) (head_of s).count (head_of s).size (drop (head_of s).size s) missing) broken
        ≡ found p → WholeItem (drop p s)
    by true q = pair_value (key_at key) s (head_of s).count (head_of s).size missing (λ v e. absurd_numbers (cc)) p q
    by false q = absurd_numbers (cc)

pub value_inside : (key s : List ℕ) (p : ℕ) → last_value key s ≡ found p → p < length s
value_inside key s p h =
    let w = value_whole key s p h in
    let b = bounded depth_allowed (drop p s) w.size w.is in
    omega (arith, b.some_byte, b.within, length-drop p s)
