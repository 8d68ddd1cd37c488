-- The deltas that count and the stored lengths of an entry's blocks, said without a computation.
use Prim.Native.Nat.{ℕ, zero, suc, ◌+◌, ◌-◌, ◌≤◌, ◌<◌}
use Rattle.std.specs.Prelude.{◌↔◌, ◌≡◌, length}
use mathlib.Core.List.{List, [], ◌∷◌, ◌++◌, map}
use Rattle.std.proofs.Math.Path.{refl, ap}
use Rattle.std.proofs.Common.{sym, ◌∙◌, arith, length-append}
use Rattle.std.proofs.Math.ListN.{get_or, take, get_or-map}
use Rattle.msgpack.specs.Readers.{Int, plus}
use Rattle.pack_list.specs.Lists.{range, Entry, sum}
use Rattle.pack_list.specs.declared.Range.{Range}
use Rattle.pack_list.specs.Blocks.{rest_of, blocks, deltas_of, gain, loss, gains, losses, stored_from, stored_lengths}

-- ---- sums

pub sum_one_more : (ns : List ℕ) (k : ℕ) → sum (take (suc k) ns) ≡ sum (take k ns) + get_or ns k 0
unfolding sum
sum_one_more [] zero = refl
sum_one_more [] (suc k) = refl
sum_one_more (n ∷ ns) zero = omega arith
sum_one_more (n ∷ ns) (suc k) = let h = sum_one_more ns k in omega arith

pub sum_front : (ns : List ℕ) (k : ℕ) → sum (take k ns) ≤ sum ns
unfolding sum
sum_front ns zero = omega arith
sum_front [] (suc k) = omega arith
sum_front (n ∷ ns) (suc k) = let h = sum_front ns k in omega arith

pub sum_append : (ms ns : List ℕ) → sum (ms ++ ns) ≡ sum ms + sum ns
unfolding sum
sum_append [] ns = omega arith
sum_append (m ∷ ms) ns = let h = sum_append ms ns in omega arith

-- ---- the deltas of an entry's blocks; a block without one has the stride's length

abbrev pub delta_of : List Int → ℕ → Int
delta_of ds k = get_or ds k (plus 0)

-- f 0 and so on, n numbers
abbrev pub total : ℕ → (ℕ → ℕ) → ℕ
total zero f = 0
total (suc n) f = total n f + f n

module _ (f : Int → ℕ) (none-counts : f (plus 0) ≡ 0) where
  total_deltas : (ds : List Int) (n : ℕ) → sum (map f (take n ds)) ≡ total n (λ k. f (delta_of ds k))
  unfolding sum
  total_deltas ds zero = refl
  total_deltas ds (suc n) =
      let one = sum_one_more (map f ds) n in
      let last : get_or (map f ds) n 0 ≡ f (delta_of ds n) = ap (get_or (map f ds) n) (sym none-counts) ∙ get_or-map f ds n (plus 0) in
      let front = total_deltas ds n in
      rw (map_take ds (suc n)) (one ∙ rw (last, ← map_take ds n, front))
    where
      map_take : (es : List Int) (m : ℕ) → map f (take m es) ≡ take m (map f es)
      map_take es zero = refl
      map_take [] (suc m) = refl
      map_take (e ∷ es) (suc m) = rw (map_take es m)

-- the stride counts the deltas of the blocks that are there, and no others
pub gains_exactly : (e : Entry) → gains e ≡ total (blocks e) (λ k. gain (delta_of e.deltas k))
unfolding gains deltas_of
gains_exactly e = total_deltas gain refl e.deltas (blocks e)

pub losses_exactly : (e : Entry) → losses e ≡ total (blocks e) (λ k. loss (delta_of e.deltas k))
unfolding losses deltas_of
losses_exactly e = total_deltas loss refl e.deltas (blocks e)

-- ---- the stored lengths of an entry's blocks fill its range of the pack

pub stored_from_lem : (left : ℕ) (ls : List ℕ) → stored_from left ls ≡ ls ++ rest_of (left - sum ls)
unfolding stored_from sum
stored_from_lem left [] = let same : left - 0 ≡ left = omega arith in rw same
stored_from_lem left (l ∷ ls) = let same : left - l - sum ls ≡ left - (l + sum ls) = omega arith in rw (stored_from_lem (left - l) ls, same)

pub no_rest : (n : ℕ) → n ≡ 0 → rest_of n ≡ []
no_rest n e = rw e

pub one_rest : (n : ℕ) → 0 < n → rest_of n ≡ n ∷ []
one_rest zero h = absurd (omega arith)
one_rest (suc n) h = refl

-- and one more, where these leave a rest, which it has
pub stored_rest : (e : Entry) → sum e.lengths < e.stored.len → stored_lengths e ≡ e.lengths ++ ((e.stored.len - sum e.lengths) ∷ [])
unfolding stored_lengths
stored_rest e h = stored_from_lem e.stored.len e.lengths ∙ rw (one_rest (e.stored.len - sum e.lengths) (omega arith))

-- as code counts them: with the rest
pub blocks_with_rest : (e : Entry) → blocks e ≡ length e.lengths + length (rest_of (e.stored.len - sum e.lengths))
unfolding blocks stored_lengths
blocks_with_rest e = ap length (stored_from_lem e.stored.len e.lengths) ∙ length-append e.lengths (rest_of (e.stored.len - sum e.lengths))

-- without a block there is only an entry that lists nothing of a range of nothing
pub no_block_in : (e : Entry) → blocks e ≡ 0 ↔ ((e.lengths ≡ []) × (e.stored.len ≡ 0))
unfolding blocks stored_lengths stored_from
no_block_in e = (by e.lengths e.stored.len, λ h. rw (h.0, h.1))
  where
    by : (ls : List ℕ) (left : ℕ) → length (stored_from left ls) ≡ 0 → (ls ≡ []) × (left ≡ 0)
    by [] zero h = (refl, refl)
    by [] (suc left) h = absurd (omega arith)
    by (l ∷ ls) left h = absurd (omega arith)

-- the k-th block's range of the pack, counted from 0
abbrev pub stored_range : Entry → ℕ → Range
stored_range e k = range (e.stored.start + sum (take k (stored_lengths e))) (get_or (stored_lengths e) k 0)

pub record EndToEnd (e : Entry) : Type 0 where
  pub first : (stored_range e 0).start ≡ e.stored.start
  pub next : (k : ℕ) → (stored_range e (suc k)).start ≡ (stored_range e k).start + (stored_range e k).len
  pub last : (k : ℕ) → suc k ≡ blocks e → (stored_range e k).start + (stored_range e k).len ≡ e.stored.start + e.stored.len

pub record Inside (r whole : Range) : Type 0 where
  pub least : whole.start ≤ r.start
  pub most : r.start + r.len ≤ whole.start + whole.len
