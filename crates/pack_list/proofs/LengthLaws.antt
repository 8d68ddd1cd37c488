-- The stored lengths of an entry's blocks fill its range of the pack, one after the other.
use Prim.Native.Nat.{ℕ, suc, ◌+◌, ◌-◌, ◌≤◌}
use Rattle.std.specs.Prelude.{Bool, true, false, cond, ◌≡◌, ltb, length}
use mathlib.Core.List.{[], ◌∷◌, append-nil}
use Rattle.std.proofs.Math.Path.{refl, ap}
use Rattle.std.proofs.Common.{◌∙◌, arith, ltb-true, ltb-false, length-append, take_all}
use Rattle.pack_list.specs.Lists.{Entry, sum}
use Rattle.pack_list.specs.Blocks.{blocks, stored_lengths}
use Rattle.pack_list.specs.Lengths.{sum_one_more, sum_append, sum_front, stored_from_lem, no_rest, stored_rest, stored_range, EndToEnd, Inside}

-- they are those listed, where these fill the range
pub stored_listed : (e : Entry) → e.stored.len ≤ sum e.lengths → stored_lengths e ≡ e.lengths
unfolding stored_lengths
stored_listed e h = stored_from_lem e.stored.len e.lengths ∙ rw (no_rest (e.stored.len - sum e.lengths) (omega arith)) (append-nil e.lengths)

pub blocks_exactly : (e : Entry) → blocks e ≡ length e.lengths + cond (ltb (sum e.lengths) e.stored.len) 1 0
unfolding blocks
blocks_exactly e = by (ltb (sum e.lengths) e.stored.len) refl
  where
    by : (t : Bool) → ltb (sum e.lengths) e.stored.len ≡ t → length (stored_lengths e) ≡ length e.lengths + cond t 1 0
    by true q =
        rw (stored_rest e (ltb-true (sum e.lengths) e.stored.len q))
        (length-append e.lengths ((e.stored.len - sum e.lengths) ∷ []) ∙ omega arith)
    by false q = rw (stored_listed e (ltb-false (sum e.lengths) e.stored.len q)) (omega arith)

-- so they fill the range, where those listed do not exceed it
pub blocks_fill : (e : Entry) → sum e.lengths ≤ e.stored.len → sum (stored_lengths e) ≡ e.stored.len
unfolding sum
blocks_fill e h = by (ltb (sum e.lengths) e.stored.len) refl
  where
    by : (t : Bool) → ltb (sum e.lengths) e.stored.len ≡ t → sum (stored_lengths e) ≡ e.stored.len
    by true q =
        let last = (e.stored.len - sum e.lengths) ∷ [] in
        ap sum (stored_rest e (ltb-true (sum e.lengths) e.stored.len q)) ∙ sum_append e.lengths last ∙ omega arith
    by false q = let le = ltb-false (sum e.lengths) e.stored.len q in ap sum (stored_listed e le) ∙ omega arith

pub end_to_end : (e : Entry) → sum e.lengths ≤ e.stored.len → EndToEnd e
unfolding sum blocks
end_to_end e h =
    record {
      first = omega arith;
      next = λ k. let one = sum_one_more (stored_lengths e) k in omega arith;
      last = λ k q.
          let one = sum_one_more (stored_lengths e) k in
          let all = ap sum (take_all (suc k) (stored_lengths e) (omega arith)) in
          let fill = blocks_fill e h in
          omega arith;
    }

pub stored_inside : (e : Entry) (k : ℕ) → sum e.lengths ≤ e.stored.len → Inside (stored_range e k) e.stored
stored_inside e k h =
    let one = sum_one_more (stored_lengths e) k in
    let front = sum_front (stored_lengths e) (suc k) in
    let fill = blocks_fill e h in
    record { least = omega arith; most = omega arith }
