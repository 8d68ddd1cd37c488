-- The sums of the deltas of an entry: with one delta more they are within 64 bits, or told not to be; a sum that is not stays so.
use Prim.Native.Nat.{ℕ, zero, suc, ◌+◌, ◌-◌, ◌*◌, ◌/◌, ◌≤◌, ◌<◌}
use mathlib.Core.Bool.{Bool, true, false, ◌&&◌}
use mathlib.Core.List.{List, [], ◌∷◌, ◌++◌, map, append-nil}
use mathlib.Core.Logic.{◌⊎◌, inl, inr, ⊎_elim}
use Rattle.std.specs.Prelude.{Option, None, Some}
use mathlib.Core.Path.{◌≡◌, refl, sym, ap, subst, ◌∙◌}
use native.Mathlib.Nat.{div-lt_iff_lt-mul}
use native.Mathlib.Omega.{arith}
use Rattle.std.specs.Int.{div_ceil}
use Rattle.std.proofs.lemmas.Grind.{div_ceil_times}
use borrow.Author.Tests.{ltb-true, ltb-false, leb-true, leb-false, le-leb, lt-leb}
use lib.Dec.{ltb, leb}
use lib.ListN.{length, take, drop, length-append}
use lib.Seq.{take-nil, take_all, take-append-le, append_snoc}
use Rattle.slices.specs.Logic.{absurd_numbers, either, both, clash}
use Rattle.msgpack.specs.Items.{pass_over}
use Rattle.msgpack.specs.Readers.{Int, read_integer}
use Rattle.msgpack.specs.Lookup.{over}
use Rattle.msgpack.specs.Views.{size_of, items_from}
use Rattle.pack_list.specs.Lists.{each_of, sum, greatest}
use Rattle.pack_list.specs.Blocks.{gain, loss, ceiling}
use Rattle.pack_list.specs.declared.Numbers.{Numbers}
use Rattle.pack_list.specs.declared.Sums.{Sums}
use Rattle.pack_list.specs.Answers.{items_in, SumsAre, WithDelta, AreSummed, DeltasSummed}
use Rattle.pack_list.specs.Walks.{each_on, each_stops, none_left}

-- ---- a quotient rounded up

by_bounds : (q a n : ℕ) → a ≤ q * suc n → q * suc n < a + suc n → q ≡ ceiling a n
unfolding ceiling
by_bounds zero zero n h k = refl
by_bounds (suc q) zero n h k = absurd (omega arith)
by_bounds zero (suc a) n h k = absurd (omega arith)
by_bounds (suc q) (suc a) n h k =
    let most : a / suc n < suc q = (div-lt_iff_lt-mul {k = suc n} (omega arith)).1 (omega arith) in
    let least : a / suc n < q → ⊥ = λ l. let m = (div-lt_iff_lt-mul {k = suc n} (omega arith)).0 l in omega arith in
    omega (arith, most, least)

pub ceiling_is : (a n : ℕ) → 0 < n → div_ceil a n ≡ ceiling a (n - 1)
ceiling_is a zero h = absurd (omega arith)
ceiling_is a (suc n) h =
    let blocks : suc n - 1 ≡ n = omega arith in
    let b = div_ceil_times a (suc n) h in
    rw blocks (by_bounds _ a n b.0 b.1)

-- ---- two sums within 64 bits

abbrev within : ℕ → ℕ → Bool
within a b = leb a greatest && leb b greatest

within_is : (a b : ℕ) → within a b ≡ true → (a ≤ greatest) × (b ≤ greatest)
within_is a b e = let p = both (leb a greatest) (leb b greatest) e in (leb-true a greatest p.0, leb-true b greatest p.1)

is_within : (a b : ℕ) → a ≤ greatest → b ≤ greatest → within a b ≡ true
is_within a b p q = rw (le-leb a greatest p, le-leb b greatest q)

not_within : (a b : ℕ) → (greatest < a) ⊎ (greatest < b) → within a b ≡ false
not_within a b (inl p) = rw (lt-leb a greatest p)
not_within a b (inr q) = rw (lt-leb b greatest q) (go (leb a greatest))
  where
    go : (t : Bool) → (t && false) ≡ false
    go true = refl
    go false = refl

exceeds : (a b : ℕ) → within a b ≡ false → (greatest < a) ⊎ (greatest < b)
exceeds a b e = go (leb a greatest) refl e
  where
    go : (t : Bool) → leb a greatest ≡ t → (t && leb b greatest) ≡ false → (greatest < a) ⊎ (greatest < b)
    go true l f = inr (leb-false b greatest f)
    go false l f = inl (leb-false a greatest l)

-- sums that grow
more_exceeds : (a b c d : ℕ) → a ≤ c → b ≤ d → within a b ≡ false → within c d ≡ false
more_exceeds a b c d p q e = not_within c d (⊎_elim (λ (l : greatest < a). inl (omega arith)) (λ (l : greatest < b). inr (omega arith)) (exceeds a b e))

sum_more : (f : Int → ℕ) (ds : List Int) (d : Int) → sum (map f (ds ++ d ∷ [])) ≡ sum (map f ds) + f d
unfolding sum
sum_more f [] d = omega arith
sum_more f (e ∷ ds) d = let h = sum_more f ds d in omega arith

-- ---- with one delta more

module _ (d : Int) (old new : Sums) where
  -- a delta that both sums have room for
  pub with_room : gain d ≤ greatest - old.gains → loss d ≤ greatest - old.losses
      → new.gains ≡ old.gains + gain d → new.losses ≡ old.losses + loss d → new.counted ≡ old.counted → WithDelta d old new
  with_room room room' gains losses same =
      record {
        keeps = λ source ds h.
            let g = sum_more gain ds d in
            let l = sum_more loss ds d in
            record {
              counted = same ∙ go source ds h old.counted refl;
              gains = λ e. let o = h.gains (sym same ∙ e) in omega arith;
              losses = λ e. let o = h.losses (sym same ∙ e) in omega arith;
            };
      }
    where
      go : (source : ℕ) (ds : List Int) → SumsAre source ds old → (t : Bool) → old.counted ≡ t
          → t ≡ within (sum (map gain (ds ++ d ∷ []))) (source + sum (map loss (ds ++ d ∷ [])))
      go source ds h true e =
          let g = sum_more gain ds d in
          let l = sum_more loss ds d in
          let w = within_is (sum (map gain ds)) (source + sum (map loss ds)) (sym h.counted ∙ e) in
          let p = h.gains e in
          let q = h.losses e in
          sym (is_within (sum (map gain (ds ++ d ∷ []))) (source + sum (map loss (ds ++ d ∷ []))) (omega arith) (omega arith))
      go source ds h false e =
          let g = sum_more gain ds d in
          let l = sum_more loss ds d in
          sym (more_exceeds (sum (map gain ds)) (source + sum (map loss ds)) (sum (map gain (ds ++ d ∷ []))) (source + sum (map loss (ds ++ d ∷ [])))
          (omega arith) (omega arith) (sym h.counted ∙ e))

  -- one that a sum has no room for
  pub without_room : (greatest - old.gains < gain d) ⊎ (greatest - old.losses < loss d) → new.counted ≡ false → WithDelta d old new
  without_room none_left not =
      record {
        keeps = λ source ds h.
            record {
              counted = not ∙ go source ds h old.counted refl;
              gains = λ e. clash e not;
              losses = λ e. clash e not;
            };
      }
    where
      go : (source : ℕ) (ds : List Int) → SumsAre source ds old → (t : Bool) → old.counted ≡ t
          → false ≡ within (sum (map gain (ds ++ d ∷ []))) (source + sum (map loss (ds ++ d ∷ [])))
      go source ds h true e =
          let g = sum_more gain ds d in
          let l = sum_more loss ds d in
          let w = within_is (sum (map gain ds)) (source + sum (map loss ds)) (sym h.counted ∙ e) in
          let p = h.gains e in
          let q = h.losses e in
          sym (not_within (sum (map gain (ds ++ d ∷ []))) (source + sum (map loss (ds ++ d ∷ []))) (⊎_elim
          (λ (x : greatest - old.gains < gain d). inl (omega arith)) (λ (x : greatest - old.losses < loss d). inr (omega arith)) none_left))
      go source ds h false e =
          let g = sum_more gain ds d in
          let l = sum_more loss ds d in
          sym (more_exceeds (sum (map gain ds)) (source + sum (map loss ds)) (sum (map gain (ds ++ d ∷ []))) (source + sum (map loss (ds ++ d ∷ [])))
          (omega arith) (omega arith) (sym h.counted ∙ e))

-- ---- all of them, one after the other

module _ (s : List ℕ) (n : Numbers) (blocks source : ℕ) where
  -- so many have been read, and the sums are of those that belong to blocks
  pub record SummedTo (at k : ℕ) (sums : Sums) : Type 0 where
    pub deltas : List Int
    pub count : length deltas ≡ k
    pub most : k ≤ n.count
    pub rest : each_of read_integer (items_in s n) ≡ over (λ ds. deltas ++ ds) (each_of read_integer (items_from (n.count - k) (drop at s)))
    pub are : SumsAre source (take blocks deltas) sums

  pub none_summed : source ≤ greatest → SummedTo n.first 0 (record { gains = 0; losses = source; counted = true })
  unfolding sum
  none_summed h =
      record {
        deltas = [];
        count = refl;
        most = omega arith;
        rest = let same : n.count - 0 ≡ n.count = omega arith in rw same (alone (each_of read_integer (items_in s n)));
        are = rw (take-nil blocks)
            (record {
              counted = sym (is_within 0 (source + 0) (omega arith) (omega arith));
              gains = λ e. refl;
              losses = λ e. omega arith;
            });
      }
    where
      alone : (o : Option (List Int)) → o ≡ over (λ ds. [] ++ ds) o
      alone (Some ds) = refl
      alone None = refl

  -- the delta that stands at a place was read, and added where it belongs to a block
  pub record DeltaAdded (at k : ℕ) (old new : Sums) : Type 0 where
    pub delta : Int
    pub is : read_integer (drop at s) ≡ Some delta
    pub added : k < blocks → WithDelta delta old new
    pub passed : blocks ≤ k → new ≡ old

  pub one_summed : (at k next : ℕ) (old new : Sums) → SummedTo at k old → k < n.count → DeltaAdded at k old new
      → next ≡ at + size_of (pass_over (drop at s)) → SummedTo next (k + 1) new
  one_summed at k next old new t h d e =
      let on = each_on read_integer s at (n.count - k) next (omega arith) e d.delta d.is in
      let left : n.count - k - 1 ≡ n.count - (k + 1) = omega arith in
      record {
        deltas = t.deltas ++ d.delta ∷ [];
        count = length-append t.deltas (d.delta ∷ []) ∙ (let c = t.count in omega arith);
        most = omega arith;
        rest = t.rest ∙ ap (over (λ ds. t.deltas ++ ds)) on ∙ rw left (in_front (each_of read_integer (items_from (n.count - (k + 1)) (drop next s))));
        are = ⊎_elim (λ l. counts (ltb-true k blocks l)) (λ l. passes (ltb-false k blocks l)) (either (ltb k blocks));
      }
    where
      in_front : (o : Option (List Int))
          → over (λ ds. t.deltas ++ ds) (over (λ ds. d.delta ∷ ds) o) ≡ over (λ ds. (t.deltas ++ d.delta ∷ []) ++ ds) o
      in_front (Some ds) = ap Some (sym (append_snoc t.deltas d.delta ds))
      in_front None = refl

      counts : k < blocks → SumsAre source (take blocks (t.deltas ++ d.delta ∷ [])) new
      counts l =
          let c = t.count in
          let all = take_all blocks t.deltas (omega arith) in
          let long = length-append t.deltas (d.delta ∷ []) in
          rw (take_all blocks (t.deltas ++ d.delta ∷ []) (omega arith)) ((d.added l).keeps source t.deltas (rw all at t.are))

      passes : blocks ≤ k → SumsAre source (take blocks (t.deltas ++ d.delta ∷ [])) new
      passes l =
          let c = t.count in
          rw (take-append-le blocks t.deltas (d.delta ∷ []) (omega arith), d.passed l) t.are

  pub none_is : (at k : ℕ) (sums : Sums) → SummedTo at k sums → k < n.count → read_integer (drop at s) ≡ None
      → DeltasSummed (items_in s n) blocks source None
  none_is at k sums t h e =
      record {
        summed = λ x same. absurd_numbers (cc);
        missing = λ same. t.rest ∙ rw (each_stops read_integer s at (n.count - k) _ (omega arith) refl e);
      }

  pub all_summed : (at k : ℕ) (sums : Sums) → SummedTo at k sums → n.count ≤ k → DeltasSummed (items_in s n) blocks source (Some sums)
  all_summed at k sums t h =
      record {
        summed = λ x same.
            let is : sums ≡ x = cc in
            subst (AreSummed (items_in s n) blocks source) is (record {
              deltas = t.deltas;
              are = t.rest ∙ rw (none_left read_integer (drop at s) (n.count - k) (omega arith)) (ap Some (append-nil t.deltas));
              sums = t.are;
            });
        missing = λ same. absurd_numbers (cc);
      }
