-- Laws of passing over an item: what each answer says of its head, that a whole item takes a byte at least and none past the end, and that it is
-- whole with a greater allowance too.
use Prim.Native.Nat.{ℕ, zero, suc, ◌+◌, ◌≤◌, ◌<◌}
use Rattle.std.specs.Prelude.{Bool, List, [], ◌∷◌, eqb, length, drop}
use Rattle.std.proofs.Math.Bool.{true, false, cond}
use Rattle.std.specs.Prelude.{Option, None, Some}
use Rattle.std.proofs.Math.Path.{◌≡◌, refl}
use Rattle.std.proofs.Common.{sym, ap, ◌∙◌, arith, length-drop, drop-drop}
use borrow.Author.Tests.{le-leb, lt-leb, eq-eqb, ne_eqb, leb-true, leb-false, eqb-false}
use Rattle.std.proofs.Math.Dec.{leb}
use Rattle.slices.specs.Logic.{absurd_numbers}
use Rattle.endian.specs.Numbers.{big}
use Rattle.endian.specs.Places.{number_at}
use Rattle.msgpack.specs.Formats.{unused_kind, array_kind, map_kind, width_of, format_of}
use Rattle.msgpack.specs.Items.{Head, Passage, whole, cut, too_deep, head_by, head_of, items_of, beyond, and_then, pass_items, pass_head, pass_item}
use Rattle.msgpack.specs.HeadLaws.{number_read}

-- ---- the head lies within the list

pub record HeadWithin (s : List ℕ) (h : Head) : Type 0 where
  pub inside : h.size ≤ length s
  pub begun : (h.kind ≡ unused_kind → ⊥) → 0 < h.size

pub head_within : (s : List ℕ) → HeadWithin s (head_of s)
unfolding head_of
head_within [] = record { inside = omega arith; begun = λ some_kind. absurd (some_kind refl) }
head_within (b ∷ t) = by (number_at big (b ∷ t) 1 (width_of (format_of b))) refl
  where
    by : (r : Option ℕ) → number_at big (b ∷ t) 1 (width_of (format_of b)) ≡ r → HeadWithin (b ∷ t) (head_by (format_of b) r)
    by (Some n) e = record { inside = (number_read big (b ∷ t) 1 (width_of (format_of b)) n e).within.inside; begun = λ some_kind. omega arith }
    by None e = record { inside = omega arith; begun = λ some_kind. absurd (some_kind refl) }

-- ---- what the head says of the answer

module _ (a : ℕ) (s : List ℕ) (h : Head) (e : h ≡ head_of s) where
  pub too_deep_lem : array_kind ≤ h.kind → a ≡ 0 → too_deep ≡ pass_item a s
  unfolding pass_item pass_head
  too_deep_lem l z = rw (z, ← e, le-leb _ _ l)

  pub unused : h.kind < array_kind → h.kind ≡ unused_kind → cut ≡ pass_item a s
  unfolding pass_item pass_head
  unused l u = go a
    where
      go : (a : ℕ) → cut ≡ pass_item a s
      go zero = rw (← e, lt-leb _ _ l, eq-eqb _ _ u)
      go (suc a) = rw (← e, lt-leb _ _ l, eq-eqb _ _ u)

  pub flat_whole : h.kind < array_kind → (h.kind ≡ unused_kind → ⊥) → h.size + h.count ≤ length s → whole (h.size + h.count) ≡ pass_item a s
  unfolding pass_item pass_head
  flat_whole l u f = go a
    where
      go : (a : ℕ) → whole (h.size + h.count) ≡ pass_item a s
      go zero = rw (← e, lt-leb _ _ l, ne_eqb _ _ u, le-leb _ _ f)
      go (suc a) = rw (← e, lt-leb _ _ l, ne_eqb _ _ u, le-leb _ _ f)

  pub flat_cut : h.kind < array_kind → (h.kind ≡ unused_kind → ⊥) → length s < h.size + h.count → cut ≡ pass_item a s
  unfolding pass_item pass_head
  flat_cut l u f = go a
    where
      go : (a : ℕ) → cut ≡ pass_item a s
      go zero = rw (← e, lt-leb _ _ l, ne_eqb _ _ u, lt-leb _ _ f)
      go (suc a) = rw (← e, lt-leb _ _ l, ne_eqb _ _ u, lt-leb _ _ f)

  pub within_container : array_kind ≤ h.kind → beyond h.size (pass_items (pass_item a) (items_of h.kind h.count) (drop h.size s)) ≡ pass_item (suc a) s
  unfolding pass_item pass_head
  within_container l = rw (← e, le-leb _ _ l)

pub map_passed : (a : ℕ) (s : List ℕ) → (head_of s).kind ≡ map_kind
    → beyond (head_of s).size (pass_items (pass_item a) ((head_of s).count + (head_of s).count) (drop (head_of s).size s)) ≡ pass_item (suc a) s
map_passed a s k =
    let pairs : items_of (head_of s).kind (head_of s).count ≡ (head_of s).count + (head_of s).count = rw (eq-eqb _ _ k) in
    ap (λ (m : ℕ). beyond (head_of s).size (pass_items (pass_item a) m (drop (head_of s).size s))) (sym pairs)
    ∙ within_container a s (head_of s) refl (omega arith)

-- ---- what an answer says

pub record Beyond (k : ℕ) (r : Passage) (n : ℕ) : Type 0 where
  pub after : ℕ
  pub rest : r ≡ whole after
  pub total : k + after ≡ n

pub beyond_whole : (k : ℕ) (r : Passage) (n : ℕ) → beyond k r ≡ whole n → Beyond k r n
beyond_whole k (whole m) n h = record { after = m; rest = refl; total = cc }
beyond_whole k cut n h = absurd_numbers (cc)
beyond_whole k too_deep n h = absurd_numbers (cc)

pub beyond_deep : (k : ℕ) (r : Passage) → beyond k r ≡ too_deep → r ≡ too_deep
beyond_deep k (whole m) h = absurd_numbers (cc)
beyond_deep k cut h = absurd_numbers (cc)
beyond_deep k too_deep h = refl

-- an item, and what comes after it
pub record Joined (r : Passage) (next : ℕ → Passage) (n : ℕ) : Type 0 where
  pub first : ℕ
  pub after : ℕ
  pub is : r ≡ whole first
  pub rest : next first ≡ whole after
  pub total : first + after ≡ n

pub joined : (r : Passage) (next : ℕ → Passage) (n : ℕ) → and_then r next ≡ whole n → Joined r next n
joined (whole k) next n h = let b = beyond_whole k (next k) n h in record { first = k; after = b.after; is = refl; rest = b.rest; total = b.total }
joined cut next n h = absurd_numbers (cc)
joined too_deep next n h = absurd_numbers (cc)

-- two items, and `count` pairs after them
pub record PairJoined (item : List ℕ → Passage) (count : ℕ) (s : List ℕ) (n : ℕ) : Type 0 where
  pub key : ℕ
  pub value : ℕ
  pub after : ℕ
  pub key_whole : item s ≡ whole key
  pub value_whole : item (drop key s) ≡ whole value
  pub rest : pass_items item (count + count) (drop (key + value) s) ≡ whole after
  pub total : key + value + after ≡ n

pub pair_joined : (item : List ℕ → Passage) (count : ℕ) (s : List ℕ) (n : ℕ) → pass_items item (suc count + suc count) s ≡ whole n → PairJoined item count s n
unfolding pass_items
pair_joined item count s n p =
    let e : suc (suc (count + count)) ≡ suc count + suc count = omega arith in
    let q : pass_items item (suc (suc (count + count))) s ≡ whole n = ap (λ (m : ℕ). pass_items item m s) e ∙ p in
    let x = joined (item s) (λ k. pass_items item (suc (count + count)) (drop k s)) n q in
    let y = joined (item (drop x.first s)) (λ m. pass_items item (count + count) (drop m (drop x.first s))) x.after x.rest in
    record {
      key = x.first;
      value = y.first;
      after = y.after;
      key_whole = x.is;
      value_whole = y.is;
      rest = rw drop-drop at y.rest;
      total = omega (arith, x.total, y.total);
    }

module _ (inside : ℕ → List ℕ → Passage) (h : Head) (s : List ℕ) where
  pub data Whole : ℕ → Type 0 where
    container : {m : ℕ} → array_kind ≤ h.kind → inside (items_of h.kind h.count) (drop h.size s) ≡ whole m → Whole (h.size + m)
    flat : h.kind < array_kind → (h.kind ≡ unused_kind → ⊥) → h.size + h.count ≤ length s → Whole (h.size + h.count)

  pub head_whole : (n : ℕ) → pass_head inside h s ≡ whole n → Whole n
  unfolding pass_head
  head_whole n p = by_kind (leb array_kind h.kind) refl p
    where
      by_size : (t : Bool) → leb (h.size + h.count) (length s) ≡ t → h.kind < array_kind → (h.kind ≡ unused_kind → ⊥)
          → cond t (whole (h.size + h.count)) cut ≡ whole n → Whole n
      by_size true e l u q = let total : h.size + h.count ≡ n = cc in rw (← total) (flat l u (leb-true _ _ e))
      by_size false e l u q = absurd_numbers (cc)

      by_use : (t : Bool) → eqb h.kind unused_kind ≡ t → h.kind < array_kind
          → cond t cut (cond (leb (h.size + h.count) (length s)) (whole (h.size + h.count)) cut) ≡ whole n → Whole n
      by_use true e l q = absurd_numbers (cc)
      by_use false e l q = by_size (leb (h.size + h.count) (length s)) refl l (eqb-false _ _ e) q

      by_kind : (t : Bool) → leb array_kind h.kind ≡ t
          → cond t (beyond h.size (inside (items_of h.kind h.count) (drop h.size s)))
          (cond (eqb h.kind unused_kind) cut (cond (leb (h.size + h.count) (length s)) (whole (h.size + h.count)) cut)) ≡ whole n → Whole n
      by_kind true e q = let b = beyond_whole h.size _ n q in rw (← b.total) (container (leb-true _ _ e) b.rest)
      by_kind false e q = by_use (eqb h.kind unused_kind) refl (leb-false _ _ e) q

  pub head_deep : pass_head inside h s ≡ too_deep → (array_kind ≤ h.kind) × (inside (items_of h.kind h.count) (drop h.size s) ≡ too_deep)
  unfolding pass_head
  head_deep p = by_kind (leb array_kind h.kind) refl p
    where
      by_tests : (t u : Bool) → cond t cut (cond u (whole (h.size + h.count)) cut) ≡ too_deep → ◌≡◌ {A = ℕ} 0 1
      by_tests true u q = cc
      by_tests false true q = cc
      by_tests false false q = cc

      by_kind : (t : Bool) → leb array_kind h.kind ≡ t
          → cond t (beyond h.size (inside (items_of h.kind h.count) (drop h.size s)))
          (cond (eqb h.kind unused_kind) cut (cond (leb (h.size + h.count) (length s)) (whole (h.size + h.count)) cut)) ≡ too_deep
          → (array_kind ≤ h.kind) × (inside (items_of h.kind h.count) (drop h.size s) ≡ too_deep)
      by_kind true e q = (leb-true _ _ e, beyond_deep h.size (inside (items_of h.kind h.count) (drop h.size s)) q)
      by_kind false e q = absurd_numbers (by_tests (eqb h.kind unused_kind) (leb (h.size + h.count) (length s)) q)

-- ---- a whole item takes a byte at least, and none past the end

pub record Taken (s : List ℕ) (n : ℕ) : Type 0 where
  pub some_byte : 0 < n
  pub within : n ≤ length s

abbrev Bounded : (List ℕ → Passage) → Type 0
Bounded item = (s : List ℕ) (n : ℕ) → item s ≡ whole n → Taken s n

items_bounded : (item : List ℕ → Passage) → Bounded item → (count : ℕ) (s : List ℕ) (n : ℕ) → pass_items item count s ≡ whole n → n ≤ length s
unfolding pass_items
items_bounded item one zero s n p = let e : n ≡ 0 = cc in omega arith
items_bounded item one (suc count) s n p =
    let j = joined (item s) (λ k. pass_items item count (drop k s)) n p in
    let l = (one s j.first j.is).within in
    let r = items_bounded item one count (drop j.first s) j.after j.rest in
    omega (arith, length-drop j.first s, j.total)

by_head : (inside : ℕ → List ℕ → Passage) → ((count : ℕ) (s : List ℕ) (n : ℕ) → inside count s ≡ whole n → n ≤ length s)
    → (s : List ℕ) (n : ℕ) → Whole inside (head_of s) s n → Taken s n
by_head inside bound s n (container {m = m} l p) =
    let w = head_within s in
    let b = w.begun (λ (u : (head_of s).kind ≡ unused_kind). omega arith) in
    record { some_byte = omega arith; within = omega (arith, w.inside, bound _ (drop (head_of s).size s) m p, length-drop (head_of s).size s) }
by_head inside bound s n (flat l u f) = let b = (head_within s).begun u in record { some_byte = omega arith; within = f }

pub bounded : (allowance : ℕ) (s : List ℕ) (n : ℕ) → pass_item allowance s ≡ whole n → Taken s n
unfolding pass_item
bounded zero s n p = by_head _ (λ count t m q. absurd_numbers (cc)) s n (head_whole _ _ s n p)
bounded (suc allowance) s n p = by_head _ (items_bounded (pass_item allowance) (bounded allowance)) s n (head_whole _ _ s n p)

-- ---- what is whole is whole with a greater allowance

abbrev pub Deeper : (List ℕ → Passage) → (List ℕ → Passage) → Type 0
Deeper item other = (s : List ℕ) (n : ℕ) → item s ≡ whole n → other s ≡ whole n

pub items_deeper : (item other : List ℕ → Passage) → Deeper item other → (count : ℕ) → Deeper (pass_items item count) (pass_items other count)
unfolding pass_items
items_deeper item other one zero s n p = p
items_deeper item other one (suc count) s n p =
    let j = joined (item s) (λ k. pass_items item count (drop k s)) n p in
    rw (one s j.first j.is, items_deeper item other one count (drop j.first s) j.after j.rest, j.total)

pub deeper : (a : ℕ) → Deeper (pass_item a) (pass_item (suc a))
unfolding pass_item
deeper zero s n p = by n (head_whole _ _ s n p)
  where
    by : (n : ℕ) → Whole (λ count t. too_deep) (head_of s) s n → pass_item 1 s ≡ whole n
    by n (container l q) = absurd_numbers (cc)
    by n (flat l u f) = sym (flat_whole 1 s (head_of s) refl l u f)
deeper (suc a) s n p = by (items_deeper (pass_item a) (pass_item (suc a)) (deeper a)) n (head_whole _ _ s n p)
  where
    by : ((count : ℕ) → Deeper (pass_items (pass_item a) count) (pass_items (pass_item (suc a)) count))
        → (n : ℕ) → Whole (pass_items (pass_item a)) (head_of s) s n → pass_item (suc (suc a)) s ≡ whole n
    by on n (container l q) = sym (within_container (suc a) s (head_of s) refl l) ∙ ap (beyond (head_of s).size) (on _ _ _ q)
    by on n (flat l u f) = sym (flat_whole (suc (suc a)) s (head_of s) refl l u f)
