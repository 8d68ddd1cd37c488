-- What follows a whole item plays no part: a front of the list that holds the item has the same item, and a map the same values under its keys.
use Prim.Native.Nat.{ℕ, zero, suc, ◌+◌, ◌-◌, ◌≤◌, ◌<◌}
use Rattle.std.specs.Prelude.{Bool, cond, ◌&&◌, List, [], ◌∷◌, ◌≡◌, eqb, length, take, drop}
use Rattle.std.proofs.Math.Bool.{true, false}
use Rattle.std.specs.Prelude.{Option, None, Some}
use Rattle.std.proofs.Math.Path.{refl}
use Rattle.std.proofs.Common.{sym, ap, ◌∙◌, arith, length-drop}
use Rattle.std.proofs.Math.Numerals.{unary_clauses}
use borrow.Author.Tests.{le-leb, ne_eqb, eqb-true}
use Rattle.std.proofs.Math.Seq.{take-nil, length-take-le}
use Rattle.slices.specs.Logic.{absurd_numbers}
use Rattle.slices.specs.Lists.{part_of_front}
use Rattle.endian.specs.Numbers.{big}
use Rattle.endian.specs.Places.{holds, number_at}
use Rattle.msgpack.specs.Formats.{unused_kind, text_kind, array_kind, map_kind, width_of, format_of}
use Rattle.msgpack.specs.Items.{Passage, whole, too_deep, head_by, head_of, items_of, beyond, pass_items, pass_item, depth_allowed, pass_over}
use Rattle.msgpack.specs.Readers.{is_whole, part, content_at}
use Rattle.msgpack.specs.Lookup.{ValuePlace, missing, broken, content_is, key_at, last_where, last_value}
use Rattle.msgpack.specs.Pairs.{inside_allowed, times_where, times_of}
use Rattle.msgpack.specs.PassingLaws.{head_within, flat_whole, within_container, map_passed, Beyond, beyond_whole, joined, pair_joined, Whole, container, flat, head_whole, bounded, deeper}

-- what a front leaves, once k elements are passed
drop_front : {A : Type 0} (k m : ℕ) (s : List A) → drop k (take m s) ≡ take (m - k) (drop k s)
drop_front zero m s = simp unary_clauses refl
drop_front (suc k) zero [] = sym (take-nil (zero - suc k))
drop_front (suc k) zero (x ∷ s) = let none : zero - suc k ≡ 0 = omega arith in rw none
drop_front (suc k) (suc m) [] = sym (take-nil (suc m - suc k))
drop_front (suc k) (suc m) (x ∷ s) = simp unary_clauses (drop_front k m s)

-- ---- the head

number_front : (s : List ℕ) (n at w : ℕ) → n ≤ length s → at + w ≤ n → number_at big (take n s) at w ≡ number_at big s at w
unfolding number_at holds
number_front s n at w within h =
    rw (length-take-le n s within, part_of_front s n at w within h, le-leb (at + w) n h, le-leb (at + w) (length s) (omega arith))

head_front : (s : List ℕ) (n : ℕ) → ((head_of s).kind ≡ unused_kind → ⊥) → (head_of s).size ≤ n → n ≤ length s → head_of (take n s) ≡ head_of s
unfolding head_of
head_front [] n u h within = absurd (u refl)
head_front (b ∷ t) zero u h within = absurd (omega (arith, (head_within (b ∷ t)).begun u))
head_front (b ∷ t) (suc n) u h within = by (number_at big (b ∷ t) 1 (width_of (format_of b))) refl u h
  where
    by : (r : Option ℕ) → number_at big (b ∷ t) 1 (width_of (format_of b)) ≡ r → ((head_by (format_of b) r).kind ≡ unused_kind → ⊥)
        → (head_by (format_of b) r).size ≤ suc n → head_by (format_of b) (number_at big (b ∷ take n t) 1 (width_of (format_of b))) ≡ head_by (format_of b) r
    by (Some m) e u h = ap (head_by (format_of b)) (number_front (b ∷ t) (suc n) 1 (width_of (format_of b)) within h ∙ e)
    by None e u h = absurd (u refl)

-- ---- the item

abbrev InFront : (List ℕ → Passage) → Type 0
InFront item = (s : List ℕ) (n m : ℕ) → item s ≡ whole n → n ≤ m → m ≤ length s → item (take m s) ≡ whole n

items_front : (item : List ℕ → Passage) → InFront item → (count : ℕ) → InFront (pass_items item count)
unfolding pass_items
items_front item one zero s n m p h within = p
items_front item one (suc count) s n m p h within =
    let j = joined (item s) (λ k. pass_items item count (drop k s)) n p in
    let l = length-drop j.first s in
    rw (
      one s j.first m j.is (omega (arith, j.total)) within,
      drop_front j.first m s,
      items_front item one count (drop j.first s) j.after (m - j.first) j.rest (omega (arith, j.total)) (omega arith),
      j.total,
    )

-- a whole item's head is the front's
whole_head : (inside : ℕ → List ℕ → Passage) (s : List ℕ) (n m : ℕ) → Whole inside (head_of s) s n → n ≤ m → m ≤ length s → head_of s ≡ head_of (take m s)
whole_head inside s n m (container l q) h within = sym (head_front s m (λ (e : (head_of s).kind ≡ unused_kind). omega arith) (omega arith) within)
whole_head inside s n m (flat l u f) h within = sym (head_front s m u (omega arith) within)

flat_front : (a : ℕ) (inside : ℕ → List ℕ → Passage) (s : List ℕ) (m : ℕ) → (head_of s).kind < array_kind → ((head_of s).kind ≡ unused_kind → ⊥)
    → (head_of s).size + (head_of s).count ≤ length s → (head_of s).size + (head_of s).count ≤ m → m ≤ length s
    → pass_item a (take m s) ≡ whole ((head_of s).size + (head_of s).count)
flat_front a inside s m l u f h within =
    sym (flat_whole a (take m s) (head_of s) (whole_head inside s _ m (flat l u f) h within) l u (omega (arith, length-take-le m s within)))

pub item_front : (a : ℕ) → InFront (pass_item a)
unfolding pass_item
item_front zero s n m p h within = by n (head_whole _ _ s n p) h
  where
    by : (n : ℕ) → Whole (λ count t. too_deep) (head_of s) s n → n ≤ m → pass_item 0 (take m s) ≡ whole n
    by n (container l q) h = absurd_numbers (cc)
    by n (flat l u f) h = flat_front 0 (λ count t. too_deep) s m l u f h within
item_front (suc a) s n m p h within = by (items_front (pass_item a) (item_front a)) n (head_whole _ _ s n p) h
  where
    by : ((count : ℕ) → InFront (pass_items (pass_item a) count))
        → (n : ℕ) → Whole (pass_items (pass_item a)) (head_of s) s n → n ≤ m → pass_item (suc a) (take m s) ≡ whole n
    by on n (container l q) h =
        let e = length-drop (head_of s).size s in
        sym (within_container a (take m s) (head_of s) (whole_head (pass_items (pass_item a)) s n m (container l q) h within) l)
        ∙ ap (λ (t : List ℕ). beyond (head_of s).size (pass_items (pass_item a) (items_of (head_of s).kind (head_of s).count) t)) (drop_front (head_of s).size m s)
        ∙ ap (beyond (head_of s).size) (on _ (drop (head_of s).size s) _ (m - (head_of s).size) q (omega arith) (omega arith))
    by on n (flat l u f) h = flat_front (suc a) (pass_items (pass_item a)) s m l u f h within

-- ---- a key

module _ (key s : List ℕ) (m : ℕ) (within : m ≤ length s) where
  no_text : head_of s ≡ head_of (take m s) → ((head_of s).kind ≡ text_kind → ⊥) → key_at key (take m s) ≡ key_at key s
  unfolding key_at content_at is_whole
  no_text e k = rw (← e, ne_eqb _ _ k)

  flat_key : head_of s ≡ head_of (take m s) → (head_of s).size + (head_of s).count ≤ m → key_at key (take m s) ≡ key_at key s
  unfolding key_at content_at is_whole
  flat_key e h =
      rw (← e, length-take-le m s within, le-leb _ _ h, le-leb ((head_of s).size + (head_of s).count) (length s) (omega arith)) (by (eqb (head_of s).kind text_kind))
    where
      by : (t : Bool) → content_is key (take m s) (cond (t && true) (Some (part (head_of s).size (head_of s).count)) None)
          ≡ content_is key s (cond (t && true) (Some (part (head_of s).size (head_of s).count)) None)
      by true = rw (part_of_front s m (head_of s).size (head_of s).count within h)
      by false = refl

  by_whole : (inside : ℕ → List ℕ → Passage) (n : ℕ) → Whole inside (head_of s) s n → n ≤ m → key_at key (take m s) ≡ key_at key s
  by_whole inside n (container l q) h =
      no_text (whole_head inside s n m (container l q) h within) (λ (e : (head_of s).kind ≡ text_kind). omega arith)
  by_whole inside n (flat l u f) h = flat_key (whole_head inside s n m (flat l u f) h within) h

  key_front : (a n : ℕ) → pass_item a s ≡ whole n → n ≤ m → key_at key (take m s) ≡ key_at key s
  unfolding pass_item
  key_front zero n p h = by_whole _ n (head_whole _ _ s n p) h
  key_front (suc a) n p h = by_whole _ n (head_whole _ _ s n p) h

-- ---- the values of a map

-- of pairs that are whole with 15, and so with 16
pairs_front : (key : List ℕ) (count from : ℕ) (s : List ℕ) (best : ValuePlace) (n m : ℕ) → pass_items (pass_item inside_allowed) (count + count) s ≡ whole n
    → n ≤ m → m ≤ length s
    → last_where (pass_item depth_allowed) (key_at key) count from (take m s) best ≡ last_where (pass_item depth_allowed) (key_at key) count from s best
unfolding last_where
pairs_front key zero from s best n m p h within = refl
pairs_front key (suc count) from s best n m p h within =
    let x = pair_joined (pass_item inside_allowed) count s n p in
    let k = x.key in
    let v = x.value in
    let key_whole = deeper inside_allowed s k x.key_whole in
    let value_whole = deeper inside_allowed (drop k s) v x.value_whole in
    let l = length-drop k s in
    let r = length-drop (k + v) s in
    let t = x.total in
    rw (
      key_whole,
      item_front depth_allowed s k m key_whole (omega arith) within,
      drop_front k m s,
      value_whole,
      item_front depth_allowed (drop k s) v (m - k) value_whole (omega arith) (omega arith),
      drop_front (k + v) m s,
      key_front key s m within inside_allowed k x.key_whole (omega arith),
    )
    (pairs_front key count (from + k + v) (drop (k + v) s) _ x.after (m - (k + v)) x.rest (omega arith) (omega arith))

item_head : (s : List ℕ) (n : ℕ) → pass_over s ≡ whole n → head_of s ≡ head_of (take n s)
unfolding pass_item
item_head s n p = whole_head _ s n n (head_whole _ _ s n p) (omega arith) (bounded depth_allowed s n p).within

-- the pairs of a whole map
map_whole : (s : List ℕ) (n : ℕ) → pass_over s ≡ whole n → eqb (head_of s).kind map_kind ≡ true
    → Beyond (head_of s).size (pass_items (pass_item inside_allowed) ((head_of s).count + (head_of s).count) (drop (head_of s).size s)) n
map_whole s n p e = beyond_whole (head_of s).size _ n (map_passed inside_allowed s (eqb-true _ _ e) ∙ p)

pub value_front : (key s : List ℕ) (n : ℕ) → pass_over s ≡ whole n → last_value key (take n s) ≡ last_value key s
unfolding last_value
value_front key s n p = rw (← item_head s n p, drop_front) (by (eqb (head_of s).kind map_kind) refl)
  where
    by : (t : Bool) → eqb (head_of s).kind map_kind ≡ t
        → cond t (last_where (pass_item depth_allowed) (key_at key) (head_of s).count (head_of s).size
        (take (n - (head_of s).size) (drop (head_of s).size s)) missing) broken
        ≡ cond t (last_where (pass_item depth_allowed) (key_at key) (head_of s).count (head_of s).size (drop (head_of s).size s) missing) broken
    by true e =
        let x = map_whole s n p e in
        let within = (bounded depth_allowed s n p).within in
        let l = length-drop (head_of s).size s in
        pairs_front key (head_of s).count (head_of s).size (drop (head_of s).size s) missing x.after (n - (head_of s).size) x.rest
        (omega (arith, x.total)) (omega arith)
    by false e = refl

-- ---- how often a key stands in a map

counted_front : (key : List ℕ) (count : ℕ) (s : List ℕ) (n m : ℕ) → pass_items (pass_item inside_allowed) (count + count) s ≡ whole n → n ≤ m → m ≤ length s
    → times_where (pass_item depth_allowed) (key_at key) count (take m s) ≡ times_where (pass_item depth_allowed) (key_at key) count s
unfolding times_where
counted_front key zero s n m p h within = refl
counted_front key (suc count) s n m p h within =
    let x = pair_joined (pass_item inside_allowed) count s n p in
    let k = x.key in
    let v = x.value in
    let key_whole = deeper inside_allowed s k x.key_whole in
    let value_whole = deeper inside_allowed (drop k s) v x.value_whole in
    let l = length-drop k s in
    let r = length-drop (k + v) s in
    let t = x.total in
    rw (
      key_whole,
      item_front depth_allowed s k m key_whole (omega arith) within,
      drop_front k m s,
      value_whole,
      item_front depth_allowed (drop k s) v (m - k) value_whole (omega arith) (omega arith),
      drop_front (k + v) m s,
      key_front key s m within inside_allowed k x.key_whole (omega arith),
      counted_front key count (drop (k + v) s) x.after (m - (k + v)) x.rest (omega arith) (omega arith),
    )

pub times_front : (key s : List ℕ) (n : ℕ) → pass_over s ≡ whole n → times_of key (take n s) ≡ times_of key s
unfolding times_of
times_front key s n p =
    let within = (bounded depth_allowed s n p).within in
    rw (p, item_front depth_allowed s n n p (omega arith) within, ← item_head s n p, drop_front) (by (eqb (head_of s).kind map_kind) refl)
  where
    by : (t : Bool) → eqb (head_of s).kind map_kind ≡ t
        → cond t (times_where (pass_item depth_allowed) (key_at key) (head_of s).count (take (n - (head_of s).size) (drop (head_of s).size s))) 0
        ≡ cond t (times_where (pass_item depth_allowed) (key_at key) (head_of s).count (drop (head_of s).size s)) 0
    by true e =
        let x = map_whole s n p e in
        let within = (bounded depth_allowed s n p).within in
        let l = length-drop (head_of s).size s in
        counted_front key (head_of s).count (drop (head_of s).size s) x.after (n - (head_of s).size) x.rest (omega (arith, x.total)) (omega arith)
    by false e = refl
