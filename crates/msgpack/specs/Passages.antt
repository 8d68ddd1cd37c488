-- How passing over goes on: by the head of an item at a place, and item by item through a container.
use Prim.Native.Nat.{ℕ, zero, suc, ◌+◌, ◌-◌, ◌≤◌, ◌<◌}
use Rattle.std.specs.Prelude.{◌%◌, ◌^◌, Bool, true, false, cond, eqb, List, ◌≡◌, length, drop, Err}
use Rattle.std.proofs.Math.Path.{refl}
use Rattle.std.proofs.Common.{ap, ◌∙◌, not-suc-le-zero, add_assoc, sub-one, arith, length-drop, drop-drop}
use Rattle.slices.specs.Logic.{absurd_numbers}
use Rattle.msgpack.specs.Formats.{unused_kind, array_kind, map_kind}
use Rattle.msgpack.specs.Items.{Head, Passage, whole, cut, too_deep, passage_of, head_of, items_of, beyond, and_then, pass_items, pass_item}
use Rattle.msgpack.specs.PassingLaws.{head_within, within_container, beyond_whole, beyond_deep, bounded}
use Rattle.msgpack.specs.declared.Fault.{Fault}
use Rattle.msgpack.specs.declared.Fault.TheVariants.{Cut, TooDeep}

beyond_beyond : (a b : ℕ) (r : Passage) → beyond a (beyond b r) ≡ beyond (a + b) r
beyond_beyond a b (whole n) = rw add_assoc
beyond_beyond a b cut = refl
beyond_beyond a b too_deep = refl

pub beyond_cut : (k : ℕ) (r : Passage) → beyond k r ≡ cut → r ≡ cut
beyond_cut k (whole m) h = absurd_numbers (cc)
beyond_cut k cut h = refl
beyond_cut k too_deep h = absurd_numbers (cc)

-- ---- a fault is passed up

pub beyond_fault : (k : ℕ) (f : Fault) → beyond k (passage_of (Err f)) ≡ passage_of (Err f)
beyond_fault k Cut = refl
beyond_fault k TooDeep = refl

pub fault_behind : (k : ℕ) (r : Passage) (f : Fault) → beyond k r ≡ passage_of (Err f) → r ≡ passage_of (Err f)
fault_behind k r Cut e = beyond_cut k r e
fault_behind k r TooDeep e = beyond_deep k r e

pub fault_first : (f : Fault) (next : ℕ → Passage) → and_then (passage_of (Err f)) next ≡ passage_of (Err f)
fault_first Cut next = refl
fault_first TooDeep next = refl

pub passed_from : (from at : ℕ) (r : Passage) → beyond from r ≡ whole at → r ≡ whole (at - from)
passed_from from at r e =
    let b = beyond_whole from r at e in
    let n : b.after ≡ at - from = omega (arith, b.total) in
    b.rest ∙ ap whole n

-- ---- an item of several

module _ (item : List ℕ → Passage) where
  pub first : (left : ℕ) (s : List ℕ) (r : Passage) → 0 < left → item s ≡ r → pass_items item left s ≡ and_then r (λ n. pass_items item (left - 1) (drop n s))
  unfolding pass_items
  first zero s r h e = absurd (not-suc-le-zero h)
  first (suc left) s r h e = rw (e, sub-one)

  -- k bytes on, with one item less
  pub onward : (at left : ℕ) (s : List ℕ) (k : ℕ) → 0 < left → item (drop at s) ≡ whole k
      → beyond at (pass_items item left (drop at s)) ≡ beyond (at + k) (pass_items item (left - 1) (drop (at + k) s))
  onward at left s k h e = rw (first left (drop at s) (whole k) h e, drop-drop, beyond_beyond)

  pub none_left : (left : ℕ) (s : List ℕ) → left ≤ 0 → pass_items item left s ≡ whole 0
  unfolding pass_items
  none_left zero s h = refl
  none_left (suc left) s h = absurd (omega arith)

-- ---- at a place

-- a whole item ends inside
pub item_inside : (a at : ℕ) (s : List ℕ) (n : ℕ) → pass_item a (drop at s) ≡ whole n → at + n ≤ length s
item_inside a at s n p = let b = bounded a (drop at s) n p in omega (arith, b.some_byte, b.within, length-drop at s)

-- so does a head that is used
pub head_inside : (at : ℕ) (s : List ℕ) (h : Head) → h ≡ head_of (drop at s) → (h.kind ≡ unused_kind → ⊥) → at + h.size ≤ length s
head_inside at s h e u =
    let w = head_within (drop at s) in
    let size : h.size ≡ (head_of (drop at s)).size = ap (λ (h : Head). h.size) e in
    omega (arith, w.inside, w.begun (λ (k : (head_of (drop at s)).kind ≡ unused_kind). u (ap (λ (h : Head). h.kind) e ∙ k)), length-drop at s)

-- a head counts less, so that its items are told exactly
pub items_exact : (kind count : ℕ) → count < 2 ^ 33 → items_of kind count % 2 ^ 64 ≡ items_of kind count
items_exact kind count h = by (eqb kind map_kind)
  where
    by : (t : Bool) → cond t (count + count) count % 2 ^ 64 ≡ cond t (count + count) count
    by true = omega arith
    by false = omega arith

-- r is what passing over a container's items gave
pub container : (a at : ℕ) (s : List ℕ) (h : Head) → h ≡ head_of (drop at s) → array_kind ≤ h.kind → 0 < a → (items : ℕ) → items ≡ items_of h.kind h.count → (r : Passage)
    → r ≡ pass_items (pass_item (a - 1)) items (drop (at + h.size) s) → beyond h.size r ≡ pass_item a (drop at s)
container zero at s h e l p items q r g = absurd (not-suc-le-zero p)
container (suc a) at s h e l p items q r g = rw (g, q, ← drop-drop h.size at s, sub-one) (within_container a (drop at s) h e l)
