-- The form of the item at a place, and how passing over short items goes on there.
use Prim.Native.Nat.{ℕ, zero, suc, ◌+◌, ◌-◌, ◌≤◌, ◌<◌}
use mathlib.Core.Bool.{Bool, true}
use mathlib.Core.List.{List}
use Rattle.std.specs.Prelude.{Option, Result, Ok, Err, is_ok}
use mathlib.Core.Path.{◌≡◌, refl, sym, ap, ◌∙◌}
use native.Mathlib.Nat.{not-suc-le-zero, add-zero}
use native.Mathlib.Numerals.{sub-one}
use native.Mathlib.Omega.{arith}
use lib.Dec.{eqb}
use lib.ListN.{length, get_or, drop}
use lib.Seq.{get_or-drop, drop-drop}
use Rattle.slices.specs.Bytes.{AllBytes, drop_bytes}
use Rattle.slices.specs.Logic.{absurd_numbers}
use Rattle.refusals.specs.Answers.{granted, refused}
use Rattle.msgpack.specs.Formats.{unused_kind, integer_kind, array_kind}
use Rattle.msgpack.specs.Items.{Head, Passage, whole, cut, too_deep, head_of, items_of, beyond, pass_items, pass_item, depth_allowed, pass_over, passage_of, number_of}
use Rattle.msgpack.specs.declared.Fault.{Fault}
use Rattle.msgpack.specs.declared.Fault.TheVariants.{Cut, TooDeep}
use Rattle.msgpack.specs.Readers.{Int, plus, read_integer}
use Rattle.msgpack.specs.Short.{short_width, short_front}
use Rattle.msgpack.specs.PassingLaws.{head_within, too_deep_lem, unused, flat_whole, flat_cut}
use Rattle.msgpack.specs.Passages.{item_inside, head_inside}
use Rattle.msgpack_forms.specs.Items.{argument_of, Form, integer_form_by, form_at, short_item, all_short, item, item_at}
use Rattle.msgpack_forms.specs.FormLaws.{integer_form, other_form}
use Rattle.msgpack_forms.specs.ShortLaws.{short_zero, short_flat, short_within, short_unused, short_whole}

-- a head that is used begins inside
pub begins_inside : (at : ℕ) (s : List ℕ) (h : Head) → h ≡ head_of (drop at s) → (h.kind ≡ unused_kind → ⊥) → at < length s
begins_inside at s h e u =
    let w = (head_within (drop at s)).begun (λ (k : (head_of (drop at s)).kind ≡ unused_kind). u (ap (λ (h : Head). h.kind) e ∙ k)) in
    let size : h.size ≡ (head_of (drop at s)).size = ap (λ (h : Head). h.size) e in
    omega (arith, head_inside at s h e u)

pub some_size : (s : List ℕ) (h : Head) → h ≡ head_of s → (h.kind ≡ unused_kind → ⊥) → 0 < h.size
some_size s h e u =
    let w = (head_within s).begun (λ (k : (head_of s).kind ≡ unused_kind). u (ap (λ (h : Head). h.kind) e ∙ k)) in
    let size : h.size ≡ (head_of s).size = ap (λ (h : Head). h.size) e in
    omega arith

-- what is read there, and what its reader says of its form
pub integer_at : (at : ℕ) (s : List ℕ) (h : Head) → h ≡ head_of (drop at s) → h.kind ≡ integer_kind → (r : Option Int) → r ≡ read_integer (drop at s)
    → (short : Bool) → short ≡ short_front (drop at s) (read_integer (drop at s)) → integer_form_by short r ≡ form_at (drop at s)
integer_at at s h e k r is short form = rw (form, is) (sym (integer_form (drop at s) (sym (ap (λ (h : Head). h.kind) e) ∙ k)))

module _ (at : ℕ) (s : List ℕ) (bytes : AllBytes s) (h : Head) (e : h ≡ head_of (drop at s)) (u : h.kind ≡ unused_kind → ⊥) where
  first : get_or (drop at s) 0 0 ≡ get_or s at 0
  first = get_or-drop at s 0 0 ∙ ap (λ (k : ℕ). get_or s k 0) (add-zero at)

  used : (head_of (drop at s)).kind ≡ unused_kind → ⊥
  used k = u (ap (λ (h : Head). h.kind) e ∙ k)

  pub other_at : (h.kind ≡ integer_kind → ⊥) → (n : ℕ) → n ≡ argument_of h.kind (get_or s at 0) h.count → (short : ℕ) → short ≡ short_width h.kind (plus n)
      → record { argument = plus n; short = eqb (h.size - 1) short } ≡ form_at (drop at s)
  other_at k n is short width =
      let none : (head_of (drop at s)).kind ≡ integer_kind → ⊥ = λ i. k (ap (λ (h : Head). h.kind) e ∙ i) in
      sym (other_form (drop at s) (drop_bytes at bytes) used none n (is ∙ rw (← e, first)) ∙ rw (← e, width))

-- a whole item ends inside
pub short_inside : (a at : ℕ) (s : List ℕ) (n : ℕ) → short_item a (drop at s) ≡ whole n → at + n ≤ length s
short_inside a at s n p = item_inside a at s n (short_whole a (drop at s) n p).passed

-- r is what passing over a container's items gave
pub container : (a at : ℕ) (s : List ℕ) (h : Head) → h ≡ head_of (drop at s) → array_kind ≤ h.kind → (form_at (drop at s)).short ≡ true → 0 < a
    → (items : ℕ) → items ≡ items_of h.kind h.count → (r : Passage) → r ≡ pass_items (short_item (a - 1)) items (drop (at + h.size) s)
    → beyond h.size r ≡ short_item a (drop at s)
container zero at s h e l short p items q r g = absurd (not-suc-le-zero p)
container (suc a) at s h e l short p items q r g =
    let here : array_kind ≤ (head_of (drop at s)).kind = rw e at l in
    rw (g, q, ← drop-drop h.size at s, sub-one, e) (sym (short_within (drop at s) short a here))

module _ (a at : ℕ) (s : List ℕ) (h : Head) (e : h ≡ head_of (drop at s)) where
  kinds : h.kind ≡ (head_of (drop at s)).kind
  kinds = ap (λ (h : Head). h.kind) e

  pub deep_at : array_kind ≤ h.kind → (form_at (drop at s)).short ≡ true → a ≡ 0 → too_deep ≡ short_item a (drop at s)
  deep_at l short z = rw z (too_deep_lem 0 (drop at s) h e l refl ∙ sym (short_zero (drop at s) short))

  pub unused_at : h.kind ≡ unused_kind → cut ≡ short_item a (drop at s)
  unused_at u = sym (short_unused (drop at s) a (sym kinds ∙ u))

  module _ (l : h.kind < array_kind) (u : h.kind ≡ unused_kind → ⊥) (short : (form_at (drop at s)).short ≡ true) where
    pub flat_at : h.size + h.count ≤ length (drop at s) → whole (h.size + h.count) ≡ short_item a (drop at s)
    flat_at f = flat_whole a (drop at s) h e l u f ∙ sym (short_flat (drop at s) short a (rw kinds at l))

    pub cut_at : length (drop at s) < h.size + h.count → cut ≡ short_item a (drop at s)
    cut_at f = flat_cut a (drop at s) h e l u f ∙ sym (short_flat (drop at s) short a (rw kinds at l))

-- ---- the item at the front

-- a whole item has a head
pub whole_used : (a : ℕ) (s : List ℕ) (n : ℕ) → pass_item a s ≡ whole n → (head_of s).kind ≡ unused_kind → ⊥
whole_used a s n p u = let q = unused a s (head_of s) refl (rw u (omega arith)) u in absurd_numbers (cc)

module _ (s : List ℕ) where
  pub item_told_lem : (n kind : ℕ) (f : Form) → pass_over s ≡ whole n → kind ≡ (head_of s).kind → f ≡ form_at s → granted (item kind n f) ≡ item_at s
  unfolding item_at
  item_told_lem n kind f p k q = rw (p, k, q)

  pub item_fault : (f : Fault) → pass_over s ≡ passage_of (Err f) → refused (number_of f) ≡ item_at s
  unfolding item_at
  item_fault Cut p = rw p
  item_fault TooDeep p = rw p

-- the answer, from what passing over gave
pub all_told : (s : List ℕ) (r : Result ℕ Fault) → short_item depth_allowed s ≡ passage_of r → is_ok r ≡ all_short s
unfolding all_short
all_told s (Ok n) e = rw e
all_told s (Err Cut) e = rw e
all_told s (Err TooDeep) e = rw e
