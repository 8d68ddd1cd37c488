-- Laws of passing over an item whose forms are all short: how it goes on, that the item is whole by `pass_item` too, and that it lies inside.
use Prim.Native.Nat.{ℕ, zero, suc, ◌≤◌, ◌<◌}
use Rattle.std.specs.Prelude.{Bool, true, false, cond, List, ◌≡◌, refl, drop}
use Rattle.std.proofs.Common.{sym, ap, ◌∙◌, arith}
use borrow.Author.Tests.{le-leb, lt-leb}
use Rattle.slices.specs.Logic.{absurd_numbers}
use Rattle.msgpack.specs.Formats.{unused_kind, array_kind}
use Rattle.msgpack.specs.Items.{Passage, whole, cut, too_deep, head_of, items_of, beyond, pass_items, pass_head, pass_item, depth_allowed}
use Rattle.msgpack.specs.PassingLaws.{unused, flat_whole, within_container, Whole, container, flat, head_whole, Deeper, items_deeper}
use Rattle.msgpack_forms.specs.Items.{form_at, short_item, is_whole_passage, all_short}

module _ (s : List ℕ) where
  pub not_short : (a : ℕ) → (form_at s).short ≡ false → short_item a s ≡ cut
  unfolding short_item
  not_short zero e = rw e
  not_short (suc a) e = rw e

  module _ (short : (form_at s).short ≡ true) where
    -- where no container is allowed, and where there is none
    pub short_zero : short_item 0 s ≡ pass_item 0 s
    unfolding short_item pass_item
    short_zero = rw short

    pub short_flat : (a : ℕ) → (head_of s).kind < array_kind → short_item a s ≡ pass_item a s
    unfolding short_item pass_item pass_head
    short_flat zero l = rw short
    short_flat (suc a) l = rw (short, lt-leb _ _ l)

    pub short_within : (a : ℕ) → array_kind ≤ (head_of s).kind
        → short_item (suc a) s ≡ beyond (head_of s).size (pass_items (short_item a) (items_of (head_of s).kind (head_of s).count) (drop (head_of s).size s))
    unfolding short_item pass_head
    short_within a l = rw (short, le-leb _ _ l)

  by_form : (a : ℕ) (r : Passage) → ((form_at s).short ≡ true → short_item a s ≡ r) → r ≡ cut → short_item a s ≡ cut
  by_form a r f e = go (form_at s).short refl
    where
      go : (t : Bool) → (form_at s).short ≡ t → short_item a s ≡ cut
      go true t = f t ∙ e
      go false t = not_short a t

  pub short_unused : (a : ℕ) → (head_of s).kind ≡ unused_kind → short_item a s ≡ cut
  short_unused a u = by_form a (pass_item a s) (λ t. short_flat t a (rw u (omega arith))) (sym (unused a s (head_of s) refl (rw u (omega arith)) u))

-- ---- what is passed so is passed

-- what a test that held led to
held : (t : Bool) (r : Passage) (n : ℕ) → cond t r cut ≡ whole n → (t ≡ true) × (r ≡ whole n)
held true r n e = (refl, e)
held false r n e = absurd_numbers (cc)

pub record ShortWhole (a : ℕ) (s : List ℕ) (n : ℕ) : Type 0 where
  pub short : (form_at s).short ≡ true
  pub passed : pass_item a s ≡ whole n

pub short_whole : (a : ℕ) (s : List ℕ) (n : ℕ) → short_item a s ≡ whole n → ShortWhole a s n
unfolding short_item pass_item
short_whole zero s n p = let h = held (form_at s).short _ n p in record { short = h.0; passed = h.1 }
short_whole (suc a) s n p =
    let h = held (form_at s).short _ n p in
    record { short = h.0; passed = by (items_deeper (short_item a) (pass_item a) (λ t m q. (short_whole a t m q).passed)) n (head_whole _ _ s n h.1) }
  where
    by : ((count : ℕ) → Deeper (pass_items (short_item a) count) (pass_items (pass_item a) count))
        → (n : ℕ) → Whole (pass_items (short_item a)) (head_of s) s n → pass_item (suc a) s ≡ whole n
    by on n (container l q) = sym (within_container a s (head_of s) refl l) ∙ ap (beyond (head_of s).size) (on _ _ _ q)
    by on n (flat l u f) = sym (flat_whole (suc a) s (head_of s) refl l u f)

-- ---- all forms

-- how long the item is
pub record AllShort (s : List ℕ) : Type 0 where
  pub size : ℕ
  pub is : short_item depth_allowed s ≡ whole size

pub all_short_lem : (s : List ℕ) → all_short s ≡ true → AllShort s
unfolding all_short
all_short_lem s e = by (short_item depth_allowed s) refl e
  where
    by : (r : Passage) → short_item depth_allowed s ≡ r → is_whole_passage r ≡ true → AllShort s
    by (whole n) q e = record { size = n; is = q }
    by cut q e = absurd_numbers (cc)
    by too_deep q e = absurd_numbers (cc)

pub is_all_short : (s : List ℕ) (n : ℕ) → short_item depth_allowed s ≡ whole n → all_short s ≡ true
unfolding all_short
is_all_short s n e = rw e
