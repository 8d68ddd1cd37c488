-- The items of an array: they are whole, and the lengths that they tell are compared without being added.
use Prim.Native.Nat.{ℕ, ◌+◌, ◌-◌, ◌≤◌, ◌<◌}
use mathlib.Core.Bool.{Bool, true, false, ◌&&◌}
use mathlib.Core.List.{List, [], ◌∷◌}
use Rattle.std.specs.Prelude.{Option, None, Some}
use mathlib.Core.Path.{◌≡◌, refl, sym, ap, subst}
use native.Mathlib.Omega.{arith}
use borrow.Author.Tests.{le-leb, lt-leb, leb-true, leb-false}
use lib.Dec.{leb}
use lib.ListN.{length, drop}
use lib.Seq.{drop-drop}
use Rattle.slices.specs.Logic.{absurd_numbers, leb_shift}
use Rattle.msgpack.specs.Items.{pass_items, pass_over, WholeItem}
use Rattle.msgpack.specs.Readers.{Counted, read_array}
use Rattle.msgpack.specs.Lookup.{at_place, over}
use Rattle.msgpack.specs.Pairs.{place_told}
use Rattle.msgpack.specs.PairLaws.{told_found}
use Rattle.msgpack.specs.ReaderLaws.{array_items}
use Rattle.msgpack.specs.Views.{size_of, items_from, byte_view}
use Rattle.value.specs.Fields.{read_natural}
use Rattle.pack_list.specs.Lists.{each_of, sum}
use Rattle.pack_list.specs.Answers.{numbers_by, WholeItems, NumbersInside, within_from}
use Rattle.pack_list.specs.declared.Numbers.{Numbers}
use Rattle.pack_list.specs.Walks.{each_on, each_stops}

-- ---- answers

pub numbers_inside : (s : List ℕ) (n : Numbers) → n.first ≤ length s → WholeItems n.count (drop n.first s) → NumbersInside s (Some n)
numbers_inside s n h w = record {
  first = λ m e. let same : n ≡ m = cc in subst (λ (x : Numbers). x.first ≤ length s) same h;
  whole = λ m e. let same : n ≡ m = cc in subst (λ (x : Numbers). WholeItems x.count (drop x.first s)) same w;
}

pub no_numbers : (s : List ℕ) → NumbersInside s None
no_numbers s = record { first = λ m e. absurd_numbers (cc); whole = λ m e. absurd_numbers (cc) }

pub none_whole : (s : List ℕ) → WholeItems 0 s
unfolding pass_items
none_whole s = record { size = 0; is = refl }

-- ---- the array under a key of the map at a place, by the place told of the key

module _ (s : List ℕ) (at place : ℕ) (there : place ≡ 0 → ⊥) where
  pub array_found : (c : Counted) → read_array (drop (at + place) s) ≡ Some c
      → Some (items_from c.count (drop (at + place + c.size) s)) ≡ at_place (Some []) (λ p. byte_view.items (drop p (drop at s))) (place_told place)
  array_found c e = rw (told_found place there, drop-drop place at s, e, drop-drop c.size (at + place) s)

  pub no_array : read_array (drop (at + place) s) ≡ None → None ≡ at_place (Some []) (λ p. byte_view.items (drop p (drop at s))) (place_told place)
  no_array e = rw (told_found place there, drop-drop place at s, e)

  pub array_found_whole : (c : Counted) → read_array (drop (at + place) s) ≡ Some c → WholeItem (drop place (drop at s))
      → WholeItems c.count (drop (at + place + c.size) s)
  array_found_whole c e w =
      let items = array_items (drop (at + place) s) c e (subst WholeItem (drop-drop place at s) w) in
      subst (WholeItems c.count) (drop-drop c.size (at + place) s) (record { size = items.after; is = items.rest })

  pub array_placed : (c : Counted) → read_array (drop (at + place) s) ≡ Some c
      → Some (record { count = c.count; first = at + place + c.size }) ≡ numbers_by s at (place_told place)
  array_placed c e = rw (told_found place there, e)

  pub no_array_placed : read_array (drop (at + place) s) ≡ None → None ≡ numbers_by s at (place_told place)
  no_array_placed e = rw (told_found place there, e)

-- ---- lengths, of which none is added before it is compared

leb_sum : (n x left : ℕ) → leb (n + x) left ≡ (leb n left && leb x (left - n))
leb_sum n x left = by (leb n left) refl
  where
    by : (t : Bool) → leb n left ≡ t → leb (n + x) left ≡ (t && leb x (left - n))
    by true e = sym (leb_shift n x left (leb-true n left e))
    by false e = lt-leb (n + x) left (omega (arith, leb-false n left e))

within_more : (within : Bool) (left n : ℕ) (ls : List ℕ) → within_from within left (n ∷ ls) ≡ within_from (within && leb n left) (left - n) ls
unfolding within_from sum
within_more true left n ls = let rest : left - (n + sum ls) ≡ left - n - sum ls = omega arith in rw (rest, leb_sum n (sum ls) left)
within_more false left n ls = let rest : left - (n + sum ls) ≡ left - n - sum ls = omega arith in rw rest

module _ (s : List ℕ) (at count : ℕ) (within : Bool) (left : ℕ) (more : 0 < count) where
  abbrev lengths_read : Option (List ℕ)
  lengths_read = each_of read_natural (items_from count (drop at s))

  pub length_more : (n : ℕ) → read_natural (drop at s) ≡ Some n
      → over (within_from within left) lengths_read
      ≡ over (within_from (within && leb n left) (left - n)) (each_of read_natural (items_from (count - 1) (drop (at + size_of (pass_over (drop at s))) s)))
  length_more n e =
      rw (each_on read_natural s at count _ more refl n e)
      (by (each_of read_natural (items_from (count - 1) (drop (at + size_of (pass_over (drop at s))) s))))
    where
      by : (o : Option (List ℕ)) → over (within_from within left) (over (λ ls. n ∷ ls) o) ≡ over (within_from (within && leb n left) (left - n)) o
      by (Some ls) = ap Some (within_more within left n ls)
      by None = refl

  pub no_length : read_natural (drop at s) ≡ None → over (within_from within left) lengths_read ≡ None
  no_length e = rw (each_stops read_natural s at count _ more refl e)

pub lengths_all : (s : List ℕ) (within : Bool) (left : ℕ) → over (within_from within left) (each_of read_natural (items_from 0 s)) ≡ Some (within, left)
unfolding each_of items_from within_from sum
lengths_all s true left = let all : left - 0 ≡ left = omega arith in rw (le-leb 0 left (omega arith), all)
lengths_all s false left = let all : left - 0 ≡ left = omega arith in rw all
