-- A place of a slice, what stands there, and where that lies in memory.
use Rattle.std.specs.Prelude.{ℕ, ◌+◌, ◌-◌, ◌≤◌, min, List, ◌≡◌, length, take, drop}
use Rattle.std.proofs.Common.{sym, ap, ap₂, ◌∙◌, arith, length-take, length-drop}
use Rattle.std.specs.Borrow.{Bor}
use Rattle.slices.specs.Lists.{part_length, part_of_part}
use Rattle.slices.specs.declared.Place.{Place}

-- the part of s at a place; of a place that is not inside, what is there
abbrev pub part_at : List ℕ → Place → List ℕ
part_at s p = take p.len (drop p.start s)

-- where the element at a place lies, a block of memory and an offset there; past the end, where the slice ends
abbrev pub address_at : Bor (List ℕ) → ℕ → ℕ × ℕ
address_at s at = (s.ref_ptr.0, s.ref_ptr.1 + min at (length s.now))

pub address_of_front : (s : Bor (List ℕ)) → s.ref_ptr ≡ address_at s 0
address_of_front s = ap (λ o. (s.ref_ptr.0, o)) (omega arith)

-- an address in what stands from a place on
pub address_later : (s r : Bor (List ℕ)) (at by : ℕ) → r.now ≡ drop at s.now → r.ref_ptr ≡ address_at s at → address_at r by ≡ address_at s (at + by)
address_later s r at by content address =
    let long : length r.now ≡ length s.now - at = ap length content ∙ length-drop at s.now in
    ap₂ (λ b o. (b, o)) (ap (λ x. x.0) address) (omega (arith, long, ap (λ x. x.1) address))

-- the address tells the place: equal bytes elsewhere in the slice lie elsewhere
pub address_tells : (s : Bor (List ℕ)) {a b : ℕ} → a ≤ length s.now → b ≤ length s.now → address_at s a ≡ address_at s b → a ≡ b
address_tells s ha hb e = omega (arith, ap (λ x. x.1) e)

-- the place lies inside s
pub record Inside (s : List ℕ) (p : Place) : Type 0 where
  pub end : p.start + p.len ≤ length s

-- what stands there is as long as the place says
pub length_part : (s : List ℕ) (p : Place) → Inside s p → length (part_at s p) ≡ p.len
length_part s p h = part_length s p.start p.len h.end

-- a place of a part that begins at `by`, as a place of the whole
abbrev pub shift_place : ℕ → Place → Place
shift_place by p = record { start = by + p.start; len = p.len }

-- one place lies within another
pub record Within (outer inner : Place) : Type 0 where
  pub after : outer.start ≤ inner.start
  pub before : inner.start + inner.len ≤ outer.start + outer.len

pub within_inside : (s : List ℕ) {outer inner : Place} → Inside s outer → Within outer inner → Inside s inner
within_inside s h w = record { end = omega arith }

-- a place inside the part of s at another: shifted, it lies within that, and s has the same there
module _ (s : List ℕ) (outer inner : Place) (h : Inside (part_at s outer) inner) where
  pub shifted_within : Within outer (shift_place outer.start inner)
  shifted_within = record { after = omega arith; before = omega (arith, length-take outer.len (drop outer.start s)) }

  pub shifted_part : part_at s (shift_place outer.start inner) ≡ part_at (part_at s outer) inner
  shifted_part = sym (part_of_part s outer.start outer.len inner.start inner.len h.end)
