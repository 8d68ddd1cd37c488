-- Numbers at a place of a list: where one can stand, what is read there, and what the list holds once one is written.
use Rattle.std.specs.Prelude.{ℕ, ◌+◌, ◌≤◌, Bool, true, false, cond, ◌&&◌, List, ◌≡◌, refl, leb, length, take, drop}
use Rattle.std.proofs.Common.{true≢false, sym, ◌∙◌, arith, le-leb, leb-true}
use Rattle.std.specs.Prelude.{Option, None, Some}
use Rattle.slices.specs.Overwriting.{overwritten}
use Rattle.endian.specs.Numbers.{big_bytes}

-- whether a number of w bytes can stand at a place of so many bytes: it has at most 8, and all of them lie within
unfoldable pub holds : ℕ → ℕ → ℕ → Bool
holds len at w = leb w 8 && leb (at + w) len

-- the number of the w bytes at a place, in either order: `little` or `big`
unfoldable pub number_at : (List ℕ → ℕ) → List ℕ → ℕ → ℕ → Option ℕ
number_at order s at w = cond (holds (length s) at w) (Some (order (take w (drop at s)))) None

-- what a write of the w bytes of n, big-endian, leaves: the list as it was, where the number cannot stand there
unfoldable pub written_at : List ℕ → ℕ → ℕ → ℕ → List ℕ
written_at s at w n = cond (holds (length s) at w) (overwritten s at (big_bytes w n)) s

-- ---- where a number can stand

pub record Within (len at w : ℕ) : Type 0 where
  pub narrow : w ≤ 8
  pub inside : at + w ≤ len

pub within_holds : (len at w : ℕ) → Within len at w → holds len at w ≡ true
unfolding holds
within_holds len at w h = rw (le-leb w 8 h.narrow, le-leb (at + w) len h.inside)

pub holds_within : (len at w : ℕ) → holds len at w ≡ true → Within len at w
unfolding holds
holds_within len at w h = go (leb w 8) refl h
  where
    go : (t : Bool) → leb w 8 ≡ t → (t && leb (at + w) len) ≡ true → Within len at w
    go true e f = record { narrow = leb-true w 8 e; inside = leb-true (at + w) len f }
    go false e f = absurd (true≢false (sym f))

-- there a write leaves the number's bytes
pub number_written : (s : List ℕ) (at w n : ℕ) → Within (length s) at w → written_at s at w n ≡ overwritten s at (big_bytes w n)
unfolding written_at
number_written s at w n h = rw (within_holds (length s) at w h)

-- and the read gives the number
pub number_there : (order : List ℕ → ℕ) (s : List ℕ) (at w : ℕ) → Within (length s) at w → number_at order s at w ≡ Some (order (take w (drop at s)))
unfolding number_at
number_there order s at w h = rw (within_holds (length s) at w h)

-- so a caller that knows the place has the number, and no other answer
module _ (order : List ℕ → ℕ) (s : List ℕ) (at w : ℕ) (there : Within (length s) at w) where
  pub read_number : (r : Option ℕ) (n : ℕ) → r ≡ number_at order s at w → r ≡ Some n → n ≡ order (take w (drop at s))
  read_number r n p q =
      let e : Some n ≡ Some (order (take w (drop at s))) = sym q ∙ p ∙ number_there order s at w there in
      cc

  pub read_missing : (r : Option ℕ) → r ≡ number_at order s at w → r ≡ None → ⊥
  read_missing r p q =
      let e : None ≡ Some (order (take w (drop at s))) = sym q ∙ p ∙ number_there order s at w there in
      let z : ◌≡◌ {A = ℕ} 0 1 = cc in
      omega arith
