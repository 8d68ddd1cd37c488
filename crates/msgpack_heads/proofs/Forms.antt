-- A form's first byte and number written at a place, and how large the forms are.
use Prim.Native.Nat.{ℕ, suc, ◌+◌, ◌%◌, ◌≤◌, ◌<◌}
use mathlib.Core.Bool.{Bool, true, false, cond}
use mathlib.Core.List.{List, [], ◌∷◌}
use Rattle.std.specs.Prelude.{Option, None, Some}
use mathlib.Core.Path.{◌≡◌, refl, sym, ap, ◌∙◌}
use native.Mathlib.Omega.{arith}
use borrow.Author.Tests.{le-leb, lt-leb, ltb-true}
use lib.Dec.{ltb}
use lib.ListN.{length}
use Rattle.slices.specs.Overwriting.{overwritten, written_bytes, written_within, length_overwritten, overwritten_more}
use Rattle.endian.specs.Numbers.{little_bytes, big_bytes, length_big_bytes}
use Rattle.endian.specs.Places.{written_at, number_written}
use Rattle.msgpack_heads.specs.Heads.{Form, form, form_bytes, sized_form, text_form, unsigned_form, container_form, next_place}

-- ---- the forms are small

pub record SmallForm (f : Form) : Type 0 where
  pub first_byte : f.first < 256
  pub narrow : f.width ≤ 8

chosen : (t : Bool) (f g : Form) → SmallForm f → SmallForm g → SmallForm (cond t f g)
chosen true f g p q = p
chosen false f g p q = q

small : {first width : ℕ} → first < 256 → width ≤ 8 → SmallForm (form first width)
small h k = record { first_byte = h; narrow = k }

-- a form that is chosen where n is below a bound
below : (n bound : ℕ) (f g : Form) → (n < bound → SmallForm f) → SmallForm g → SmallForm (cond (ltb n bound) f g)
below n bound f g p q = go (ltb n bound) refl
  where
    go : (t : Bool) → ltb n bound ≡ t → SmallForm (cond t f g)
    go true e = p (ltb-true n bound e)
    go false e = q

pub sized_small : (first n : ℕ) → first < 254 → SmallForm (sized_form first n)
unfolding sized_form
sized_small first n h = chosen (ltb n 256) _ _ (small (omega arith) (omega arith)) (chosen (ltb n 65536) _ _ (small (omega arith) (omega arith)) (small (omega arith) (omega arith)))

pub text_small : (n : ℕ) → SmallForm (text_form n)
unfolding text_form
text_small n = below n 32 _ _ (λ h. small (omega arith) (omega arith)) (sized_small 0xd9 n (omega arith))

pub unsigned_small : (n : ℕ) → SmallForm (unsigned_form n)
unfolding unsigned_form
unsigned_small n = below n 128 _ _ (λ h. small (omega arith) (omega arith)) (chosen (ltb n 4294967296) _ _ (sized_small 0xcc n (omega arith)) (small (omega arith) (omega arith)))

pub container_small : (fixed sized n : ℕ) → fixed < 240 → sized < 255 → SmallForm (container_form fixed sized n)
unfolding container_form
container_small fixed sized n h k = below n 16 _ _ (λ l. small (omega arith) (omega arith)) (chosen (ltb n 65536) _ _ (small (omega arith) (omega arith)) (small (omega arith) (omega arith)))

-- ---- a form that the code has chosen

module _ (f g : Form) (e : f ≡ g) where
  pub chosen_small : SmallForm g → (f.first < 256) × (f.width ≤ 8)
  chosen_small s = rw e (s.first_byte, s.narrow)

  pub chosen_written : (s : List ℕ) (at n : ℕ) (r : Option ℕ) (t : List ℕ) → r ≡ next_place (length s) at (form_bytes f n) → t ≡ written_bytes s at (form_bytes f n)
      → (r ≡ next_place (length s) at (form_bytes g n)) × (t ≡ written_bytes s at (form_bytes g n))
  chosen_written s at n r t p q = rw (← e) (p, q)

-- ---- a form at a place

one_byte : (b : ℕ) → b < 256 → big_bytes 1 b ≡ b ∷ []
unfolding big_bytes little_bytes
one_byte b h = let e : b % 256 ≡ b = omega arith in rw e

module _ (s : List ℕ) (at first width n : ℕ) where
  form_length : length (form_bytes (form first width) n) ≡ 1 + width
  form_length = ap suc (length_big_bytes width n) ∙ omega arith

  module _ (short : length s < at + (1 + width)) where
    pub no_place : None ≡ next_place (length s) at (form_bytes (form first width) n)
    unfolding next_place
    no_place = rw (form_length, lt-leb (at + (1 + width)) (length s) short)

    pub unwritten : s ≡ written_bytes s at (form_bytes (form first width) n)
    unfolding written_bytes overwritten
    unwritten = rw (form_length, lt-leb (at + (1 + width)) (length s) short)

  module _ (room : at + (1 + width) ≤ length s) where
    pub next_place_lem : Some (at + (1 + width)) ≡ next_place (length s) at (form_bytes (form first width) n)
    unfolding next_place
    next_place_lem = rw (form_length, le-leb (at + (1 + width)) (length s) room)

    -- the two writes
    pub both_written : first < 256 → width ≤ 8
        → written_at (written_at s at 1 first) (at + 1) width n ≡ written_bytes s at (form_bytes (form first width) n)
    both_written f w =
        let byte : List ℕ = first ∷ [] in
        let one : written_at s at 1 first ≡ overwritten s at byte
        = number_written s at 1 first (record { narrow = omega arith; inside = omega arith }) ∙ ap (overwritten s at) (one_byte first f) in
        let long : length (overwritten s at byte) ≡ length s = length_overwritten s at byte (omega arith) in
        let two = number_written (overwritten s at byte) (at + 1) width n (record { narrow = w; inside = rw long (omega arith) }) in
        let fits : at + 1 + length (big_bytes width n) ≤ length s = rw length_big_bytes (omega arith) in
        rw one (two ∙ overwritten_more s at byte (big_bytes width n) fits)
        ∙ sym (written_within s at (form_bytes (form first width) n) (rw form_length room))
