-- Writing e at a place and then f after it is writing e ++ f at that place; so each piece of a value is written by itself.
use Prim.Native.Nat.{ℕ, ◌+◌, ◌≤◌}
use mathlib.Core.List.{List, ◌++◌, append_assoc}
use Rattle.std.specs.Prelude.{Option}
use mathlib.Core.Path.{◌≡◌, refl, sym, ap, subst, ◌∙◌}
use native.Mathlib.Omega.{arith}
use borrow.Author.Tests.{le-leb}
use lib.ListN.{length, take, drop, length-append}
use lib.Seq.{length-take-le, take-take, take-append-le, drop_at}
use Rattle.slices.specs.Overwriting.{overwritten, written_bytes, written_within, length_overwritten, overwritten_more}
use Rattle.endian.specs.Numbers.{big_bytes, length_big_bytes}
use Rattle.endian.specs.Places.{written_at, number_written}
use Rattle.msgpack_heads.specs.Heads.{next_place}
use Rattle.writer.specs.Putting.{Puts, told_place}

-- ---- one after the other

module _ {g : List ℕ} (e f : List ℕ) (same : e ++ f ≡ g) where
  lengths : length g ≡ length e + length f
  lengths = ap length (sym same) ∙ length-append e f

  pub first_fits : (at k : ℕ) → at + length g ≤ k → at + length e ≤ k
  first_fits at k fits = omega (arith, lengths)

  pub next_fits : {s t : List ℕ} {at n : ℕ} → Puts s at e t n → at + length g ≤ length s → n + length f ≤ length t
  next_fits {s} {t} {at} {n} p fits =
      let l : length t ≡ length s = ap length p.left ∙ length_overwritten s at e (first_fits at (length s) fits) in
      omega (arith, lengths, p.place)

  pub puts_both : {s t u : List ℕ} {at n m : ℕ} → Puts s at e t n → Puts t n f u m → at + length g ≤ length s → Puts s at g u m
  puts_both {s} {t} {u} {at} {n} {m} p q fits =
      let k : at + length e + length f ≤ length s = omega (arith, lengths) in
      record {
        left = q.left ∙ rw (p.left, p.place, ← same) (overwritten_more s at e f k);
        place = omega (arith, lengths, p.place, q.place);
      }

pub puts_same : {s e g t : List ℕ} {at n : ℕ} → e ≡ g → Puts s at e t n → Puts s at g t n
puts_same {s} {e} {g} {t} {at} {n} same p = subst (λ x. Puts s at x t n) same p

-- bytes that were written where they fit, and a head with the place that it told
pub bytes_put : {s e t : List ℕ} {at n : ℕ} → t ≡ written_bytes s at e → n ≡ at + length e → at + length e ≤ length s → Puts s at e t n
bytes_put {s} {e} {t} {at} w p fits = record { left = w ∙ written_within s at e fits; place = p }

pub head_put : {s e t : List ℕ} {at n : ℕ} {told : Option ℕ} → told ≡ next_place (length s) at e → t ≡ written_bytes s at e → n ≡ told_place told → at + length e ≤ length s → Puts s at e t n
unfolding next_place
head_put {s} {e} {t} {at} {n} {told} o w p fits = bytes_put w (p ∙ ap told_place o ∙ rw (le-leb (at + length e) (length s) fits)) fits

-- ---- the other way round: what stands behind is written first

module _ (s : List ℕ) (at : ℕ) (h v : List ℕ) (fits : at + length (h ++ v) ≤ length s) where
  front_length : length (take (at + length h) s) ≡ at + length h
  front_length = length-take-le (at + length h) s (first_fits h v refl at (length s) fits)

  kept_before : take at (overwritten s (at + length h) v) ≡ take at s
  unfolding overwritten
  kept_before =
      let a = take (at + length h) s in
      let l : at ≤ length a = omega (arith, front_length) in
      let m : at ≤ length (a ++ v) = omega (arith, length-append a v) in
      take-append-le at (a ++ v) (drop (at + length h + length v) s) m
      ∙ take-append-le at a v l
      ∙ take-take at (at + length h) s (omega arith)

  behind : drop (at + length h) (overwritten s (at + length h) v) ≡ v ++ drop (at + length h + length v) s
  unfolding overwritten
  behind =
      let a = take (at + length h) s in
      ap (drop (at + length h)) (append_assoc a v (drop (at + length h + length v) s))
      ∙ drop_at a (v ++ drop (at + length h + length v) s) (at + length h) front_length

  pub overwritten_before : overwritten (overwritten s (at + length h) v) at h ≡ overwritten s at (h ++ v)
  unfolding overwritten
  overwritten_before =
      let n : at + length (h ++ v) ≡ at + length h + length v = omega (arith, length-append h v) in
      rw (kept_before, behind, n) (simp append_assoc)

-- ---- a number

pub number_put : {s t : List ℕ} {at m : ℕ} (w n : ℕ) → t ≡ written_at s at w n → m ≡ at + w → w ≤ 8 → at + w ≤ length s → Puts s at (big_bytes w n) t m
number_put {s} {t} {at} {m} w n e p narrow inside = record {
  left = e ∙ number_written s at w n (record { narrow = narrow; inside = inside });
  place = rw (length_big_bytes w n) p;
}
