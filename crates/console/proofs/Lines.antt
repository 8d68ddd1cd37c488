-- The parts of a line, put one after the other, are the line.
use Prim.Native.Nat.{ℕ, ◌+◌, ◌≤◌}
use mathlib.Core.Bool.{true, false}
use mathlib.Core.List.{List, ◌++◌}
use mathlib.Core.Path.{◌≡◌, refl, ◌∙◌}
use native.Mathlib.Omega.{arith}
use borrow.Author.Tests.{leb-true, leb-false}
use lib.Dec.{leb}
use lib.ListN.{length, length-append}
use Rattle.slices.specs.Overwriting.{written_bytes}
use Rattle.console.specs.Put.{Put, Next, put_length, put_next}
use Rattle.console.specs.Text.{decimal, space, newline, refused_word, at_word, refusal_line, decimal_length}

-- ---- one text

module _ {old : List ℕ} {at : ℕ} {t new : List ℕ} (written : new ≡ written_bytes old at t) where
  pub put_written : leb (at + length t) (length old) ≡ true → Next old at t new (at + length t)
  unfolding written_bytes
  put_written e = record {
    fits = λ h. record { place = refl; bytes = written ∙ rw e };
    keeps = λ h. absurd (omega (arith, leb-true (at + length t) (length old) e));
  }

  pub put_unwritten : leb (at + length t) (length old) ≡ false → Next old at t new at
  unfolding written_bytes
  put_unwritten e = record {
    fits = λ h. absurd (omega (arith, leb-false (at + length t) (length old) e));
    keeps = λ h. (written ∙ rw e, refl);
  }

-- ---- a line

-- a number and a space, with which a line begins, and the room behind them
module _ {s0 s1 s2 : List ℕ} {at m1 m2 : ℕ} (n room : ℕ) (h : at + (21 + room) ≤ length s0) (p : Next s0 at (decimal n) s1 m1) (q : Next s1 m1 space s2 m2) where
  pub start_put : Put s0 at (decimal n ++ space) s2 m2
  start_put = let d = decimal_length n in put_next (omega arith) (p.fits (omega arith)) q

  pub room_behind : m2 + room ≤ length s2
  room_behind =
      let d = decimal_length n in
      let l = length-append (decimal n) space in
      omega (arith, start_put.place, put_length (omega arith) start_put)

module _ {s0 s1 s2 s3 : List ℕ} {at m1 m2 m3 : ℕ} where
  -- a word, a number and a line end
  pub numbered_put : (word : List ℕ) (n : ℕ) → at + (length word + 21) ≤ length s0
      → Next s0 at word s1 m1 → Next s1 m1 (decimal n) s2 m2 → Next s2 m2 newline s3 m3 → Put s0 at (word ++ decimal n ++ newline) s3 m3
  numbered_put word n h p q r =
      let d = decimal_length n in
      let l = length-append word (decimal n) in
      put_next (omega arith) (put_next (omega arith) (p.fits (omega arith)) q) r

  module _ {s4 s5 : List ℕ} {m4 m5 : ℕ} where
    pub refusal_put : (n place : ℕ) → at + 53 ≤ length s0
        → Next s0 at refused_word s1 m1 → Next s1 m1 (decimal n) s2 m2 → Next s2 m2 at_word s3 m3 → Next s3 m3 (decimal place) s4 m4 → Next s4 m4 newline s5 m5
        → Put s0 at (refusal_line n place) s5 m5
    unfolding refusal_line
    refusal_put n place h p q r t u =
        let d1 = decimal_length n in
        let d2 = decimal_length place in
        let l1 = length-append refused_word (decimal n) in
        let l2 = length-append (refused_word ++ decimal n) at_word in
        let l3 = length-append (refused_word ++ decimal n ++ at_word) (decimal place) in
        put_next (omega arith) (put_next (omega arith) (put_next (omega arith) (put_next (omega arith) (p.fits (omega arith)) q) r) t) u
