-- What is written into the words says the state.
use Prim.Native.Nat.{ℕ, ◌+◌, ◌≤◌, ◌<◌}
use mathlib.Core.List.{List, [], ◌∷◌, ◌++◌}
use mathlib.Core.Path.{◌≡◌, refl, sym, ◌∙◌}
use native.Mathlib.Omega.{arith}
use borrow.Author.Tests.{le-leb, lt-ltb}
use lib.ListN.{length, drop, get_or, length-append, drop_of_length-le}
use lib.Seq.{drop-cons}
use Rattle.std.specs.Prelude.{Some}
use Rattle.slices.specs.Overwriting.{overwritten, written_bytes, written_within, none_overwritten}
use Rattle.pipe.specs.States.{progress_of}
use Rattle.pipe.specs.declared.Phase.{Phase}
use Rattle.pipe.specs.declared.Phase.TheVariants.{Header, Value, Refused, Ended}
use Rattle.pipe.specs.declared.State.{State}
use Rattle.capi_pipe.specs.Bytes.{unpacked}
use Rattle.capi_pipe.specs.State.{mark, phase_in, hash_in, state_in, progress_in, Says, phase_words}
use Rattle.capi_pipe.specs.declared.state.PhaseWords.{PhaseWords}
use Rattle.capi_pipe.proofs.Packing.{written_more}

-- the words before the bytes
abbrev pub scalars : PhaseWords → State → List ℕ
scalars p s =
    mark ∷ p.phase ∷ p.start ∷ s.records ∷ p.number ∷ s.held
    ∷ s.hash.acc1 ∷ s.hash.acc2 ∷ s.hash.acc3 ∷ s.hash.acc4 ∷ s.hash.count ∷ []

-- ---- three rows, one after the other

next_row : (x w a b : List ℕ) (at : ℕ) → x ≡ overwritten w 0 a → length a ≡ at → at + length b ≤ length w → written_bytes x at b ≡ overwritten w 0 (a ++ b)
next_row x w a b at e l fits =
    let more = written_more x w a b at e l fits in
    written_within x at b (omega (arith, more.0)) ∙ more.1

-- ---- they say the state

module _ (s : State) (a b c d e f g h : ℕ) (front : unpacked (a ∷ b ∷ c ∷ d ∷ []) ≡ s.header) (back : unpacked (e ∷ f ∷ g ∷ h ∷ []) ≡ s.hash.held)
    (rest : List ℕ) where
  abbrev words : PhaseWords → List ℕ
  words p = scalars p s ++ (a ∷ b ∷ c ∷ d ∷ e ∷ f ∷ g ∷ h ∷ rest)

  hash_back : (p : PhaseWords) → hash_in (words p) ≡ s.hash
  unfolding hash_in
  hash_back p = λ i. record { acc1 = s.hash.acc1; acc2 = s.hash.acc2; acc3 = s.hash.acc3; acc4 = s.hash.acc4; held = back i; count = s.hash.count }

  phase_back : (q : Phase) (start : ℕ) → (phase_words q start).number < 256 → phase_in (words (phase_words q start)) ≡ Some q
  unfolding phase_in
  phase_back Header start small = rw (le-leb 19 (length (words (phase_words Header start))) (omega arith))
  phase_back Value start small = rw (le-leb 19 (length (words (phase_words Value start))) (omega arith))
  phase_back (Refused n place) start small = rw (le-leb 19 (length (words (phase_words (Refused n place) start))) (omega arith), lt-ltb n 256 small)
  phase_back Ended start small = rw (le-leb 19 (length (words (phase_words Ended start))) (omega arith))

  progress_back : (q : Phase) → s.phase ≡ q → (phase_words q s.start).number < 256 → progress_in (words (phase_words q s.start)) ≡ progress_of s
  unfolding state_in
  progress_back Header is small = rw (phase_back Header s.start small, is, front)
  progress_back Value is small = rw (phase_back Value s.start small, is, front, hash_back (phase_words Value s.start))
  progress_back (Refused n place) is small = rw (phase_back (Refused n place) s.start small, is)
  progress_back Ended is small = rw (phase_back Ended s.start small, is)

-- a list of four is its elements
four : (l : List ℕ) → length l ≡ 4 → l ≡ get_or l 0 0 ∷ get_or l 1 0 ∷ get_or l 2 0 ∷ get_or l 3 0 ∷ []
four l e =
    let none : drop 4 l ≡ [] = drop_of_length-le l {i = 4} (omega arith) in
    drop-cons l 0 0 (omega arith)
    ∙ (λ i. get_or l 0 0 ∷ drop-cons l 1 0 (omega arith) i)
    ∙ (λ i. get_or l 0 0 ∷ get_or l 1 0 ∷ drop-cons l 2 0 (omega arith) i)
    ∙ (λ i. get_or l 0 0 ∷ get_or l 1 0 ∷ get_or l 2 0 ∷ drop-cons l 3 0 (omega arith) i)
    ∙ (λ i. get_or l 0 0 ∷ get_or l 1 0 ∷ get_or l 2 0 ∷ get_or l 3 0 ∷ none i)

module _ (w : List ℕ) (long : 19 ≤ length w) (s : State) (p : PhaseWords) (is : p ≡ phase_words s.phase s.start) (small : p.number < 256)
    (front back : List ℕ) (lf : length front ≡ 4) (lb : length back ≡ 4) (header : unpacked front ≡ s.header) (stripe : unpacked back ≡ s.hash.held) where
  said : Says (progress_of s) w (overwritten w 0 (scalars p s ++ front ++ back))
  unfolding overwritten
  said =
      let f = four front lf in
      let b = four back lb in
      rw (f, b)
      (record {
        state =
            rw is
            (progress_back s (get_or front 0 0) (get_or front 1 0) (get_or front 2 0) (get_or front 3 0) (get_or back 0 0) (get_or back 1 0) (get_or back 2 0) (get_or back 3 0)
            (rw f at header) (rw b at stripe) (drop 19 w) s.phase refl (rw is at small));
        rest = refl;
      })

  pub state_said : Says (progress_of s) w (written_bytes (written_bytes (written_bytes w 0 (scalars p s)) 11 front) 15 back)
  state_said =
      let first = next_row w w [] (scalars p s) 0 (sym (none_overwritten w 0)) refl (omega arith) in
      let second = next_row _ w (scalars p s) front 11 first refl (omega arith) in
      let third = next_row _ w (scalars p s ++ front) back 15 second (rw length-append (omega arith)) (omega arith) in
      rw third said
