-- What the code keeps between parts, after each way to take bytes.
use Rattle.std.proofs.Common.{◌≡◌, ℕ, ◌+◌, ◌%◌, ◌^◌, ◌<◌, ◌≤◌, List, ◌++◌, length, take, sym, ap, ◌∙◌, arith, length-take-le, take_all}
use Rattle.slices.specs.Overwriting.{overwritten, written_bytes, written_within, take_overwritten, length_overwritten}
use Rattle.xxh64.specs.declared.State.{State}
use Rattle.xxh64.specs.Xxh64.{add, taken, round}
use Rattle.xxh64.specs.Parts.{Hashing, holding, striped, pushed, hashing_of, pushed_held, pushed_count}

-- the count tells how many bytes were taken
count_after : (t r : State) (s : List ℕ) → t.count < 2 ^ 64 → hashing_of r ≡ pushed (hashing_of t) s → r.count ≡ add t.count (length s)
unfolding hashing_of
count_after t r s fits e = ap (λ (h : Hashing). h.count) e ∙ pushed_count (hashing_of t) s fits

-- and whether a stripe is begun
pub none_begun : (t r : State) (s : List ℕ) → t.count < 2 ^ 64 → (t.count + length s) % 32 ≡ 0 → hashing_of r ≡ pushed (hashing_of t) s
    → (r.count % 32 ≡ 0) × (r.count < 2 ^ 64)
unfolding add
none_begun t r s fits z e = let n = count_after t r s fits e in (omega (arith, n), omega (arith, n))

-- as many bytes are held as it tells
pub held_length : (t : State) → length t.held ≡ 32 → length (hashing_of t).held ≡ t.count % 32
unfolding hashing_of
held_length t long = length-take-le (t.count % 32) t.held (omega arith)

-- bytes written after those held
module _ (t : State) (long : length t.held ≡ 32) (s : List ℕ) (l : t.count % 32 + length s ≤ 32) {h : List ℕ} (p : h ≡ written_bytes t.held (t.count % 32) s) where
  written : h ≡ overwritten t.held (t.count % 32) s
  written = p ∙ written_within t.held (t.count % 32) s (omega arith)

  front : take (t.count % 32 + length s) h ≡ (hashing_of t).held ++ s
  unfolding hashing_of
  front = rw written (take_overwritten t.held (t.count % 32) s (omega arith))

  still_long : length h ≡ 32
  still_long = rw written (length_overwritten t.held (t.count % 32) s (omega arith) ∙ long)

  pub held_is : {n : ℕ} → t.count < 2 ^ 64 → t.count % 32 + length s < 32 → n ≡ add t.count (length s)
      → hashing_of (record { acc1 = t.acc1; acc2 = t.acc2; acc3 = t.acc3; acc4 = t.acc4; held = h; count = n }) ≡ pushed (hashing_of t) s
  unfolding hashing_of holding add
  held_is {n} fits few q =
      let m : n % 32 ≡ t.count % 32 + length s = omega arith in
      sym
      (pushed_held (hashing_of t) s fits (omega (arith, held_length t long))
      ∙ (λ i. holding (hashing_of t) (sym (ap (λ k. take k h) m ∙ front) i) (sym q i)))

  -- the stripe that they make whole
  pub stripe_whole : t.count % 32 + length s ≡ 32 → (hashing_of t).held ++ s ≡ h
  stripe_whole full = sym front ∙ take_all (t.count % 32 + length s) h (omega (arith, still_long))

-- stripes taken into the accumulators, and none begun
pub striped_is : (t : State) (s : List ℕ) (k : ℕ) {a b c d n m : ℕ} (h : List ℕ)
    → a ≡ taken round 8 32 s 0 t.acc1 k → b ≡ taken round 8 32 s 8 t.acc2 k → c ≡ taken round 8 32 s 16 t.acc3 k → d ≡ taken round 8 32 s 24 t.acc4 k
    → n ≡ m → n % 32 ≡ 0 → hashing_of (record { acc1 = a; acc2 = b; acc3 = c; acc4 = d; held = h; count = n }) ≡ striped (hashing_of t) s k m
unfolding hashing_of striped
striped_is t s k h p q r u e z = λ i. record { acc1 = p i; acc2 = q i; acc3 = r i; acc4 = u i; held = take (z i) h; count = e i }
