-- The hash of bytes that come in parts: what is kept between them, and that however they are cut the hash is that of all of them.
use Rattle.std.specs.Prelude.{◌≡◌, ℕ, zero, suc, ◌+◌, ◌-◌, ◌*◌, ◌/◌, ◌%◌, ◌^◌, ◌<◌, ◌≤◌, Bool, true, false, cond, List, [], ◌∷◌, ◌++◌, length, take, drop, ◌==◌, nat_lt, refl}
use Rattle.std.proofs.Common.{append-nil, sym, ap, ap₂, ◌∙◌, add_assoc, add_comm, mul-suc, arith, eqb-true, eq-eqb, ne_eqb, lt-ltb, le-ltb, length-append, length-drop, take-append-drop, drop-drop, take-add}
use Rattle.std.proofs.lemmas.Bool.{eqb-false}
use Rattle.std.proofs.Math.Seq.{append_snoc}
use Rattle.slices.specs.Lists.{part_length, part_of_part}
use Rattle.endian.specs.Numbers.{little}
use Rattle.xxh64.specs.declared.State.{State}
use Rattle.xxh64.specs.Xxh64.{prime1, prime2, prime5, add, lane, taken, round, converge, stripes, consume, avalanche, xxh64}

pub record Hashing : Type 0 where
  pub acc1 : ℕ
  pub acc2 : ℕ
  pub acc3 : ℕ
  pub acc4 : ℕ
  -- the bytes of a stripe that is not whole yet: fewer than 32
  pub held : List ℕ
  -- how many bytes were taken, a number of 64 bits
  pub count : ℕ

unfoldable pub fresh : Hashing
fresh = record { acc1 = add prime1 prime2; acc2 = prime2; acc3 = 0; acc4 = 2 ^ 64 - prime1; held = []; count = 0 }

-- with other bytes held, and another count
unfoldable pub holding : Hashing → List ℕ → ℕ → Hashing
holding h s n = record { acc1 = h.acc1; acc2 = h.acc2; acc3 = h.acc3; acc4 = h.acc4; held = s; count = n }

-- with k stripes of s taken into the accumulators, a lane of 8 bytes to each, and none held
unfoldable pub striped : Hashing → List ℕ → ℕ → ℕ → Hashing
striped h s k n = record {
  acc1 = taken round 8 32 s 0 h.acc1 k;
  acc2 = taken round 8 32 s 8 h.acc2 k;
  acc3 = taken round 8 32 s 16 h.acc3 k;
  acc4 = taken round 8 32 s 24 h.acc4 k;
  held = [];
  count = n;
}

-- one byte more; the 32nd of a stripe makes it whole
unfoldable pub push : Hashing → ℕ → Hashing
push h b =
    let s = h.held ++ (b ∷ []) in
    let n = add h.count 1 in
    cond (length s == 32) (striped h s 1 n) (holding h s n)

-- byte after byte
unfoldable pub pushed : Hashing → List ℕ → Hashing
pushed h [] = h
pushed h (b ∷ s) = pushed (push h b) s

-- steps 4 to 6, from the accumulator of step 3, the length of the whole input, and its bytes after the last stripe
unfoldable pub finish : ℕ → ℕ → List ℕ → ℕ
finish acc n s =
    let r = length s in
    let acc = add acc n in
    let acc = taken (consume 8) 8 8 s 0 acc (r / 8) in
    let acc = taken (consume 4) 4 4 s (r / 8 * 8) acc (r % 8 / 4) in
    let acc = taken (consume 1) 1 1 s (r / 4 * 4) acc (r % 4) in
    avalanche acc

-- steps 3 to 6
unfoldable pub finished : Hashing → ℕ
finished h = finish (cond (nat_lt h.count 32) prime5 (converge h.acc1 h.acc2 h.acc3 h.acc4)) h.count h.held

-- what the code keeps: the bytes held are the front of an array
unfoldable pub hashing_of : State → Hashing
hashing_of t = record { acc1 = t.acc1; acc2 = t.acc2; acc3 = t.acc3; acc4 = t.acc4; held = take (t.count % 32) t.held; count = t.count }

-- ---- some bytes and then others are both

pub pushed_append : (h : Hashing) (s t : List ℕ) → pushed h (s ++ t) ≡ pushed (pushed h s) t
unfolding pushed
pushed_append h [] t = refl
pushed_append h (b ∷ s) t = pushed_append (push h b) s t

pub pushed_cut : (h : Hashing) (s : List ℕ) (n : ℕ) → pushed (pushed h (take n s)) (drop n s) ≡ pushed h s
pushed_cut h s n = sym (pushed_append h (take n s) (drop n s)) ∙ ap (pushed h) (take-append-drop n s)

-- ---- many bytes at once

add_more : (n k : ℕ) → add (add n 1) k ≡ add n (suc k)
unfolding add
add_more n k = omega arith

length_snoc : (s : List ℕ) (b : ℕ) → length (s ++ (b ∷ [])) ≡ length s + 1
length_snoc s b = length-append s (b ∷ [])

push_held : (h : Hashing) (b : ℕ) → length h.held + 1 < 32 → push h b ≡ holding h (h.held ++ (b ∷ [])) (add h.count 1)
unfolding push
push_held h b l = rw (length_snoc h.held b, ne_eqb (length h.held + 1) 32 (λ e. omega arith))

push_whole : (h : Hashing) (b : ℕ) → length h.held + 1 ≡ 32 → push h b ≡ striped h (h.held ++ (b ∷ [])) 1 (add h.count 1)
unfolding push
push_whole h b e = rw (length_snoc h.held b, eq-eqb (length h.held + 1) 32 e)

-- bytes that do not make the stripe whole are held
pub pushed_held : (h : Hashing) (s : List ℕ) → h.count < 2 ^ 64 → length h.held + length s < 32
    → pushed h s ≡ holding h (h.held ++ s) (add h.count (length s))
unfolding pushed holding add
pushed_held h [] c l =
    let e : h.count ≡ (h.count + 0) % 2 ^ 64 = omega arith in
    λ i. record { acc1 = h.acc1; acc2 = h.acc2; acc3 = h.acc3; acc4 = h.acc4; held = sym (append-nil h.held) i; count = e i }
pushed_held h (b ∷ s) c l =
    ap (λ g. pushed g s) (push_held h b (omega arith))
    ∙ pushed_held (holding h (h.held ++ (b ∷ [])) (add h.count 1)) s (omega arith) (omega (arith, length_snoc h.held b))
    ∙ (λ i. holding h (append_snoc h.held b s i) (add_more h.count (length s) i))

-- those that make it whole are taken in with those held
pub pushed_whole : (h : Hashing) (s : List ℕ) → 0 < length s → length h.held + length s ≡ 32
    → pushed h s ≡ striped h (h.held ++ s) 1 (add h.count (length s))
unfolding pushed holding striped
pushed_whole h [] l e = absurd (omega arith)
pushed_whole h (b ∷ []) l e = push_whole h b e
pushed_whole h (b ∷ a ∷ s) l e =
    ap (λ g. pushed g (a ∷ s)) (push_held h b (omega arith))
    ∙ pushed_whole (holding h (h.held ++ (b ∷ [])) (add h.count 1)) (a ∷ s) (omega arith) (omega (arith, length_snoc h.held b))
    ∙ (λ i. striped h (append_snoc h.held b (a ∷ s) i) 1 (add_more h.count (suc (length s)) i))

-- and where none are held, whole stripes are taken in from where they stand
stripe_lane : (s : List ℕ) (k at : ℕ) → 32 * k + 32 ≤ length s → at + 8 ≤ 32 → lane (take 32 (drop (32 * k) s)) at 8 ≡ lane s (at + 32 * k) 8
unfolding lane
stripe_lane s k at l w =
    ap little (part_of_part s (32 * k) 32 at 8 (rw (part_length s (32 * k) 32 l) w) ∙ ap (λ n. take 8 (drop n s)) (add_comm (32 * k) at))

pub pushed_stripes : (h : Hashing) (s : List ℕ) (k : ℕ) → h.held ≡ [] → h.count < 2 ^ 64 → 32 * k ≤ length s
    → pushed h (take (32 * k) s) ≡ striped h s k (add h.count (32 * k))
unfolding pushed striped taken add
pushed_stripes h s zero e c l =
    let f : h.count ≡ (h.count + 0) % 2 ^ 64 = omega arith in
    λ i. record { acc1 = h.acc1; acc2 = h.acc2; acc3 = h.acc3; acc4 = h.acc4; held = e i; count = f i }
pushed_stripes h s (suc k) e c l =
    let t = take 32 (drop (32 * k) s) in
    let within : 32 * k + 32 ≤ length s = omega arith in
    let len : length t ≡ 32 = part_length s (32 * k) 32 within in
    let n : add (add h.count (32 * k)) (length t) ≡ add h.count (32 * suc k) = omega arith in
    ap (pushed h) (ap (λ n. take n s) (mul-suc 32 k) ∙ take-add (32 * k) 32 s)
    ∙ pushed_append h (take (32 * k) s) t
    ∙ ap (λ g. pushed g t) (pushed_stripes h s k e c (omega arith))
    ∙ pushed_whole (striped h s k (add h.count (32 * k))) t (omega arith) (omega arith)
    ∙ (λ i. record {
      acc1 = round (taken round 8 32 s 0 h.acc1 k) (stripe_lane s k 0 within (omega arith) i);
      acc2 = round (taken round 8 32 s 8 h.acc2 k) (stripe_lane s k 8 within (omega arith) i);
      acc3 = round (taken round 8 32 s 16 h.acc3 k) (stripe_lane s k 16 within (omega arith) i);
      acc4 = round (taken round 8 32 s 24 h.acc4 k) (stripe_lane s k 24 within (omega arith) i);
      held = [];
      count = n i;
    })

-- ---- how many bytes were taken, and how many are held

push_count : (h : Hashing) (b : ℕ) → (push h b).count ≡ add h.count 1
unfolding push holding striped
push_count h b = go (h.held ++ (b ∷ [])) (add h.count 1) (length (h.held ++ (b ∷ [])) == 32)
  where
    go : (s : List ℕ) (n : ℕ) (t : Bool) → (cond t (striped h s 1 n) (holding h s n)).count ≡ n
    go s n true = refl
    go s n false = refl

pub pushed_count : (h : Hashing) (s : List ℕ) → h.count < 2 ^ 64 → (pushed h s).count ≡ add h.count (length s)
unfolding pushed add
pushed_count h [] c = omega arith
pushed_count h (b ∷ s) c =
    pushed_count (push h b) s (rw (push_count h b) (omega arith)) ∙ ap (λ n. add n (length s)) (push_count h b) ∙ add_more h.count (length s)

push_length : (h : Hashing) (b : ℕ) → length h.held ≡ h.count % 32 → length (push h b).held ≡ (push h b).count % 32
unfolding add holding striped
push_length h b e = go (length h.held + 1 == 32) refl
  where
    go : (t : Bool) → (length h.held + 1 == 32) ≡ t → length (push h b).held ≡ (push h b).count % 32
    go true f = let w = eqb-true (length h.held + 1) 32 f in rw (push_whole h b w) (omega arith)
    go false f = let w = eqb-false (length h.held + 1) 32 f in rw (push_held h b (omega arith), length_snoc h.held b) (omega arith)

pub pushed_length : (h : Hashing) (s : List ℕ) → length h.held ≡ h.count % 32 → length (pushed h s).held ≡ (pushed h s).count % 32
unfolding pushed
pushed_length h [] e = e
pushed_length h (b ∷ s) e = pushed_length (push h b) s (push_length h b e)

-- ---- the hash of bytes in parts is the hash of all of them

-- lanes of what is left are lanes of the whole
lanes_left : (step : ℕ → ℕ → ℕ) (w : ℕ) (s : List ℕ) (k at acc m : ℕ) → taken step w w (drop k s) at acc m ≡ taken step w w s (k + at) acc m
unfolding taken lane
lanes_left step w s k at acc zero = refl
lanes_left step w s k at acc (suc m) =
    ap₂ step (lanes_left step w s k at acc m)
    (ap (λ t. little (take w t)) (drop-drop (at + w * m) k s ∙ ap (λ n. drop n s) (sym (add_assoc k at (w * m)))))

left_in : (step : ℕ → ℕ → ℕ) (w : ℕ) (s : List ℕ) (k at : ℕ) {at' acc acc' m m' : ℕ} → acc ≡ acc' → k + at ≡ at' → m ≡ m'
    → taken step w w (drop k s) at acc m ≡ taken step w w s at' acc' m'
left_in step w s k at {at'} {acc} {acc'} {m} {m'} p q r =
    lanes_left step w s k at acc m ∙ (λ i. taken step w w s (q i) (p i) (r i))

-- steps 4 to 6 need nothing of the stripes but the accumulator
pub xxh64_finish : (s : List ℕ) → finish (stripes s (length s / 32)) (length s) (drop (length s / 32 * 32) s) ≡ xxh64 s
unfolding finish xxh64
xxh64_finish s =
    let k = length s / 32 * 32 in
    let r = length-drop k s in
    ap avalanche
    (left_in (consume 1) 1 s k _
    (left_in (consume 4) 4 s k _
    (left_in (consume 8) 8 s k 0 refl (omega arith) (rw r (omega arith)))
    (rw r (omega arith)) (rw r (omega arith)))
    (rw r (omega arith)) (rw r (omega arith)))

-- the first accumulator is told by the count
stripes_told : (s : List ℕ) (k : ℕ) → length s / 32 ≡ k
    → cond (nat_lt (length s) 32) prime5
    (converge
    (taken round 8 32 s 0 (add prime1 prime2) k)
    (taken round 8 32 s 8 prime2 k)
    (taken round 8 32 s 16 0 k)
    (taken round 8 32 s 24 (2 ^ 64 - prime1) k))
    ≡ stripes s k
unfolding stripes
stripes_told s zero e = rw (lt-ltb (length s) 32 (omega arith))
stripes_told s (suc k) e = rw (le-ltb (length s) 32 (omega arith))

pub hash_in_parts : (s : List ℕ) → length s < 2 ^ 64 → finished (pushed fresh s) ≡ xxh64 s
unfolding finished holding striped add fresh
hash_in_parts s l =
    let m = length s / 32 in
    let k = length s / 32 * 32 in
    let e : 32 * (length s / 32) ≡ length s / 32 * 32 = omega arith in
    let g = striped fresh s m (add 0 (32 * m)) in
    let n : add (add 0 (32 * m)) (length (drop k s)) ≡ length s = omega (arith, length-drop k s) in
    ap finished
    (sym (pushed_cut fresh s k)
    ∙ ap (λ i. pushed (pushed fresh (take i s)) (drop k s)) (sym e)
    ∙ ap (λ f. pushed f (drop k s)) (pushed_stripes fresh s m refl (omega arith) (omega arith))
    ∙ pushed_held g (drop k s) (omega arith) (omega (arith, length-drop k s))
    ∙ ap (holding g (drop k s)) n)
    ∙ ap (λ acc. finish acc (length s) (drop k s)) (stripes_told s m refl)
    ∙ xxh64_finish s
