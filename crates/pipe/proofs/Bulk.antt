-- Many bytes at once: those of a part that belong to a header, or to a value, lead where they lead one by one.
use Prim.Native.Nat.{ℕ, zero, suc, ◌+◌, ◌-◌, ◌^◌, ◌≤◌, ◌<◌, min}
use mathlib.Core.Bool.{Bool, true, false, cond}
use mathlib.Core.List.{List, [], ◌∷◌, ◌++◌, append-nil}
use Rattle.std.specs.Prelude.{Option, None, Some}
use mathlib.Core.Path.{◌≡◌, refl, ap, ◌∙◌}
use native.Mathlib.Nat.{add-zero}
use native.Mathlib.Omega.{arith}
use borrow.Author.Tests.{lt-ltb, le-ltb, lt-leb, le-leb, ltb-true, ltb-false, leb-true, leb-false}
use lib.Dec.{eqb, leb, ltb}
use lib.ListN.{length, take, drop, length-append}
use lib.Seq.{append_snoc}
use Rattle.refusals.specs.Sheet.{lowest}
use Rattle.xxh64.specs.Parts.{Hashing, push, pushed, finished}
use Rattle.tlv.specs.Found.{header_rows, header_of}
use Rattle.pack.specs.Reading.{entry_at}
use Rattle.pipe.specs.Taking.{Phase, in_header, in_value, Going, going, in_phase, next_record, Next, onward, completes, refuses, valued, opened, headed, byte, Call, later, refusing, proceed, stepped, advance}
use Rattle.pipe.specs.Step.{counted_later, push_count}

later_proceed : (n : ℕ) (f : Next) (rest : Going → Call) → later n (proceed 1 f rest) ≡ proceed (n + 1) f rest
later_proceed n (onward g) rest =
    let c = rest g in
    λ i. record { after = c.after; notice = c.notice; taken = counted_later c.notice n 1 c.taken i }
later_proceed n (completes e g) rest = refl
later_proceed n (refuses number place) rest = refl

module _ (limit : ℕ) (small : limit < 2 ^ 64) (g : Going) where
  -- ---- a value

  module _ (head : List ℕ) where
    abbrev rest_of : List ℕ → Going → Call
    rest_of part next = advance limit (going next) part

    -- nothing of it is left
    value_whole : (hashing : Hashing) (part : List ℕ) (n : ℕ) → hashing.count ≡ (header_of head).length
        → proceed n (valued g head hashing) (rest_of part) ≡ stepped n (valued g head hashing)
    unfolding valued
    value_whole hashing part n e = rw (le-ltb hashing.count (header_of head).length (omega arith)) (go (eqb (header_of head).hash (finished hashing)))
      where
        decided : Bool → Next
        decided t = cond t (completes (entry_at g.start (header_of head)) (next_record g (header_of head).length)) (refuses 8 g.start)

        go : (t : Bool) → proceed n (decided t) (rest_of part) ≡ stepped n (decided t)
        go true = refl
        go false = refl

    -- some of it is left
    pub value_open : (hashing : Hashing) → hashing.count < (header_of head).length → valued g head hashing ≡ onward (in_phase g (in_value head hashing))
    unfolding valued
    value_open hashing l = rw (lt-ltb hashing.count (header_of head).length l)

    -- one byte
    value_byte : (hashing : Hashing) (b : ℕ) (s : List ℕ) (n : ℕ) → hashing.count < (header_of head).length → g.start + (32 + hashing.count) < limit
        → proceed n (valued g head hashing) (rest_of (b ∷ s)) ≡ proceed (n + 1) (valued g head (push hashing b)) (rest_of s)
    unfolding advance byte valued
    value_byte hashing b s n l within =
        rw (value_open hashing l, lt-leb limit (g.start + (32 + hashing.count)) within) (later_proceed n (valued g head (push hashing b)) (rest_of s))

    value_refused : (hashing : Hashing) (b : ℕ) (s : List ℕ) (n : ℕ) → hashing.count < (header_of head).length → limit ≤ g.start + (32 + hashing.count)
        → proceed n (valued g head hashing) (rest_of (b ∷ s)) ≡ refusing 1 0
    unfolding advance byte
    value_refused hashing b s n l past = rw (value_open hashing l, le-leb limit (g.start + (32 + hashing.count)) past)

    -- as many bytes as there are, or as the value wants
    pub value_within : (part : List ℕ) (hashing : Hashing) (n m : ℕ) → m ≡ min ((header_of head).length - hashing.count) (length part)
        → hashing.count ≤ (header_of head).length → g.start + (32 + hashing.count) + m ≤ limit
        → proceed n (valued g head hashing) (rest_of part) ≡ stepped (n + m) (valued g head (pushed hashing (take m part)))
    unfolding pushed advance
    value_within [] hashing n zero e l within = go (ltb hashing.count (header_of head).length) refl
      where
        go : (t : Bool) → ltb hashing.count (header_of head).length ≡ t → proceed n (valued g head hashing) (rest_of []) ≡ stepped (n + 0) (valued g head hashing)
        go true q = rw (value_open hashing (ltb-true hashing.count (header_of head).length q))
        go false q = rw add-zero (value_whole hashing [] n (omega (arith, ltb-false hashing.count (header_of head).length q)))
    value_within [] hashing n (suc k) e l within = absurd (omega arith)
    value_within (b ∷ s) hashing n zero e l within = rw add-zero (value_whole hashing (b ∷ s) n (omega arith))
    value_within (b ∷ s) hashing n (suc k) e l within =
        let c = push_count hashing b (omega arith) in
        let next : n + 1 + k ≡ n + suc k = omega arith in
        value_byte hashing b s n (omega arith) (omega arith)
        ∙ value_within s (push hashing b) (n + 1) k (omega arith) (omega arith) (omega arith)
        ∙ ap (λ (j : ℕ). stepped j (valued g head (pushed (push hashing b) (take k s)))) next

    pub value_past : (part : List ℕ) (hashing : Hashing) (n : ℕ) → hashing.count ≤ (header_of head).length → g.start + (32 + hashing.count) ≤ limit
        → limit < g.start + (32 + hashing.count) + min ((header_of head).length - hashing.count) (length part)
        → proceed n (valued g head hashing) (rest_of part) ≡ refusing 1 0
    value_past [] hashing n l within past = absurd (omega arith)
    value_past (b ∷ s) hashing n l within past =
        go (leb limit (g.start + (32 + hashing.count))) refl (value_past s (push hashing b) (n + 1))
      where
        go : (t : Bool) → leb limit (g.start + (32 + hashing.count)) ≡ t
            → ((push hashing b).count ≤ (header_of head).length → g.start + (32 + (push hashing b).count) ≤ limit
            → limit < g.start + (32 + (push hashing b).count) + min ((header_of head).length - (push hashing b).count) (length s)
            → proceed (n + 1) (valued g head (push hashing b)) (rest_of s) ≡ refusing 1 0)
            → proceed n (valued g head hashing) (rest_of (b ∷ s)) ≡ refusing 1 0
        go true e more = value_refused hashing b s n (omega arith) (leb-true limit (g.start + (32 + hashing.count)) e)
        go false e more =
            let below = leb-false limit (g.start + (32 + hashing.count)) e in
            let c = push_count hashing b (omega arith) in
            value_byte hashing b s n (omega arith) below ∙ more (omega arith) (omega arith) (omega arith)

  -- ---- a header

  abbrev header_at : List ℕ → Going
  header_at t = in_phase g (in_header t)

  pub header_open : (t : List ℕ) → length t < 32 → headed g t ≡ onward (header_at t)
  unfolding headed
  header_open t l = rw (lt-ltb (length t) 32 l)

  -- how much of the record there was plays no part
  opened_any : (p : Phase) (t : List ℕ) (o : Option ℕ) → opened (in_phase g p) t o ≡ opened g t o
  unfolding valued
  opened_any p t None = refl
  opened_any p t (Some n) = refl

  headed_any : (p : Phase) (t : List ℕ) → headed (in_phase g p) t ≡ headed g t
  unfolding headed
  headed_any p t = ap (cond (ltb (length t) 32) (onward (header_at t))) (opened_any p t (lowest (header_rows t)))

  header_one : (t : List ℕ) (b : ℕ) (s : List ℕ) → g.start + length t < limit
      → advance limit (going (header_at t)) (b ∷ s) ≡ proceed 1 (headed g (t ++ (b ∷ []))) (λ next. advance limit (going next) s)
  unfolding advance byte
  header_one t b s within = rw (lt-leb limit (g.start + length t) within, headed_any (in_header t) (t ++ (b ∷ [])))

  header_byte : (t : List ℕ) (b : ℕ) (s : List ℕ) (n : ℕ) → g.start + length t < limit
      → later n (advance limit (going (header_at t)) (b ∷ s)) ≡ proceed (n + 1) (headed g (t ++ (b ∷ []))) (λ next. advance limit (going next) s)
  header_byte t b s n within = rw (header_one t b s within) (later_proceed n (headed g (t ++ (b ∷ []))) (λ next. advance limit (going next) s))

  header_refused_lem : (t : List ℕ) (b : ℕ) (s : List ℕ) → limit ≤ g.start + length t → advance limit (going (header_at t)) (b ∷ s) ≡ refusing 1 0
  unfolding advance byte
  header_refused_lem t b s past = rw (le-leb limit (g.start + length t) past)

  -- as many bytes as there are, or as the header wants
  pub header_within : (part t : List ℕ) (n m : ℕ) → length t < 32 → m ≡ min (32 - length t) (length part) → g.start + length t + m ≤ limit
      → later n (advance limit (going (header_at t)) part)
      ≡ proceed (n + m) (headed g (t ++ take m part)) (λ next. advance limit (going next) (drop m part))
  unfolding advance
  header_within [] t n zero l e within =
      let none_more : n ≡ n + 0 = omega arith in
      rw (append-nil, header_open t l) (ap (λ (k : ℕ). later k (advance limit (going (header_at t)) [])) none_more)
  header_within [] t n (suc k) l e within = absurd (omega arith)
  header_within (b ∷ s) t n zero l e within = absurd (omega arith)
  header_within (b ∷ s) t n (suc k) l e within =
      header_byte t b s n (omega arith) ∙ go (ltb (length t + 1) 32) refl (header_within s (t ++ (b ∷ [])) (n + 1) k)
    where
      long : length (t ++ (b ∷ [])) ≡ length t + 1
      long = length-append t (b ∷ [])

      next : n + 1 + k ≡ n + suc k
      next = omega arith

      go : (u : Bool) → ltb (length t + 1) 32 ≡ u
          → (length (t ++ (b ∷ [])) < 32 → k ≡ min (32 - length (t ++ (b ∷ []))) (length s) → g.start + length (t ++ (b ∷ [])) + k ≤ limit
          → later (n + 1) (advance limit (going (header_at (t ++ (b ∷ [])))) s)
          ≡ proceed (n + 1 + k) (headed g (t ++ (b ∷ []) ++ take k s)) (λ next. advance limit (going next) (drop k s)))
          → proceed (n + 1) (headed g (t ++ (b ∷ []))) (λ next. advance limit (going next) s)
          ≡ proceed (n + suc k) (headed g (t ++ b ∷ take k s)) (λ next. advance limit (going next) (drop k s))
      go true q more =
          let h = ltb-true (length t + 1) 32 q in
          rw (header_open (t ++ (b ∷ [])) (omega (arith, long)), ← next, ← append_snoc t b (take k s))
          (more (omega (arith, long)) (omega (arith, long)) (omega (arith, long)))
      go false q more =
          let h = ltb-false (length t + 1) 32 q in
          let none : k ≡ 0 = omega arith in
          rw none

  pub header_past : (part t : List ℕ) → length t < 32 → g.start + length t ≤ limit
      → limit < g.start + length t + min (32 - length t) (length part)
      → advance limit (going (header_at t)) part ≡ refusing 1 0
  header_past [] t l within past = absurd (omega arith)
  header_past (b ∷ s) t l within past = go (leb limit (g.start + length t)) refl (header_past s (t ++ (b ∷ [])))
    where
      long : length (t ++ (b ∷ [])) ≡ length t + 1
      long = length-append t (b ∷ [])

      go : (u : Bool) → leb limit (g.start + length t) ≡ u
          → (length (t ++ (b ∷ [])) < 32 → g.start + length (t ++ (b ∷ [])) ≤ limit
          → limit < g.start + length (t ++ (b ∷ [])) + min (32 - length (t ++ (b ∷ []))) (length s)
          → advance limit (going (header_at (t ++ (b ∷ [])))) s ≡ refusing 1 0)
          → advance limit (going (header_at t)) (b ∷ s) ≡ refusing 1 0
      go true e more = header_refused_lem t b s (leb-true limit (g.start + length t) e)
      go false e more =
          let below = leb-false limit (g.start + length t) e in
          header_one t b s below
          ∙ rw (header_open (t ++ (b ∷ [])) (omega (arith, long))) (ap (later 1) (more (omega (arith, long)) (omega (arith, long)) (omega (arith, long))))
