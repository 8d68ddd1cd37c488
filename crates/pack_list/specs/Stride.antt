-- The stride, said without a computation: the least number with which the blocks of every entry that is counted hold its source range.
use Rattle.std.specs.Prelude.{ℕ, zero, suc, ◌+◌, ◌-◌, ◌*◌, ◌≤◌, ◌<◌, Bool, true, false, cond, ◌&&◌, ◌↔◌, ◌≡◌, refl, ltb, leb}
use mathlib.Core.List.Memᴰ
use mathlib.Core.List.{List, [], ◌∷◌, Memᴰ}
use Rattle.std.proofs.Common.{⊎_elim, sym, subst, div-lt_iff_lt-mul, arith, ltb-true, lt-ltb, leb-true, leb-false, le-leb}
use Rattle.slices.specs.Logic.{clash, both}
use Rattle.pack_list.specs.Lists.{Entry, greatest}
use Rattle.pack_list.specs.Blocks.{blocks, gains, losses, is_counted, ceiling, stride_for, larger, stride}

-- ---- an entry that has a block, and whose sums are within 64 bits

pub record Counted (e : Entry) : Type 0 where
  pub some_block : 0 < blocks e
  pub gained : gains e ≤ greatest
  pub lost : e.source.len + losses e ≤ greatest

pub counted_is : (e : Entry) → is_counted e ≡ true → Counted e
unfolding is_counted
counted_is e c =
    let b = both (ltb 0 (blocks e)) (leb (gains e) greatest && leb (e.source.len + losses e) greatest) c in
    let h = both (leb (gains e) greatest) (leb (e.source.len + losses e) greatest) b.1 in
    record { some_block = ltb-true 0 (blocks e) b.0; gained = leb-true (gains e) greatest h.0; lost = leb-true (e.source.len + losses e) greatest h.1 }

pub is_counted_lem : (e : Entry) → Counted e → is_counted e ≡ true
unfolding is_counted
is_counted_lem e c = rw (lt-ltb 0 (blocks e) c.some_block, le-leb (gains e) greatest c.gained, le-leb (e.source.len + losses e) greatest c.lost)

pub counted_exactly : (e : Entry) → is_counted e ≡ true ↔ Counted e
counted_exactly e = (counted_is e, is_counted_lem e)

-- ---- the stride is the least with which the blocks of every entry that is counted hold its source range

-- so many bytes a block, and the deltas, are enough
abbrev pub Enough : ℕ → Entry → Type 0
Enough s e = e.source.len + losses e ≤ blocks e * s + gains e

ceiling_least : (a n s : ℕ) → ceiling a n ≤ s ↔ a ≤ suc n * s
unfolding ceiling
ceiling_least zero n s = (λ h. omega arith, λ h. omega arith)
ceiling_least (suc a) n s = (
  λ h. let g : a < s * suc n = (div-lt_iff_lt-mul {k = suc n} (omega arith)).0 h in omega arith,
  λ h. (div-lt_iff_lt-mul {k = suc n} (omega arith)).1 (omega arith),
)

stride_for_least : (e : Entry) (s : ℕ) → 0 < blocks e → stride_for e ≤ s ↔ Enough s e
unfolding stride_for
stride_for_least e s some_block =
    let all : suc (blocks e - 1) ≡ blocks e = omega arith in
    let c = rw all at (ceiling_least (e.source.len + losses e - gains e) (blocks e - 1) s) in
    (λ h. let g = c.0 h in omega arith, λ h. c.1 (omega arith))

larger_least : (m n s : ℕ) → larger m n ≤ s ↔ ((m ≤ s) × (n ≤ s))
larger_least m n s = go (leb m n) refl
  where
    go : (t : Bool) → leb m n ≡ t → cond t n m ≤ s ↔ ((m ≤ s) × (n ≤ s))
    go true e = let le = leb-true m n e in (λ h. (omega arith, h), λ h. h.1)
    go false e = let le = leb-false m n e in (λ h. (h, omega arith), λ h. h.0)

pub stride_least : (es : List Entry) (s : ℕ) → stride es ≤ s ↔ ((e : Entry) → Memᴰ e es → Counted e → Enough s e)
unfolding stride
stride_least [] s = (λ h e m. absurd (Memᴰ.not-nil m), λ h. omega arith)
stride_least (e ∷ es) s = go (stride_least es s) (is_counted e) refl
  where
    go : stride es ≤ s ↔ ((f : Entry) → Memᴰ f es → Counted f → Enough s f) → (t : Bool) → is_counted e ≡ t
        → larger (cond t (stride_for e) 0) (stride es) ≤ s ↔ ((f : Entry) → Memᴰ f (e ∷ es) → Counted f → Enough s f)
    go rest true c = (
      λ h f m k.
          let g = (larger_least (stride_for e) (stride es) s).0 h in
          ⊎_elim (λ same. subst (Enough s) (sym same) ((stride_for_least e s (counted_is e c).some_block).0 g.0)) (λ n. rest.0 g.1 f n k) (Memᴰ.cases_cons m),
      λ h.
          (larger_least (stride_for e) (stride es) s).1
          ((stride_for_least e s (counted_is e c).some_block).1 (h e (Memᴰ.head refl) (counted_is e c)), rest.1 (λ f m k. h f (Memᴰ.tail m) k)),
    )
    go rest false c = (
      λ h f m k.
          let g = (larger_least 0 (stride es) s).0 h in
          ⊎_elim (λ same. clash (is_counted_lem e (subst Counted same k)) c) (λ n. rest.0 g.1 f n k) (Memᴰ.cases_cons m),
      λ h. (larger_least 0 (stride es) s).1 (omega arith, rest.1 (λ f m k. h f (Memᴰ.tail m) k)),
    )
