-- What the tests of the code say of the rules for a bucket and of a composite text.
use Prim.Native.Nat.{ℕ, ◌+◌, ◌-◌, ◌<◌, ◌≤◌}
use mathlib.Core.Path.{◌≡◌, refl, ap, sym, ◌∙◌}
use mathlib.Core.Bool.{Bool, true, false, cond, not, and-false, true≢false}
use mathlib.Core.List.{List}
use Rattle.std.specs.Prelude.{None, Some}
use native.Mathlib.Omega.{arith}
use borrow.Author.Tests.{eq-eqb, ne_eqb, le-leb, lt-leb}
use lib.Dec.{eqb, leb}
use lib.ListN.{length, get_or, take, drop, length-drop, get_or-eq_default}
use lib.Seq.{take_all, drop-drop}
use Rattle.slices.specs.Lists.{part_to_end}
use Rattle.identifier.specs.Texts.{member, before, before_take, before_none, before_member, before_length}
use Rattle.identifier.specs.Identity.{slash, sized, is_bucket, identity, is_valid}
use Rattle.identifier.specs.Composite.{colon, is_composite, bucket_in, object_in, slash_in, composite}

-- ---- a bucket

module _ (s : List ℕ) where
  pub bucket_empty : length s ≡ 0 → false ≡ is_bucket s
  unfolding is_bucket sized
  bucket_empty h = let z : length s < 1 = omega arith in rw (lt-leb 1 (length s) z)

  pub bucket_long : 63 < length s → false ≡ is_bucket s
  unfolding is_bucket sized
  bucket_long h = rw (lt-leb (length s) 63 h, and-false (leb 1 (length s)))

  -- all of a text stands before its first x when it holds none
  whole_before : (x n : ℕ) → n ≡ length (before x s) → eqb n (length s) ≡ not (member x s)
  whole_before x n e = go (member x s) refl
    where
      go : (t : Bool) → member x s ≡ t → eqb n (length s) ≡ not t
      go false f = eq-eqb n (length s) (e ∙ ap length (before_none x s f))
      go true f = ne_eqb n (length s) λ w. true≢false (sym f ∙ ap (member x) (sym (whole w)) ∙ before_member x s)
        where
          whole : n ≡ length s → before x s ≡ s
          whole w = sym (before_take x s) ∙ take_all (length (before x s)) s (omega arith)

  pub bucket_counted : (n : ℕ) → n ≡ length (before slash s) → 1 ≤ length s → length s ≤ 63 → eqb n (length s) ≡ is_bucket s
  unfolding is_bucket sized
  bucket_counted n e a b = whole_before slash n e ∙ rw (le-leb 1 (length s) a, le-leb (length s) 63 b)

-- ---- a composite text

module _ (t : List ℕ) where
  refused : is_composite t ≡ false → None ≡ slash_in t
  unfolding slash_in
  refused e = rw e

  pub split_short : length t ≤ 26 → None ≡ slash_in t
  unfolding is_composite
  split_short h = refused (rw (get_or-eq_default t 0 h))

  pub split_colon : (get_or t 26 0 ≡ colon → ⊥) → None ≡ slash_in t
  unfolding is_composite
  split_colon n = refused (rw (ne_eqb (get_or t 26 0) colon n))

  module _ (n : ℕ) (is : n ≡ length (before slash (take (length t - 27) (drop 27 t)))) where
    bucket_length : n ≡ length (bucket_in t)
    unfolding bucket_in
    bucket_length = is ∙ ap (λ s. length (before slash s)) (part_to_end 27 t)

    -- the place of the slash is no further than the end
    pub counted : n ≤ length t - 27
    unfolding bucket_in
    counted =
        omega (arith, bucket_length, length-drop 27 t, before_length slash (drop 27 t))

    pub split_slash : length t ≤ 27 + n → None ≡ slash_in t
    split_slash h = refused (go (is_composite t) refl)
      where
        go : (b : Bool) → is_composite t ≡ b → is_composite t ≡ false
        go false e = e
        go true e = absurd (omega (arith, (composite t e).inside, bucket_length))

    -- the three parts, as the code cuts them, are tested
    pub split_tested : (ok b : Bool) → get_or t 26 0 ≡ colon → ok ≡ b
        → ok ≡ is_valid (identity (take 26 t) (take (27 + n - 27) (drop 27 t)) (take (length t - (27 + n + 1)) (drop (27 + n + 1) t)))
        → cond b (Some (27 + n)) None ≡ slash_in t
    unfolding slash_in is_composite bucket_in object_in
    split_tested ok b x w e =
        let k : 27 + n - 27 ≡ length (before slash (drop 27 t)) = omega (arith, bucket_length) in
        let m : 27 + n + 1 ≡ 27 + (length (before slash (drop 27 t)) + 1) = omega (arith, bucket_length) in
        let o : drop (27 + n + 1) t ≡ drop (length (before slash (drop 27 t)) + 1) (drop 27 t) = ap (λ l. drop l t) m ∙ sym (drop-drop (length (before slash (drop 27 t)) + 1) 27 t) in
        let f : is_valid (identity (take 26 t) (take (27 + n - 27) (drop 27 t)) (take (length t - (27 + n + 1)) (drop (27 + n + 1) t))) ≡ is_valid (identity (take 26 t) (before slash (drop 27 t)) (drop (length (before slash (drop 27 t)) + 1) (drop 27 t)))
        = rw (part_to_end (27 + n + 1) t, o, k, before_take slash (drop 27 t)) in
        rw (sym w, e, f, eq-eqb (get_or t 26 0) colon x, bucket_length)
