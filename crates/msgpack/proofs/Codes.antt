-- The code of the key at a place; and where a code stands among those asked for.
use Prim.Native.Nat.{ℕ, suc, ◌+◌, ◌*◌, ◌%◌, ◌^◌, ◌≤◌, ◌<◌}
use mathlib.Core.Bool.{Bool, true, false, cond}
use mathlib.Core.List.{List, [], ◌∷◌}
use Rattle.std.specs.Prelude.{None, Some}
use mathlib.Core.Path.{◌≡◌, refl}
use native.Mathlib.Nat.{pow-le-pow_right}
use native.Mathlib.Omega.{arith}
use borrow.Author.Tests.{eq-eqb, ne_eqb, le-leb, lt-leb, leb-true, leb-false}
use lib.Dec.{leb, ltb, eqb, lit<}
use Rattle.std.proofs.Common.{rules, tests}
use Rattle.std.proofs.lemmas.Bool.{ltb-false}
use Rattle.std.proofs.lemmas.List.Recursion.{is_position_or_len}
use Rattle.std.specs.List.{position_or_len}
use Rattle.std.specs.Option.{unwrap_or}
use lib.ListN.{length, take, drop, length-drop}
use lib.Seq.{drop-drop, length-take-le}
use Rattle.slices.specs.Bytes.{AllBytes}
use Rattle.slices.specs.Logic.{absurd_numbers}
use Rattle.slices.specs.Tables.{agree}
use Rattle.endian.specs.Numbers.{big}
use Rattle.endian.specs.Places.{number_at, number_there}
use Rattle.msgpack.specs.Formats.{unused_kind, text_kind}
use Rattle.msgpack.specs.Items.{Head, head_of}
use Rattle.msgpack.specs.Readers.{is_whole, content_at}
use Rattle.msgpack.specs.Pairs.{code_of, other_code, code_at, position}
use Rattle.msgpack.specs.HeadLaws.{number_read, read_small}
use Rattle.msgpack.specs.Passages.{head_inside}

-- ---- by the key's head

module _ (t : List ℕ) (h : Head) (e : h ≡ head_of t) where
  pub code_not_text : (h.kind ≡ text_kind → ⊥) → other_code ≡ code_at t
  unfolding code_at content_at is_whole
  code_not_text n = rw (← e, ne_eqb _ _ n)

  code_cut : h.kind ≡ text_kind → length t < h.size + h.count → other_code ≡ code_at t
  unfolding code_at content_at is_whole
  code_cut k l = rw (← e, eq-eqb _ _ k, lt-leb _ _ l)

  pub code_long : h.kind ≡ text_kind → 3 < h.count → other_code ≡ code_at t
  unfolding code_at content_at is_whole
  code_long k l = by (leb (h.size + h.count) (length t)) refl
    where
      by : (b : Bool) → leb (h.size + h.count) (length t) ≡ b → other_code ≡ code_at t
      by true f = rw (← e, eq-eqb _ _ k, f, lt-leb _ _ l)
      by false f = rw (← e, eq-eqb _ _ k, f)

  code_short : h.kind ≡ text_kind → h.count ≤ 3 → h.size + h.count ≤ length t → 256 ^ h.count + big (take h.count (drop h.size t)) ≡ code_at t
  unfolding code_at content_at is_whole code_of
  code_short k l f =
      let n : length (take h.count (drop h.size t)) ≡ h.count = length-take-le h.count (drop h.size t) (omega (arith, length-drop h.size t)) in
      rw (← e, eq-eqb _ _ k, le-leb _ _ f, le-leb _ _ l, n)

number_unread : (order : List ℕ → ℕ) (s : List ℕ) (at w : ℕ) → w ≤ 8 → number_at order s at w ≡ None → length s < at + w
number_unread order s at w n e = by (leb (at + w) (length s)) refl
  where
    by : (b : Bool) → leb (at + w) (length s) ≡ b → length s < at + w
    by true f = absurd_numbers (cc (number_there order s at w (record { narrow = n; inside = leb-true _ _ f })))
    by false f = leb-false _ _ f

-- ---- at a place of s, with a head that is a text's

module _ (s : List ℕ) (at : ℕ) (h : Head) (e : h ≡ head_of (drop at s)) (k : h.kind ≡ text_kind) where
  pub text_inside : at + h.size ≤ length s
  text_inside = head_inside at s h e (λ (u : h.kind ≡ unused_kind). omega arith)

  module _ (short : h.count ≤ 3) where
    pub code_read : (n : ℕ) → number_at big s (at + h.size) h.count ≡ Some n → 256 ^ h.count + n ≡ code_at (drop at s)
    code_read n q =
        let r = number_read big s (at + h.size) h.count n q in
        let i = r.within.inside in
        rw (r.is, ← drop-drop h.size at s) (code_short (drop at s) h e k short (omega (arith, length-drop at s)))

    pub code_unread : number_at big s (at + h.size) h.count ≡ None → other_code ≡ code_at (drop at s)
    code_unread q = code_cut (drop at s) h e k (omega (arith, text_inside, number_unread big s (at + h.size) h.count (omega arith) q, length-drop at s))

pub code_fits : (s : List ℕ) (at w n : ℕ) → AllBytes s → w ≤ 3 → number_at big s at w ≡ Some n → n < 2 ^ 32
code_fits s at w n bytes h q = read_small s at w n bytes (omega arith) (number_read big s at w n q)

-- a 1 before so many bytes
pub power_is : (w : ℕ) → w ≤ 3 → 1 * 2 ^ (8 * w) % 18446744073709551616 ≡ 256 ^ w
power_is w h = agree (λ k. 1 * 2 ^ (8 * k) % 18446744073709551616) (λ k. 256 ^ k) 4 refl w (omega arith)

pub power_fits : (n : ℕ) → n ≤ 3 → 256 ^ n ≤ 2 ^ 24
power_fits n h = pow-le-pow_right {n = 256} (lit< tt) h

-- ---- where a code stands

module _ (code : ℕ) where
  abbrev pub at_key : ℕ → Bool
  at_key key = eqb key code

  position_is : (keys : List ℕ) → position keys code ≡ position_or_len at_key keys
  unfolding position
  position_is = is_position_or_len (λ keys. position keys code) at_key refl (λ x keys. search (rules, tests))

  position_small : (keys : List ℕ) → position keys code ≤ length keys
  unfolding position
  position_small [] = omega arith
  position_small (k ∷ keys) = by (eqb k code) (position_small keys)
    where
      by : (t : Bool) → position keys code ≤ length keys → cond t 0 (suc (position keys code)) ≤ suc (length keys)
      by true l = omega arith
      by false l = omega arith

  -- where it stands, or else the number of the keys
  pub position_told : (keys : List ℕ) (n : ℕ) → n ≡ length keys
      → unwrap_or (cond (ltb (position_or_len at_key keys) (length keys)) (Some (position_or_len at_key keys)) None) n ≡ position keys code
  position_told keys n e = rw (← position_is keys, e) (by (ltb (position keys code) (length keys)) refl)
    where
      by : (t : Bool) → ltb (position keys code) (length keys) ≡ t → unwrap_or (cond t (Some (position keys code)) None) (length keys) ≡ position keys code
      by true l = refl
      by false l = let u = position_small keys in omega (arith, ltb-false _ _ l)
