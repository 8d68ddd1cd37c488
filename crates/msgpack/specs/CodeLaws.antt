-- Laws of the codes of keys: a code tells a short key apart from every other key, and so does where the code stands among those asked for.
use Rattle.std.specs.Prelude.{ℕ, suc, ◌+◌, ◌^◌, ◌≤◌, ◌<◌, Bool, true, false, cond, List, [], ◌∷◌, ◌≡◌, leb, ltb, eqb, length, drop}
use Rattle.std.specs.Prelude.{Option, None, Some}
use Rattle.std.proofs.Math.Path.{refl}
use Rattle.std.proofs.Common.{sym, ap, ◌∙◌, pow-suc, arith, eq-eqb, ne_eqb, leb-false, eqb-true, ltb-true, ltb-false, lit<, length-drop, length-take-le}
use Rattle.std.proofs.Math.Nat.{pow-le-pow_right}
use Rattle.slices.specs.Bytes.{AllBytes, take_bytes, drop_bytes, same_bytes, same_bytes_equal, same_bytes_refl}
use Rattle.endian.specs.Numbers.{little, big, big_lt, big_bytes, bytes_of_big}
use Rattle.msgpack.specs.Formats.{text_kind}
use Rattle.msgpack.specs.Readers.{Part, content, content_at}
use Rattle.msgpack.specs.ReaderLaws.{part_inside}
use Rattle.msgpack.specs.Lookup.{content_is, key_at}
use Rattle.msgpack.specs.Pairs.{code_of, other_code, code_of_part, code_at, position, keys_asked, Asked, is_asked}

-- ---- codes tell texts apart

code_bound : (a : List ℕ) → AllBytes a → code_of a < 256 ^ suc (length a)
unfolding code_of
code_bound a h = let l = big_lt a h in rw pow-suc (omega arith)

at_least : (b : List ℕ) → 256 ^ length b ≤ code_of b
unfolding code_of
at_least b = omega arith

longer : (a b : List ℕ) → AllBytes a → length a < length b → code_of a < code_of b
longer a b h l =
    let x = code_bound a h in
    let y : 256 ^ suc (length a) ≤ 256 ^ length b = pow-le-pow_right {n = 256} (lit< tt) l in
    let z : 256 ^ length b ≤ code_of b = at_least b in
    omega arith

code_injective : (a b : List ℕ) → AllBytes a → AllBytes b → code_of a ≡ code_of b → a ≡ b
unfolding code_of
code_injective a b h g e = by (ltb (length a) (length b)) (ltb (length b) (length a)) refl refl
  where
    by : (t u : Bool) → ltb (length a) (length b) ≡ t → ltb (length b) (length a) ≡ u → a ≡ b
    by true u p q = let x = longer a b h (ltb-true _ _ p) in absurd (omega arith)
    by false true p q = let x = longer b a g (ltb-true _ _ q) in absurd (omega arith)
    by false false p q =
        let l : length a ≡ length b = omega (arith, ltb-false (length a) (length b) p, ltb-false (length b) (length a) q) in
        let w : 256 ^ length a ≡ 256 ^ length b = ap (λ (n : ℕ). 256 ^ n) l in
        let n : big a ≡ big b = omega arith in
        sym (bytes_of_big a h) ∙ ap (λ (n : ℕ). big_bytes n (big a)) l ∙ ap (big_bytes (length b)) n ∙ bytes_of_big b g

-- the code of a short key is no other key's
short_code : (key : List ℕ) → AllBytes key → length key ≤ 3 → code_of key < other_code
unfolding code_of
short_code key h l =
    let x = big_lt key h in
    let y : 256 ^ length key ≤ 256 ^ 3 = pow-le-pow_right {n = 256} (lit< tt) {j = 3} l in
    omega arith

-- two tests that hold together
same_test : (a b : Bool) → (a ≡ true → b ≡ true) → (b ≡ true → a ≡ true) → a ≡ b
same_test true b f g = sym (f refl)
same_test false true f g = g refl
same_test false false f g = refl

module _ (key : List ℕ) (bytes : AllBytes key) (short : length key ≤ 3) where
  by_content : (t : List ℕ) (r : Option Part) → content_at text_kind t ≡ r → AllBytes t → eqb (code_of_part t r) (code_of key) ≡ content_is key t r
  by_content t None e b = let s = short_code key bytes short in ne_eqb _ _ (λ (q : other_code ≡ code_of key). omega arith)
  by_content t (Some p) e b = by (leb p.size 3) refl
    where
      inside : p.start + p.size ≤ length t
      inside = part_inside text_kind t p e

      size : length (content t p) ≡ p.size
      size = length-take-le p.size (drop p.start t) (omega (arith, inside, length-drop p.start t))

      there : AllBytes (content t p)
      there = take_bytes p.size (drop p.start t) (drop_bytes p.start b)

      by : (l : Bool) → leb p.size 3 ≡ l → eqb (cond l (code_of (content t p)) other_code) (code_of key) ≡ same_bytes (content t p) key
      by true l =
          same_test _ _ (λ q. let c : content t p ≡ key = code_injective _ _ there bytes (eqb-true _ _ q) in rw c (same_bytes_refl key))
          (λ q. eq-eqb _ _ (ap code_of (same_bytes_equal _ _ q)))
      by false l =
          same_test _ _ (λ q. let s = short_code key bytes short in absurd (omega (arith, eqb-true other_code (code_of key) q)))
          (λ q. absurd (omega (arith, ap length (same_bytes_equal (content t p) key q), size, leb-false p.size 3 l)))

  -- the key stands at the front where its code does
  pub code_is_key : (t : List ℕ) → AllBytes t → eqb (code_at t) (code_of key) ≡ key_at key t
  unfolding code_at key_at
  code_is_key t b = by_content t (content_at text_kind t) refl b

-- ---- places among the codes asked for tell these codes apart

position_injective : (keys : List ℕ) (a b : ℕ) → position keys b < length keys → position keys a ≡ position keys b → a ≡ b
unfolding position
position_injective [] a b h e = absurd (omega arith)
position_injective (k ∷ keys) a b h e = by (position_injective keys a b) (eqb k a) (eqb k b) refl refl h e
  where
    by : (position keys b < length keys → position keys a ≡ position keys b → a ≡ b) → (t u : Bool) → eqb k a ≡ t → eqb k b ≡ u
        → cond u 0 (suc (position keys b)) < suc (length keys) → cond t 0 (suc (position keys a)) ≡ cond u 0 (suc (position keys b)) → a ≡ b
    by on true true p q l r = sym (eqb-true _ _ p) ∙ eqb-true _ _ q
    by on true false p q l r = absurd (omega arith)
    by on false true p q l r = absurd (omega arith)
    by on false false p q l r = on (omega arith) (omega arith)

-- so a key that is asked for stands at the front where the code there has its place
pub asked_is_key : (keys key : List ℕ) → length keys ≡ keys_asked → Asked keys key
    → (t : List ℕ) → AllBytes t → is_asked keys (position keys (code_of key)) t ≡ key_at key t
asked_is_key keys key eight k t b =
    let h : position keys (code_of key) < length keys = omega (arith, k.listed) in
    same_test _ _ (λ q. eq-eqb _ _ (position_injective keys (code_at t) (code_of key) h (eqb-true _ _ q))) (λ q. eq-eqb _ _ (ap (position keys) (eqb-true _ _ q)))
    ∙ code_is_key key k.bytes k.short t b

-- ---- examples: the code of `v`, and where that of `???` stands among those of a version delete's keys

code_of_v : code_of (0x76 ∷ []) ≡ 0x176
unfolding code_of big little
code_of_v = refl

place_of_delete_id : position (0x176 ∷ 0x162 ∷ 0x16f ∷ 0x13f3f3f ∷ 0 ∷ 0 ∷ 0 ∷ 0 ∷ []) (code_of (0x3f ∷ 0x3f ∷ 0x3f ∷ [])) ≡ 3
unfolding position code_of big little
place_of_delete_id = refl
