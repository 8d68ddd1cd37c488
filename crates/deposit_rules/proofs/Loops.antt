-- What the definitions come to at the next element, by the test that the code makes there, and at the end. The loops go by these.
use Prim.Native.Nat.{ℕ, suc, ◌+◌, ◌-◌, ◌<◌, ◌≤◌}
use mathlib.Core.Bool.{Bool, true, false, ◌&&◌}
use mathlib.Core.List.{List, [], ◌∷◌, map}
use Rattle.std.specs.Prelude.{None, Result, Ok, Err}
use mathlib.Core.Path.{◌≡◌, refl, sym, ap, ◌∙◌}
use native.Mathlib.Numerals.{add-one}
use native.Mathlib.Omega.{arith}
use borrow.Author.Tests.{eq-eqb, ne_eqb, eqb-true, eqb-false}
use lib.Dec.{eqb}
use Rattle.std.specs.List.{list_any}
use lib.ListN.{length, get_or, drop, drop_of_length-le}
use lib.Seq.{drop-cons}
use Rattle.slices.specs.Logic.{absurd_numbers}
use Rattle.slices.specs.Bytes.{AllBytes, drop_bytes}
use Rattle.msgpack.specs.Items.{Passage, whole, cut, too_deep, pass_item}
use Rattle.msgpack.specs.Pairs.{code_of, code_at, whole_pair, if_passed, inside_allowed, pair_at, pair_of}
use Rattle.msgpack.specs.Views.{text_at}
use Rattle.msgpack.specs.declared.Pair.{Pair}
use Rattle.msgpack.specs.declared.Fault.{Fault}
use Rattle.msgpack.specs.declared.Fault.TheVariants.{Cut, TooDeep}
use Rattle.deposit_rules.specs.Keys.{Key, keys_from, is_one_of, are_among}
use Rattle.deposit_rules.specs.Codes.{Coded, is_listed, listed_tells}
use Rattle.deposit_rules.specs.Buckets.{dot, is_name_byte, are_name_bytes}

-- ---- a code in a list

eqb_sym : (a b : ℕ) → eqb a b ≡ eqb b a
eqb_sym a b = by (eqb a b) refl
  where
    by : (e : Bool) → eqb a b ≡ e → e ≡ eqb b a
    by true e = sym (eq-eqb b a (sym (eqb-true a b e)))
    by false e = sym (ne_eqb b a (λ q. eqb-false a b e (sym q)))

-- a code in a list
pub listed_any : (codes : List ℕ) (code : ℕ) → list_any (λ y. eqb y code) codes ≡ is_listed codes code
unfolding is_listed
listed_any [] code = refl
listed_any (c ∷ codes) code = rw (eqb_sym c code, listed_any codes code)

-- ---- the bytes of a name

module _ (t : List ℕ) (after : Bool) (k : ℕ) where
  pub name_fails : k < length t → is_name_byte (get_or t k 0) ≡ false → are_name_bytes after (drop k t) ≡ false
  unfolding are_name_bytes
  name_fails h e = rw (drop-cons t k 0 h, e)

  pub name_dots : k < length t → after ≡ true → get_or t k 0 ≡ dot → are_name_bytes after (drop k t) ≡ false
  unfolding are_name_bytes
  name_dots h a e = rw (drop-cons t k 0 h, a, eq-eqb (get_or t k 0) dot e) (and_no (is_name_byte (get_or t k 0)))
    where
      and_no : (b : Bool) → (b && false) ≡ false
      and_no true = refl
      and_no false = refl

  pub name_on : k < length t → is_name_byte (get_or t k 0) ≡ true → (after && eqb (get_or t k 0) dot) ≡ false
      → are_name_bytes after (drop k t) ≡ are_name_bytes (eqb (get_or t k 0) dot) (drop (k + 1) t)
  unfolding are_name_bytes
  name_on h e d = rw (drop-cons t k 0 h, e, d, add-one)

  pub name_end : length t ≤ k → are_name_bytes after (drop k t) ≡ true
  unfolding are_name_bytes
  name_end h = rw (drop_of_length-le t h)

-- ---- the pair at a place

-- its code is that of its key
pub whole_code : (s : List ℕ) (at code value next : ℕ) → whole_pair code value next ≡ pair_at s at → code ≡ code_at (drop at s)
unfolding pair_at
whole_code s at code value next e = by (pass_item inside_allowed (drop at s)) e
  where
    by_value_lem : (k : ℕ) (r : Passage) → whole_pair code value next ≡ if_passed r (λ m. whole_pair (code_at (drop at s)) (at + k) (at + k + m)) → code ≡ code_at (drop at s)
    by_value_lem k (whole m) e = cc
    by_value_lem k cut e = absurd_numbers (cc)
    by_value_lem k too_deep e = absurd_numbers (cc)

    by : (r : Passage)
        → whole_pair code value next ≡ if_passed r (λ k. if_passed (pass_item inside_allowed (drop (at + k) s)) λ m. whole_pair (code_at (drop at s)) (at + k) (at + k + m))
        → code ≡ code_at (drop at s)
    by (whole k) e = by_value_lem k (pass_item inside_allowed (drop (at + k) s)) e
    by cut e = absurd_numbers (cc)
    by too_deep e = absurd_numbers (cc)

module _ (s : List ℕ) (at left : ℕ) (more : 0 < left) where
  one_more : left ≡ suc (left - 1)
  one_more = omega arith

  pub keys_on : (code value next : ℕ) → whole_pair code value next ≡ pair_at s at → keys_from left s at ≡ text_at (drop at s) ∷ keys_from (left - 1) s next
  unfolding keys_from
  keys_on code value next e = ap (λ n. keys_from n s at) one_more ∙ rw (← e)

  -- an answer that is not `Ok`
  pub keys_broken : (r : Result Pair Fault) → pair_of r ≡ pair_at s at → ((p : Pair) → r ≡ Ok p → ⊥) → keys_from left s at ≡ None ∷ []
  unfolding keys_from
  keys_broken (Ok p) e k = absurd (k p refl)
  keys_broken (Err Cut) e k = ap (λ n. keys_from n s at) one_more ∙ rw (← e)
  keys_broken (Err TooDeep) e k = ap (λ n. keys_from n s at) one_more ∙ rw (← e)

pub none_of : (texts : List (List ℕ)) → is_one_of texts None ≡ false
unfolding is_one_of
none_of [] = refl
none_of (text ∷ texts) = none_of texts

-- ---- keys among texts, told by codes

pub record AmongFrom (codes : List ℕ) (all rest : List Key) : Type 0 where
  pub same : (texts : List (List ℕ)) → Coded texts codes → are_among texts all ≡ are_among texts rest

module _ (codes s : List ℕ) (bytes : AllBytes s) (all : List Key) (at left : ℕ) (more : 0 < left) (so_far : AmongFrom codes all (keys_from left s at)) where
  pub among_broken : (r : Result Pair Fault) → pair_of r ≡ pair_at s at → ((p : Pair) → r ≡ Ok p → ⊥)
      → (texts : List (List ℕ)) → Coded texts codes → false ≡ are_among texts all
  unfolding are_among
  among_broken r e k texts c = sym (so_far.same texts c ∙ ap (are_among texts) (keys_broken s at left more r e k) ∙ rw (none_of texts))

  module _ (code value next : ℕ) (e : whole_pair code value next ≡ pair_at s at) where
    tells : (texts : List (List ℕ)) → Coded texts codes → is_one_of texts (text_at (drop at s)) ≡ is_listed codes code
    tells texts c =
        sym (listed_tells texts (drop at s) c.short (drop_bytes at bytes))
        ∙ ap (is_listed (map code_of texts)) (sym (whole_code s at code value next e)) ∙ ap (λ cs. is_listed cs code) (sym c.is)

    pub among_fails : is_listed codes code ≡ false → (texts : List (List ℕ)) → Coded texts codes → false ≡ are_among texts all
    unfolding are_among
    among_fails n texts c = sym (so_far.same texts c ∙ ap (are_among texts) (keys_on s at left more code value next e) ∙ rw (tells texts c, n))

    pub among_on : is_listed codes code ≡ true → AmongFrom codes all (keys_from (left - 1) s next)
    unfolding are_among
    among_on y = record {
      same = λ texts c. so_far.same texts c ∙ ap (are_among texts) (keys_on s at left more code value next e) ∙ rw (tells texts c, y);
    }

pub among_all : (codes s : List ℕ) (all : List Key) (at left : ℕ) → left ≡ 0 → AmongFrom codes all (keys_from left s at)
    → (texts : List (List ℕ)) → Coded texts codes → true ≡ are_among texts all
unfolding are_among keys_from
among_all codes s all at left z so_far texts c = sym (so_far.same texts c ∙ rw z)
