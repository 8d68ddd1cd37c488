-- Keys that are texts in their order, told by codes; and what stands under one key of a map.
use Prim.Native.Nat.{ℕ, zero, suc, ◌+◌, ◌-◌, ◌<◌, ◌≤◌}
use mathlib.Core.Bool.{Bool, true, false, ◌&&◌}
use mathlib.Core.List.{List, [], ◌∷◌, map}
use mathlib.Core.Logic.{◌⊎◌, inl, inr, ⊎_elim}
use Rattle.std.specs.Prelude.{Option, None, Some, is_some, Result, Ok}
use mathlib.Core.Path.{◌≡◌, refl, sym, ap, ◌∙◌}
use native.Mathlib.Omega.{arith}
use borrow.Author.Tests.{eq-eqb, ne_eqb}
use lib.Dec.{eqb}
use lib.ListN.{length, get_or, drop, drop_of_length-le}
use Rattle.slices.specs.Logic.{absurd_numbers, both}
use Rattle.slices.specs.Bytes.{AllBytes, drop_bytes}
use Rattle.endian.specs.Numbers.{little, big}
use Rattle.msgpack.specs.Items.{pass_over}
use Rattle.msgpack.specs.Lookup.{found, missing, broken, if_whole, last_value}
use Rattle.msgpack.specs.Pairs.{code_of, position, PairPassage, whole_pair, cut_pair, deep_pair, pair_at, pair_of, place_in, PairsRead}
use Rattle.msgpack.specs.PairLaws.{letter_asked, told_found}
use Rattle.msgpack.specs.Readers.{counted, read_array, read_text, part_of}
use Rattle.msgpack.specs.Views.{text_at, items_from, front_of}
use Rattle.msgpack.specs.declared.Pair.{Pair}
use Rattle.msgpack.specs.declared.Content.{Content}
use Rattle.msgpack.specs.declared.Fault.{Fault}
use Rattle.msgpack.specs.declared.Pairs.{Pairs}
use Rattle.identifier.specs.Texts.{all}
use Rattle.value.specs.Header.{secondary_key, length_key}
use Rattle.primary.specs.Parts.{identifier_key}
use Rattle.deposit_rules.specs.Keys.{Key, if_pair, keys_from, keys_of, key_is, are_these}
use Rattle.deposit_rules.specs.Codes.{is_short_text, are_short_texts, Coded, code_tells}
use Rattle.deposit_rules.specs.Blocks.{under_whole, is_one_map, has_length_alone, has_identifier_alone}
use Rattle.deposit_rules.proofs.Loops.{whole_code, keys_on, keys_broken}

pub same_number : (texts : List (List ℕ)) (codes : List ℕ) → Coded texts codes → length texts ≡ length codes
same_number texts codes c = go texts ∙ ap length (sym c.is)
  where
    go : (ts : List (List ℕ)) → length ts ≡ length (map code_of ts)
    go [] = refl
    go (t ∷ ts) = ap suc (go ts)

-- the k-th text
record Nth (texts : List (List ℕ)) (codes : List ℕ) (k : ℕ) : Type 0 where
  text : List ℕ
  split : drop k texts ≡ text ∷ drop (k + 1) texts
  short : is_short_text text ≡ true
  code : get_or codes k 0 ≡ code_of text

nth : (texts : List (List ℕ)) (codes : List ℕ) (k : ℕ) → k < length codes → Coded texts codes → Nth texts codes k
unfolding are_short_texts
nth texts codes k h c = rw c.is (go texts k (rw c.is at h) c.short)
  where
    go : (ts : List (List ℕ)) (k : ℕ) → k < length (map code_of ts) → are_short_texts ts ≡ true → Nth ts (map code_of ts) k
    go [] k h s = absurd (omega arith)
    go (t ∷ ts) zero h s = record { text = t; split = refl; short = (both (is_short_text t) (are_short_texts ts) s).0; code = refl }
    go (t ∷ ts) (suc k) h s =
        let n = go ts k (omega arith) (both (is_short_text t) (are_short_texts ts) s).1 in
        let more : suc k + 1 ≡ suc (k + 1) = omega arith in
        record { text = n.text; split = n.split ∙ rw more; short = n.short; code = n.code }

-- ---- the keys so far are the first k texts

pub record ThoseFrom (codes : List ℕ) (all : List Key) (k : ℕ) (rest : List Key) : Type 0 where
  pub same : (texts : List (List ℕ)) → Coded texts codes → are_these texts all ≡ are_these (drop k texts) rest

pub those_none : (codes s : List ℕ) (at : ℕ) → ThoseFrom codes (keys_from (length codes) s at) 0 (keys_from (length codes - 0) s at)
those_none codes s at = let n : length codes - 0 ≡ length codes = omega arith in record { same = λ texts c. rw n }

module _ (codes s : List ℕ) (bytes : AllBytes s) (all : List Key) (at k : ℕ) (inside : k < length codes)
    (so_far : ThoseFrom codes all k (keys_from (length codes - k) s at)) where
  more : 0 < length codes - k
  more = omega arith

  pub those_broken : (r : Result Pair Fault) → pair_of r ≡ pair_at s at → ((p : Pair) → r ≡ Ok p → ⊥)
      → (texts : List (List ℕ)) → Coded texts codes → false ≡ are_these texts all
  unfolding are_these
  those_broken r e o texts c =
      sym (so_far.same texts c ∙ ap (are_these (drop k texts)) (keys_broken s at (length codes - k) more r e o)
      ∙ rw (nth texts codes k inside c).split)

  module _ (code value next : ℕ) (e : whole_pair code value next ≡ pair_at s at) where
    tells : (texts : List (List ℕ)) (c : Coded texts codes) → key_is (nth texts codes k inside c).text (text_at (drop at s)) ≡ eqb code (get_or codes k 0)
    tells texts c =
        let n = nth texts codes k inside c in
        sym (code_tells n.text (drop at s) n.short (drop_bytes at bytes)) ∙ rw (← whole_code s at code value next e, ← n.code)

    first : (texts : List (List ℕ)) (c : Coded texts codes)
        → are_these texts all ≡ (eqb code (get_or codes k 0) && are_these (drop (k + 1) texts) (keys_from (length codes - k - 1) s next))
    unfolding are_these
    first texts c =
        so_far.same texts c ∙ ap (are_these (drop k texts)) (keys_on s at (length codes - k) more code value next e)
        ∙ rw ((nth texts codes k inside c).split, tells texts c)

    pub those_fail : (code ≡ get_or codes k 0 → ⊥) → (texts : List (List ℕ)) → Coded texts codes → false ≡ are_these texts all
    those_fail n texts c = sym (first texts c ∙ rw (ne_eqb code (get_or codes k 0) n))

    pub those_on : code ≡ get_or codes k 0 → ThoseFrom codes all (k + 1) (keys_from (length codes - (k + 1)) s next)
    those_on y =
        let n : length codes - k - 1 ≡ length codes - (k + 1) = omega arith in
        record { same = λ texts c. first texts c ∙ rw (eq-eqb code (get_or codes k 0) y, n) }

pub those_all : (codes s : List ℕ) (whole : List Key) (at k : ℕ) → length codes ≤ k → ThoseFrom codes whole k (keys_from (length codes - k) s at)
    → (texts : List (List ℕ)) → Coded texts codes → true ≡ are_these texts whole
unfolding are_these keys_from
those_all codes s whole at k h so_far texts c =
    let n : length codes - k ≡ 0 = omega arith in
    let m : length texts ≤ k = omega (arith, same_number texts codes c) in
    sym (so_far.same texts c ∙ rw (n, drop_of_length-le texts m))

-- another number of keys is not these
length_keys : (s : List ℕ) (texts : List (List ℕ)) (count at : ℕ) → are_these texts (keys_from count s at) ≡ true → count ≡ length texts
unfolding are_these keys_from
length_keys s [] zero at e = refl
length_keys s [] (suc n) at e = by (pair_at s at) e
  where
    by : (p : PairPassage) → are_these [] (if_pair p (None ∷ []) (λ next. text_at (drop at s) ∷ keys_from n s next)) ≡ true → suc n ≡ 0
    by (whole_pair code value next) f = absurd_numbers (cc)
    by cut_pair f = absurd_numbers (cc)
    by deep_pair f = absurd_numbers (cc)
length_keys s (t ∷ ts) zero at e = absurd_numbers (cc)
length_keys s (t ∷ ts) (suc n) at e = by (pair_at s at) e (λ next. length_keys s ts n next)
  where
    by : (p : PairPassage) → are_these (t ∷ ts) (if_pair p (None ∷ []) (λ next. text_at (drop at s) ∷ keys_from n s next)) ≡ true
        → ((next : ℕ) → are_these ts (keys_from n s next) ≡ true → n ≡ length ts) → suc n ≡ suc (length ts)
    by (whole_pair code value next) f on = ap suc (on next (both (key_is t (text_at (drop at s))) (are_these ts (keys_from n s next)) f).1)
    by cut_pair f on = absurd_numbers (cc)
    by deep_pair f on = absurd_numbers (cc)

pub not_so_many : (texts : List (List ℕ)) (count : ℕ) (s : List ℕ) (at : ℕ) → (count ≡ length texts → ⊥) → false ≡ are_these texts (keys_from count s at)
not_so_many texts count s at n = go (are_these texts (keys_from count s at)) refl
  where
    go : (b : Bool) → are_these texts (keys_from count s at) ≡ b → false ≡ b
    go true e = absurd (n (length_keys s texts count at e))
    go false e = refl

-- ---- what stands under a letter, the first of the keys asked for

module _ (s keys : List ℕ) (r : Pairs) (read : PairsRead s keys r) (b : ℕ) (byte : b < 256) (first : position keys (code_of (b ∷ [])) ≡ 0) where
  abbrev place : ℕ
  place = get_or r.places 0 0

  there : place_in r.map place ≡ if_whole (pass_over s) (λ n. last_value (b ∷ []) s)
  there = rw first at (read.place (b ∷ []) (letter_asked keys b byte (omega arith)))

  -- no place is told
  pub none_under : place ≡ 0 → (under_whole (b ∷ []) s ≡ missing) ⊎ (under_whole (b ∷ []) s ≡ broken)
  unfolding under_whole
  none_under z = by r.map refl
    where
      by : (m : Bool) → r.map ≡ m → (front_of s (if_whole (pass_over s) (λ n. last_value (b ∷ []) s)) ≡ missing)
          ⊎ (front_of s (if_whole (pass_over s) (λ n. last_value (b ∷ []) s)) ≡ broken)
      by true e = inl (rw (← there, e, z))
      by false e = inr (rw (← there, e))

  pub found_under : (place ≡ 0 → ⊥) → under_whole (b ∷ []) s ≡ found (drop place s)
  unfolding under_whole
  found_under n = by r.map refl
    where
      by : (m : Bool) → r.map ≡ m → front_of s (if_whole (pass_over s) (λ n. last_value (b ∷ []) s)) ≡ found (drop place s)
      by true e = rw (← there, e, told_found place n)
      by false e = absurd (n (read.untold e 0 (omega arith)))

-- ---- a block's two maps

abbrev pub secondary_codes : List ℕ
secondary_codes = 0x173 ∷ 0 ∷ 0 ∷ 0 ∷ 0 ∷ 0 ∷ 0 ∷ 0 ∷ []

abbrev pub identifier_codes : List ℕ
identifier_codes = 0x149 ∷ 0 ∷ 0 ∷ 0 ∷ 0 ∷ 0 ∷ 0 ∷ 0 ∷ []

pub length_coded : Coded (length_key ∷ []) (0x16c ∷ [])
unfolding are_short_texts is_short_text all code_of big little
length_coded = record { is = refl; short = refl }

module _ (s : List ℕ) (r : Pairs) (read : PairsRead s secondary_codes r) where
  pub no_secondary : get_or r.places 0 0 ≡ 0 → false ≡ has_length_alone s
  unfolding has_length_alone position code_of big little
  no_secondary z = ⊎_elim (λ (e : under_whole secondary_key s ≡ missing). rw e) (λ (e : under_whole secondary_key s ≡ broken). rw e)
      (none_under s secondary_codes r read 0x73 (omega arith) refl z)

  module _ (n : get_or r.places 0 0 ≡ 0 → ⊥) where
    under : under_whole secondary_key s ≡ found (drop (get_or r.places 0 0) s)
    unfolding position code_of big little
    under = found_under s secondary_codes r read 0x73 (omega arith) refl n

    pub no_list : read_array (drop (get_or r.places 0 0) s) ≡ None → false ≡ has_length_alone s
    unfolding has_length_alone
    no_list e = rw (under, e)

    pub not_one : (count size : ℕ) → read_array (drop (get_or r.places 0 0) s) ≡ Some (counted count size) → (count ≡ 1 → ⊥) → false ≡ has_length_alone s
    unfolding has_length_alone items_from
    not_one count size e o = rw (under, e) (by count o)
      where
        by : (k : ℕ) → (k ≡ 1 → ⊥) → false ≡ is_one_map (length_key ∷ []) (Some (items_from k (drop size (drop (get_or r.places 0 0) s))))
        by zero x = refl
        by (suc zero) x = absurd (x refl)
        by (suc (suc k)) x = refl

    pub one_map : (count size : ℕ) → read_array (drop (get_or r.places 0 0) s) ≡ Some (counted count size) → count ≡ 1
        → has_length_alone s ≡ are_these (length_key ∷ []) (keys_of (drop size (drop (get_or r.places 0 0) s)))
    unfolding has_length_alone items_from
    one_map count size e o = rw (under, e, o)

pub other_keys : (s : List ℕ) → are_these (identifier_key ∷ []) (keys_of s) ≡ false → false ≡ has_identifier_alone s
unfolding has_identifier_alone
other_keys s e = rw e

module _ (s : List ℕ) (alone : are_these (identifier_key ∷ []) (keys_of s) ≡ true) (r : Pairs) (read : PairsRead s identifier_codes r) where
  pub no_identifier : get_or r.places 0 0 ≡ 0 → false ≡ has_identifier_alone s
  unfolding has_identifier_alone position code_of big little
  no_identifier z = rw alone (⊎_elim (λ (e : under_whole identifier_key s ≡ missing). rw e) (λ (e : under_whole identifier_key s ≡ broken). rw e)
      (none_under s identifier_codes r read 0x49 (omega arith) refl z))

  module _ (n : get_or r.places 0 0 ≡ 0 → ⊥) where
    text_under_lem : under_whole identifier_key s ≡ found (drop (get_or r.places 0 0) s)
    unfolding position code_of big little
    text_under_lem = found_under s identifier_codes r read 0x49 (omega arith) refl n

    pub text_is : (t : Option Content) → part_of t ≡ read_text (drop (get_or r.places 0 0) s) → is_some t ≡ has_identifier_alone s
    unfolding has_identifier_alone text_at
    text_is (Some c) e = rw (alone, text_under_lem, ← e)
    text_is None e = rw (alone, text_under_lem, ← e)
