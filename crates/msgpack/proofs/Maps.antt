-- The pairs of a map one after the other: what passing over them gives, and what is told of the keys asked for.
use Prim.Native.Nat.{ℕ, zero, suc, ◌+◌, ◌-◌, ◌≤◌, ◌<◌}
use mathlib.Core.Bool.{Bool, true, false, cond, ◌&&◌, ◌||◌}
use mathlib.Core.List.{List}
use mathlib.Core.Path.{◌≡◌, refl, sym, ap, ◌∙◌}
use native.Mathlib.Nat.{not-suc-le-zero, zero-add, add-zero, add_assoc}
use native.Mathlib.Numerals.{sub-one}
use native.Mathlib.Omega.{arith}
use borrow.Author.Tests.{eq-eqb, ne_eqb, lt-ltb, le-ltb}
use lib.Dec.{ltb, eqb}
use lib.ListN.{length, drop, get_or, replicate, get_or-replicate}
use lib.Seq.{drop-drop}
use Rattle.slices.specs.Bytes.{AllBytes, drop_bytes}
use Rattle.slices.specs.Logic.{absurd_numbers, clash}
use Rattle.msgpack.specs.Formats.{map_kind}
use Rattle.msgpack.specs.Items.{Head, Passage, whole, cut, too_deep, passage_of, head_of, beyond, pass_items, pass_item, pass_over}
use Rattle.msgpack.specs.Lookup.{ValuePlace, found, missing, broken, if_whole, last_where, last_value}
use Rattle.msgpack.specs.Pairs.{code_of, code_at, position, PairPassage, whole_pair, cut_pair, deep_pair, if_passed, inside_allowed, pair_of, pair_at, times_where, times_of, is_repeated, is_whole_passage, keys_asked, Asked, place_told, place_in, PairsRead, Sized, WithValue, NoPairs, is_asked, PairsFrom}
use Rattle.std.specs.Prelude.{Err}
use Rattle.msgpack.specs.declared.Fault.{Fault}
use Rattle.msgpack.specs.declared.Fault.TheVariants.{Cut, TooDeep}
use Rattle.msgpack.specs.declared.Values.{Values}
use Rattle.msgpack.specs.declared.Pairs.{Pairs}
use Rattle.msgpack.specs.PassingLaws.{map_passed, Beyond, beyond_whole, pair_joined, Deeper, deeper}
use Rattle.msgpack.specs.CodeLaws.{asked_is_key}
use Rattle.msgpack.specs.Passages.{first, onward, none_left}

-- ---- a pair

pub record WholePair (s : List ℕ) (at code value next : ℕ) : Type 0 where
  pub key_size : ℕ
  pub value_size : ℕ
  pub key_whole : pass_item inside_allowed (drop at s) ≡ whole key_size
  pub value_whole : pass_item inside_allowed (drop (at + key_size) s) ≡ whole value_size
  pub code_is : code ≡ code_at (drop at s)
  pub value_is : value ≡ at + key_size
  pub next_is : next ≡ at + key_size + value_size

pub whole_pair_lem : (s : List ℕ) (at code value next : ℕ) → whole_pair code value next ≡ pair_at s at → WholePair s at code value next
unfolding pair_at
whole_pair_lem s at code value next e = by (pass_item inside_allowed (drop at s)) refl e
  where
    by_value_lem : (k : ℕ) → pass_item inside_allowed (drop at s) ≡ whole k → (r : Passage) → pass_item inside_allowed (drop (at + k) s) ≡ r
        → whole_pair code value next ≡ if_passed r (λ m. whole_pair (code_at (drop at s)) (at + k) (at + k + m)) → WholePair s at code value next
    by_value_lem k p (whole m) q e =
        record { key_size = k; value_size = m; key_whole = p; value_whole = q; code_is = cc; value_is = cc; next_is = cc }
    by_value_lem k p cut q e = absurd_numbers (cc)
    by_value_lem k p too_deep q e = absurd_numbers (cc)

    by : (r : Passage) → pass_item inside_allowed (drop at s) ≡ r
        → whole_pair code value next ≡ if_passed r (λ k. if_passed (pass_item inside_allowed (drop (at + k) s)) λ m. whole_pair (code_at (drop at s)) (at + k) (at + k + m))
        → WholePair s at code value next
    by (whole k) p e = by_value_lem k p (pass_item inside_allowed (drop (at + k) s)) refl e
    by cut p e = absurd_numbers (cc)
    by too_deep p e = absurd_numbers (cc)

-- a pair that is not whole settles what passing over the pairs gives
abbrev Settles : PairPassage → Passage → Type 0
Settles (whole_pair code value next) p = Unit
Settles cut_pair p = p ≡ cut
Settles deep_pair p = p ≡ too_deep

settles : (s : List ℕ) (at left : ℕ) → 0 < left → Settles (pair_at s at) (beyond at (pass_items (pass_item inside_allowed) (left + left) (drop at s)))
unfolding pair_at
settles s at left h = by (pass_item inside_allowed (drop at s)) refl
  where
    by_value_lem : (k : ℕ) → pass_item inside_allowed (drop at s) ≡ whole k → (r : Passage) → pass_item inside_allowed (drop (at + k) s) ≡ r
        → Settles (if_passed r (λ m. whole_pair (code_at (drop at s)) (at + k) (at + k + m))) (beyond at (pass_items (pass_item inside_allowed) (left + left) (drop at s)))
    by_value_lem k p (whole m) q = tt
    by_value_lem k p cut q = onward _ at (left + left) s k (omega arith) p ∙ ap (beyond (at + k)) (first _ (left + left - 1) (drop (at + k) s) cut (omega arith) q)
    by_value_lem k p too_deep q = onward _ at (left + left) s k (omega arith) p ∙ ap (beyond (at + k)) (first _ (left + left - 1) (drop (at + k) s) too_deep (omega arith) q)

    by : (r : Passage) → pass_item inside_allowed (drop at s) ≡ r
        → Settles (if_passed r (λ k. if_passed (pass_item inside_allowed (drop (at + k) s)) λ m. whole_pair (code_at (drop at s)) (at + k) (at + k + m)))
        (beyond at (pass_items (pass_item inside_allowed) (left + left) (drop at s)))
    by (whole k) p = by_value_lem k p (pass_item inside_allowed (drop (at + k) s)) refl
    by cut p = ap (beyond at) (first _ (left + left) (drop at s) cut (omega arith) p)
    by too_deep p = ap (beyond at) (first _ (left + left) (drop at s) too_deep (omega arith) p)

module _ (s : List ℕ) (at left : ℕ) (more : 0 < left) where
  cut_settles : cut_pair ≡ pair_at s at → beyond at (pass_items (pass_item inside_allowed) (left + left) (drop at s)) ≡ cut
  cut_settles e = rw (← e) at (settles s at left more)

  deep_settles : deep_pair ≡ pair_at s at → beyond at (pass_items (pass_item inside_allowed) (left + left) (drop at s)) ≡ too_deep
  deep_settles e = rw (← e) at (settles s at left more)

-- the fault of either item is the pair's
pub fault_told : (f : Fault) (next : ℕ → PairPassage) → pair_of (Err f) ≡ if_passed (passage_of (Err f)) next
fault_told Cut next = refl
fault_told TooDeep next = refl

-- ---- a pair further

module _ (s : List ℕ) (at code value next : ℕ) (p : WholePair s at code value next) (left : ℕ) (more : 0 < left) where
  pub passed_further : beyond at (pass_items (pass_item inside_allowed) (left + left) (drop at s))
      ≡ beyond next (pass_items (pass_item inside_allowed) (left - 1 + (left - 1)) (drop next s))
  passed_further =
      let n : left + left - 1 - 1 ≡ left - 1 + (left - 1) = omega arith in
      let e : at + p.key_size + p.value_size ≡ next = sym p.next_is in
      onward _ at (left + left) s p.key_size (omega arith) p.key_whole
      ∙ onward _ (at + p.key_size) (left + left - 1) s p.value_size (omega arith) p.value_whole
      ∙ rw (n, e)

  module _ (test : List ℕ → Bool) where
    last_on : (left : ℕ) (best : ValuePlace) → 0 < left → last_where (pass_item inside_allowed) test left at (drop at s) best
        ≡ last_where (pass_item inside_allowed) test (left - 1) (at + p.key_size + p.value_size) (drop (p.key_size + p.value_size) (drop at s))
        (cond (test (drop at s)) (found (at + p.key_size)) best)
    unfolding last_where
    last_on zero best h = absurd (not-suc-le-zero h)
    last_on (suc left) best h = rw (p.key_whole, drop-drop p.key_size at s, p.value_whole, sub-one)

    pub last_further : (best : ValuePlace) → last_where (pass_item inside_allowed) test left at (drop at s) best
        ≡ last_where (pass_item inside_allowed) test (left - 1) next (drop next s) (cond (test (drop at s)) (found value) best)
    last_further best = rw (p.next_is, p.value_is) (last_on left best more ∙ rw (drop-drop (p.key_size + p.value_size) at s, ← add_assoc at p.key_size p.value_size))

    times_on : (left : ℕ) → 0 < left → times_where (pass_item inside_allowed) test left (drop at s)
        ≡ cond (test (drop at s)) 1 0 + times_where (pass_item inside_allowed) test (left - 1) (drop (p.key_size + p.value_size) (drop at s))
    unfolding times_where
    times_on zero h = absurd (not-suc-le-zero h)
    times_on (suc left) h = rw (p.key_whole, drop-drop p.key_size at s, p.value_whole, sub-one)

    pub times_further : times_where (pass_item inside_allowed) test left (drop at s)
        ≡ cond (test (drop at s)) 1 0 + times_where (pass_item inside_allowed) test (left - 1) (drop next s)
    times_further = rw p.next_is (times_on left more ∙ rw (drop-drop (p.key_size + p.value_size) at s, ← add_assoc at p.key_size p.value_size))

module _ (item : List ℕ → Passage) (test : List ℕ → Bool) where
  pub last_none : (left from : ℕ) (s : List ℕ) (best : ValuePlace) → left ≤ 0 → last_where item test left from s best ≡ best
  unfolding last_where
  last_none zero from s best h = refl
  last_none (suc left) from s best h = absurd (not-suc-le-zero h)

  pub times_none : (left : ℕ) (s : List ℕ) → left ≤ 0 → times_where item test left s ≡ 0
  unfolding times_where
  times_none zero s h = refl
  times_none (suc left) s h = absurd (not-suc-le-zero h)

-- ---- what is kept of a key: the place of its last value so far, and whether it has had several

place_told_lem : (n : ℕ) → 0 < n → place_told n ≡ found n
place_told_lem zero h = absurd (not-suc-le-zero h)
place_told_lem (suc n) h = refl

pub place_kept : (t : Bool) (p value : ℕ) → 0 < value → place_told (cond t value p) ≡ cond t (found value) (place_told p)
place_kept true p value h = place_told_lem value h
place_kept false p value h = refl

-- 1 where the key has a place
unfoldable pub seen : ℕ → ℕ
seen p = cond (ltb 0 p) 1 0

pub none_seen : (n : ℕ) → ltb 1 n ≡ (false || ltb 1 (seen 0 + n))
unfolding seen
none_seen n = rw (zero-add n)

pub repeat_kept : (t again : Bool) (p value rest : ℕ) → 0 < value
    → (again || ltb 1 (seen p + (cond t 1 0 + rest))) ≡ ((again || (t && ltb 0 p)) || ltb 1 (seen (cond t value p) + rest))
unfolding seen
repeat_kept t true p value rest h = refl
repeat_kept false false p value rest h = rw (zero-add rest)
repeat_kept true false p value rest h = by (ltb 0 p) refl
  where
    one : seen value ≡ 1
    one = rw (lt-ltb 0 value h)

    by : (u : Bool) → ltb 0 p ≡ u → ltb 1 (seen p + (1 + rest)) ≡ (u || ltb 1 (seen value + rest))
    by true e = rw e (lt-ltb 1 (1 + (1 + rest)) (omega arith))
    by false e = rw (e, one, zero-add (1 + rest))

pub repeat_told : (again : Bool) (p : ℕ) → (again || ltb 1 (seen p + 0)) ≡ again
unfolding seen
repeat_told true p = refl
repeat_told false p = by (ltb 0 p) refl
  where
    by : (u : Bool) → ltb 0 p ≡ u → ltb 1 (seen p + 0) ≡ false
    by true e = rw e (le-ltb 1 (1 + 0) (omega arith))
    by false e = rw e (le-ltb 1 (0 + 0) (omega arith))

-- ---- what the loop keeps: what the whole gives is what the rest gives from here, with the values so far

pub record Kept (s keys : List ℕ) (from count at left : ℕ) (values : Values) : Type 0 where
  pub sized : Sized values
  pub behind : 0 < at
  pub passed : beyond from (pass_items (pass_item inside_allowed) (count + count) (drop from s)) ≡ beyond at (pass_items (pass_item inside_allowed) (left + left) (drop at s))
  pub place : (j : ℕ) → j < keys_asked → last_where (pass_item inside_allowed) (is_asked keys j) count from (drop from s) missing
      ≡ last_where (pass_item inside_allowed) (is_asked keys j) left at (drop at s) (place_told (get_or values.places j 0))
  pub repeated : (j : ℕ) → j < keys_asked → ltb 1 (times_where (pass_item inside_allowed) (is_asked keys j) count (drop from s))
      ≡ (get_or values.repeated j false || ltb 1 (seen (get_or values.places j 0) + times_where (pass_item inside_allowed) (is_asked keys j) left (drop at s)))

abbrev pub no_values : Values
no_values = record { places = replicate keys_asked 0; repeated = replicate keys_asked false }

module _ (s keys : List ℕ) (from count : ℕ) where
  no_map : (p : Passage) {r : Pairs} → NoPairs p r → is_whole_passage p ≡ false → beyond from (pass_items (pass_item inside_allowed) (count + count) (drop from s)) ≡ p
      → PairsFrom s keys from count r
  no_map p n w e = record {
    passed = n.passed ∙ sym e;
    map = n.map ∙ sym (ap is_whole_passage n.passed ∙ w);
    place = λ t. clash t n.map;
    untold = λ t. n.untold;
    repeated = λ j l. n.repeated j l ∙ rw n.map;
  }

  pub kept_first : 0 < from → Kept s keys from count from count no_values
  kept_first h = record {
    sized = record { places = refl; repeated = refl };
    behind = h;
    passed = refl;
    place = λ j l. rw (get_or-replicate {A = ℕ} keys_asked j 0 0 l);
    repeated = λ j l. rw (get_or-replicate {A = ℕ} keys_asked j 0 0 l, get_or-replicate keys_asked j false false l) (none_seen _);
  }

  module _ (at left : ℕ) (values : Values) (kept : Kept s keys from count at left values) where
    pub kept_further : (code value next : ℕ) → WholePair s at code value next → 0 < left → (after : Values) → WithValue values (position keys code) value after
        → Kept s keys from count next (left - 1) after
    kept_further code value next p more after w =
        let there : 0 < value = omega (arith, kept.behind, p.value_is) in
        record {
          sized = w.sized;
          behind = omega (arith, kept.behind, p.next_is);
          passed = kept.passed ∙ passed_further s at code value next p left more;
          place = λ j l. kept.place j l ∙ last_further s at code value next p left more (is_asked keys j) _
              ∙ rw (w.place j l, p.code_is, place_kept (is_asked keys j (drop at s)) (get_or values.places j 0) value there);
          repeated = λ j l. kept.repeated j l ∙ rw (times_further s at code value next p left more (is_asked keys j), w.place j l, w.repeated j l, p.code_is)
              (repeat_kept (is_asked keys j (drop at s)) (get_or values.repeated j false) (get_or values.places j 0) value _ there);
        }

    pub kept_last : left ≤ 0 → (r : Pairs) → passage_of r.passed ≡ whole at → r.map ≡ true → r.places ≡ values.places → r.repeated ≡ values.repeated
        → PairsFrom s keys from count r
    kept_last none r p m places repeated = record {
      passed = p ∙ sym (kept.passed ∙ ap (beyond at) (none_left _ (left + left) _ (omega arith)) ∙ ap whole (add-zero at));
      map = m ∙ sym (ap is_whole_passage p);
      place = λ t j l. rw places (sym (kept.place j l ∙ last_none _ _ left _ _ _ none));
      untold = λ t. clash m t;
      repeated = λ j l. rw (m, repeated) (sym (kept.repeated j l ∙ rw (times_none (pass_item inside_allowed) (is_asked keys j) left (drop at s) none) (repeat_told _ _)));
    }

    pub kept_fault : 0 < left → (f : Fault) → pair_of (Err f) ≡ pair_at s at → (r : Pairs) → NoPairs (passage_of (Err f)) r → PairsFrom s keys from count r
    kept_fault more Cut e r n = no_map cut n refl (kept.passed ∙ cut_settles s at left more e)
    kept_fault more TooDeep e r n = no_map too_deep n refl (kept.passed ∙ deep_settles s at left more e)

-- ---- with an allowance that passes over more, and a test that is the same for bytes

module _ (item other : List ℕ → Passage) (deep : Deeper item other) (test alike : List ℕ → Bool) (same : (t : List ℕ) → AllBytes t → test t ≡ alike t) where
  last_same : (count from : ℕ) (s : List ℕ) (best : ValuePlace) (n : ℕ) → pass_items item (count + count) s ≡ whole n → AllBytes s
      → last_where item test count from s best ≡ last_where other alike count from s best
  unfolding last_where
  last_same zero from s best n p b = refl
  last_same (suc count) from s best n p b =
      let x = pair_joined item count s n p in
      rw (x.key_whole, x.value_whole, deep s x.key x.key_whole, deep (drop x.key s) x.value x.value_whole, same s b)
      (last_same count (from + x.key + x.value) (drop (x.key + x.value) s) _ x.after x.rest (drop_bytes (x.key + x.value) b))

  times_same : (count : ℕ) (s : List ℕ) (n : ℕ) → pass_items item (count + count) s ≡ whole n → AllBytes s → times_where item test count s ≡ times_where other alike count s
  unfolding times_where
  times_same zero s n p b = refl
  times_same (suc count) s n p b =
      let x = pair_joined item count s n p in
      rw (
        x.key_whole,
        x.value_whole,
        deep s x.key x.key_whole,
        deep (drop x.key s) x.value x.value_whole,
        same s b,
        times_same count (drop (x.key + x.value) s) x.after x.rest (drop_bytes (x.key + x.value) b),
      )

-- ---- the item at the front

and_true : (a : Bool) → a ≡ (a && true)
and_true true = refl
and_true false = refl

and_false : (a : Bool) → false ≡ (a && false)
and_false true = refl
and_false false = refl

module _ (s keys : List ℕ) (eight : length keys ≡ keys_asked) (bytes : AllBytes s) (r : Pairs) where
  module _ (k : (head_of s).kind ≡ map_kind) (f : PairsFrom s keys (head_of s).size (head_of s).count r) where
    is_passed : passage_of r.passed ≡ pass_over s
    is_passed = f.passed ∙ map_passed inside_allowed s k

    pairs_passed : (n : ℕ) → pass_over s ≡ whole n
        → Beyond (head_of s).size (pass_items (pass_item inside_allowed) ((head_of s).count + (head_of s).count) (drop (head_of s).size s)) n
    pairs_passed n w = beyond_whole (head_of s).size _ n (map_passed inside_allowed s k ∙ w)

    is_map : (n : ℕ) → pass_over s ≡ whole n → r.map ≡ true
    is_map n w = f.map ∙ ap is_whole_passage (is_passed ∙ w)

    module _ (key : List ℕ) (a : Asked keys key) where
      the_place : (p : Passage) → pass_over s ≡ p → place_in r.map (get_or r.places (position keys (code_of key)) 0) ≡ if_whole p (λ n. last_value key s)
      unfolding last_value
      the_place (whole n) w =
          let x = pairs_passed n w in
          rw (is_map n w, eq-eqb _ _ k)
          (f.place (is_map n w) (position keys (code_of key)) a.listed
          ∙ last_same _ _ (deeper inside_allowed) _ _ (asked_is_key keys key eight a) (head_of s).count (head_of s).size (drop (head_of s).size s) missing x.after x.rest (drop_bytes (head_of s).size bytes))
      the_place cut w = rw (f.map, is_passed, w)
      the_place too_deep w = rw (f.map, is_passed, w)

      the_repeat : (p : Passage) → pass_over s ≡ p → get_or r.repeated (position keys (code_of key)) false ≡ is_repeated key s
      unfolding times_of
      the_repeat (whole n) w =
          let x = pairs_passed n w in
          f.repeated (position keys (code_of key)) a.listed
          ∙ rw (is_map n w, w, eq-eqb _ _ k)
          (ap (ltb 1) (times_same _ _ (deeper inside_allowed) _ _ (asked_is_key keys key eight a) (head_of s).count (drop (head_of s).size s) x.after x.rest (drop_bytes (head_of s).size bytes)))
      the_repeat cut w = f.repeated (position keys (code_of key)) a.listed ∙ rw (f.map, is_passed, w)
      the_repeat too_deep w = f.repeated (position keys (code_of key)) a.listed ∙ rw (f.map, is_passed, w)

    map_read : PairsRead s keys r
    map_read = record {
      passed = is_passed;
      map = f.map ∙ ap is_whole_passage is_passed ∙ rw (eq-eqb _ _ k) (and_true (is_whole_passage (pass_over s)));
      place = λ key a. the_place key a (pass_over s) refl;
      untold = f.untold;
      repeated = λ key a. the_repeat key a (pass_over s) refl;
    }

  pub map_front : (h : Head) → h ≡ head_of s → h.kind ≡ map_kind → PairsFrom s keys h.size h.count r → PairsRead s keys r
  map_front h e k f = map_read (ap (λ (h : Head). h.kind) (sym e) ∙ k) (rw e at f)

  pub other_front : (h : Head) → h ≡ head_of s → (h.kind ≡ map_kind → ⊥) → NoPairs (pass_over s) r → PairsRead s keys r
  unfolding last_value times_of
  other_front h e k f = record {
    passed = f.passed;
    map = f.map ∙ rw no_map (and_false (is_whole_passage (pass_over s)));
    place = λ key a. rw f.map (no_place key (pass_over s));
    untold = λ t. f.untold;
    repeated = λ key a. f.repeated (position keys (code_of key)) a.listed ∙ no_repeat key (pass_over s) refl;
  }
    where
      no_map : eqb (head_of s).kind map_kind ≡ false
      no_map = ne_eqb _ _ (λ (q : (head_of s).kind ≡ map_kind). k (ap (λ (h : Head). h.kind) e ∙ q))

      no_place : (key : List ℕ) (p : Passage) → broken ≡ if_whole p (λ n. last_value key s)
      no_place key (whole n) = rw no_map
      no_place key cut = refl
      no_place key too_deep = refl

      no_repeat : (key : List ℕ) (p : Passage) → pass_over s ≡ p → false ≡ is_repeated key s
      no_repeat key (whole n) w = rw (w, no_map)
      no_repeat key cut w = rw w
      no_repeat key too_deep w = rw w
