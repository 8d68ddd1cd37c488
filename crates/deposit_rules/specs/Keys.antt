-- The keys of a map, in their order, and what the deposit profile (request 9) asks of them.
use Rattle.std.specs.Prelude.{ℕ, zero, suc, Bool, true, false, ◌&&◌, ◌||◌, ◌↔◌, ◌≡◌, refl, drop}
use mathlib.Core.List.Memᴰ
use mathlib.Core.List.{List, [], ◌∷◌, map, Memᴰ}
use Rattle.std.proofs.Common.{⊎_elim, ap, ap₂, ◌∙◌}
use Rattle.std.specs.Prelude.{Option, None, Some}
use Rattle.slices.specs.Bytes.{same_bytes, same_bytes_refl, same_bytes_equal}
use Rattle.slices.specs.Logic.{absurd_numbers, both}
use Rattle.msgpack.specs.Readers.{Counted, read_map}
use Rattle.msgpack.specs.Pairs.{PairPassage, whole_pair, cut_pair, deep_pair, pair_at}
use Rattle.msgpack.specs.Views.{text_at}

-- the text of a key; none where it is no text
abbrev pub Key : Type 0
Key = Option (List ℕ)

abbrev pub if_pair : {A : Type 0} → PairPassage → A → (ℕ → A) → A
if_pair (whole_pair code value next) broken on = on next
if_pair cut_pair broken on = broken
if_pair deep_pair broken on = broken

-- the keys of so many pairs from a place of s on. Where a pair is not whole, the last is a key that is no text
unfoldable pub keys_from : ℕ → List ℕ → ℕ → List Key
keys_from zero s at = []
keys_from (suc n) s at = if_pair (pair_at s at) (None ∷ []) (λ next. text_at (drop at s) ∷ keys_from n s next)

abbrev pub keys_by : List ℕ → Option Counted → List Key
keys_by s (Some c) = keys_from c.count s c.size
keys_by s None = None ∷ []

-- the keys of the map at the front, in their order
unfoldable pub keys_of : List ℕ → List Key
keys_of s = keys_by s (read_map s)

-- ---- what is asked of them

abbrev pub key_is : List ℕ → Key → Bool
key_is text (Some t) = same_bytes t text
key_is text None = false

unfoldable pub is_one_of : List (List ℕ) → Key → Bool
is_one_of [] key = false
is_one_of (text ∷ texts) key = key_is text key || is_one_of texts key

-- each key is one of these texts
unfoldable pub are_among : List (List ℕ) → List Key → Bool
are_among texts [] = true
are_among texts (key ∷ keys) = is_one_of texts key && are_among texts keys

-- the keys are these texts, in this order
unfoldable pub are_these : List (List ℕ) → List Key → Bool
are_these [] [] = true
are_these [] (key ∷ keys) = false
are_these (text ∷ texts) [] = false
are_these (text ∷ texts) (key ∷ keys) = key_is text key && are_these texts keys

-- ---- the same without computation

pub key_is_lem : (text : List ℕ) (key : Key) → key_is text key ≡ true ↔ key ≡ Some text
key_is_lem text (Some t) = (λ e. ap Some (same_bytes_equal t text e), λ e. let same : t ≡ text = cc in rw same (same_bytes_refl text))
key_is_lem text None = (λ e. absurd_numbers (cc), λ e. absurd_numbers (cc))

pub these_exactly : (texts : List (List ℕ)) (keys : List Key) → are_these texts keys ≡ true ↔ keys ≡ map Some texts
unfolding are_these
these_exactly texts keys = (is texts keys, back texts keys)
  where
    is : (texts : List (List ℕ)) (keys : List Key) → are_these texts keys ≡ true → keys ≡ map Some texts
    is [] [] e = refl
    is [] (key ∷ keys) e = absurd_numbers (cc)
    is (text ∷ texts) [] e = absurd_numbers (cc)
    is (text ∷ texts) (key ∷ keys) e =
        let b = both (key_is text key) (are_these texts keys) e in
        ap₂ (λ (k : Key) (ks : List Key). k ∷ ks) ((key_is_lem text key).0 b.0) (is texts keys b.1)

    always : (texts : List (List ℕ)) → are_these texts (map Some texts) ≡ true
    always [] = refl
    always (text ∷ texts) = rw (same_bytes_refl text) (always texts)

    back : (texts : List (List ℕ)) (keys : List Key) → keys ≡ map Some texts → are_these texts keys ≡ true
    back texts keys e = rw e (always texts)

or_true : (a b : Bool) → b ≡ true → (a || b) ≡ true
or_true true b e = refl
or_true false b e = e

-- a key is a text of the list
pub record Listed (texts : List (List ℕ)) (key : Key) : Type 0 where
  pub text : List ℕ
  pub is : key ≡ Some text
  pub there : Memᴰ text texts

pub one_of : (texts : List (List ℕ)) (key : Key) → is_one_of texts key ≡ true ↔ Listed texts key
unfolding is_one_of
one_of texts key = (is texts, λ l. back texts l.text l.is l.there)
  where
    is : (texts : List (List ℕ)) → is_one_of texts key ≡ true → Listed texts key
    is [] e = absurd_numbers (cc)
    is (text ∷ texts) e = by (key_is text key) refl e (is texts)
      where
        by : (b : Bool) → key_is text key ≡ b → (b || is_one_of texts key) ≡ true → (is_one_of texts key ≡ true → Listed texts key) → Listed (text ∷ texts) key
        by true p f on = record { text = text; is = (key_is_lem text key).0 p; there = Memᴰ.head refl }
        by false p f on = let l = on f in record { text = l.text; is = l.is; there = Memᴰ.tail l.there }

    back : (texts : List (List ℕ)) (t : List ℕ) → key ≡ Some t → Memᴰ t texts → is_one_of texts key ≡ true
    back [] t e m = absurd (Memᴰ.not-nil m)
    back (text ∷ texts) t e m = ⊎_elim (λ (q : t ≡ text). rw ((key_is_lem text key).1 (e ∙ ap Some q)))
        (λ n. or_true (key_is text key) (is_one_of texts key) (back texts t e n)) (Memᴰ.cases_cons m)

pub among_exactly : (texts : List (List ℕ)) (keys : List Key) → are_among texts keys ≡ true ↔ ((key : Key) → Memᴰ key keys → Listed texts key)
unfolding are_among
among_exactly texts keys = (is keys, back keys)
  where
    is : (keys : List Key) → are_among texts keys ≡ true → (key : Key) → Memᴰ key keys → Listed texts key
    is [] e key m = absurd (Memᴰ.not-nil m)
    is (k ∷ keys) e key m =
        let b = both (is_one_of texts k) (are_among texts keys) e in
        ⊎_elim (λ (q : key ≡ k). (one_of texts key).0 (rw q b.0)) (is keys b.1 key) (Memᴰ.cases_cons m)

    back : (keys : List Key) → ((key : Key) → Memᴰ key keys → Listed texts key) → are_among texts keys ≡ true
    back [] f = refl
    back (k ∷ keys) f = rw ((one_of texts k).1 (f k (Memᴰ.head refl))) (back keys (λ key m. f key (Memᴰ.tail m)))
