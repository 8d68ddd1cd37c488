-- What is seen of an item: of what type it is, what items an array has, and what stands under a key of a map, and how often. Rules for maps are
-- said over a view, once; bytes have a view here, and values one in crate msgpack_model.
use Rattle.std.specs.Prelude.{ℕ, zero, suc, ◌+◌, Bool, true, false, cond, ◌&&◌, ◌||◌, ◌≡◌, ltb, leb, eqb, length, drop}
use mathlib.Core.List.{List, [], ◌∷◌}
use Rattle.std.specs.Prelude.{Option, None, Some}
use Rattle.std.proofs.Math.Path.{refl}
use Rattle.std.proofs.Common.{arith, ne_eqb, eqb-true}
use Rattle.slices.specs.Logic.{absurd_numbers, neither_so}
use Rattle.msgpack.specs.Formats.{text_kind, map_kind}
use Rattle.msgpack.specs.Items.{Passage, whole, cut, too_deep, head_of, pass_item, depth_allowed, pass_over}
use Rattle.msgpack.specs.Readers.{Int, read_integer, read_boolean, is_whole, part, content_at, content_of_part, read_text, Counted, read_array}
use Rattle.msgpack.specs.Lookup.{Under, found, missing, broken, key_at, last_value, at_place}
use Rattle.msgpack.specs.Pairs.{if_counted, times_where, times_of}

pub record View (I : Type 0) : Type 0 where
  pub integer : I → Option Int
  pub boolean : I → Option Bool
  pub text : I → Option (List ℕ)
  pub items : I → Option (List I)
  pub under : List ℕ → I → Under I  -- the last value of the text
  pub times : List ℕ → I → ℕ  -- how often the text stands as a key

-- whether one of these keys stands more than once in the map m
unfoldable pub repeats : {I : Type 0} → View I → List (List ℕ) → I → Bool
repeats view [] m = false
repeats view (key ∷ keys) m = ltb 1 (view.times key m) || repeats view keys m

-- ---- bytes: the item at the front of a list

unfoldable pub text_at : List ℕ → Option (List ℕ)
text_at s = content_of_part s (read_text s)

abbrev pub size_of : Passage → ℕ
size_of (whole n) = n
size_of cut = 0
size_of too_deep = 0

-- so many items, one after the other, each with all that follows it
unfoldable pub items_from : ℕ → List ℕ → List (List ℕ)
items_from zero s = []
items_from (suc n) s = s ∷ items_from n (drop (size_of (pass_over s)) s)

abbrev pub items_by : List ℕ → Option Counted → Option (List (List ℕ))
items_by s (Some c) = Some (items_from c.count (drop c.size s))
items_by s None = None

-- what stands at a place of s
abbrev pub front_of : List ℕ → Under ℕ → Under (List ℕ)
front_of s (found p) = found (drop p s)
front_of s missing = missing
front_of s broken = broken

abbrev pub byte_view : View (List ℕ)
byte_view =
    record {
      integer = read_integer;
      boolean = read_boolean;
      text = text_at;
      items = λ s. items_by s (read_array s);
      under = λ key s. front_of s (last_value key s);
      times = times_of;
    }

pub read_front : {A : Type 0} (absent : Option A) (read : List ℕ → Option A) (s : List ℕ) (r : Under ℕ)
    → at_place absent read (front_of s r) ≡ at_place absent (λ p. read (drop p s)) r
read_front absent read s (found p) = refl
read_front absent read s missing = refl
read_front absent read s broken = refl

-- a text has no keys
pub text_times : (key s t : List ℕ) → Some t ≡ text_at s → times_of key s ≡ 0
unfolding text_at content_at is_whole times_of
text_times key s t e = by (eqb (head_of s).kind text_kind) refl e
  where
    count : (p : Passage) → (eqb (head_of s).kind map_kind ≡ false)
        → (if_counted p λ n. cond (eqb (head_of s).kind map_kind)
        (times_where (pass_item depth_allowed) (key_at key) (head_of s).count (drop (head_of s).size s)) 0) ≡ 0
    count (whole n) m = rw m
    count cut m = refl
    count too_deep m = refl

    by : (b : Bool) → eqb (head_of s).kind text_kind ≡ b
        → Some t ≡ content_of_part s (cond (b && leb ((head_of s).size + (head_of s).count) (length s)) (Some (part (head_of s).size (head_of s).count)) None)
        → times_of key s ≡ 0
    by true k q = count (pass_over s) (ne_eqb (head_of s).kind map_kind (λ (m : (head_of s).kind ≡ map_kind). omega (arith, eqb-true (head_of s).kind text_kind k)))
    by false k q = absurd_numbers (cc)

-- ---- two views in which related items are seen alike

-- both are there and related, or neither is
pub data Both {A B : Type 0} (R : A → B → Type 0) : Option A → Option B → Type 0 where
  both : {a : A} {b : B} → R a b → Both R (Some a) (Some b)
  neither : Both R None None

pub data Each {A B : Type 0} (R : A → B → Type 0) : List A → List B → Type 0 where
  no_more : Each R [] []
  and_each : {a : A} {b : B} {xs : List A} {ys : List B} → R a b → Each R xs ys → Each R (a ∷ xs) (b ∷ ys)

pub data SameUnder {I J : Type 0} (R : I → J → Type 0) : Under I → Under J → Type 0 where
  both_found : {i : I} {j : J} → R i j → SameUnder R (found i) (found j)
  both_missing : SameUnder R missing missing
  both_broken : SameUnder R broken broken

pub record SeenAlike {I J : Type 0} (v : View I) (w : View J) (R : I → J → Type 0) : Type 0 where
  pub integer : {i : I} {j : J} → R i j → v.integer i ≡ w.integer j
  pub boolean : {i : I} {j : J} → R i j → v.boolean i ≡ w.boolean j
  pub text : {i : I} {j : J} → R i j → v.text i ≡ w.text j
  pub items : {i : I} {j : J} → R i j → Both (Each R) (v.items i) (w.items j)
  pub times : (key : List ℕ) {i : I} {j : J} → R i j → v.times key i ≡ w.times key j
  pub under : (key : List ℕ) {i : I} {j : J} → R i j → ltb 1 (v.times key i) ≡ false → SameUnder R (v.under key i) (w.under key j)

-- related items stand under each of these keys
abbrev pub SameKeys : {I J : Type 0} → View I → View J → (I → J → Type 0) → List (List ℕ) → I → J → Type 0
SameKeys v w R [] i j = Unit
SameKeys v w R (key ∷ keys) i j = SameUnder R (v.under key i) (w.under key j) × SameKeys v w R keys i j

module _ {I J : Type 0} (v : View I) (w : View J) (R : I → J → Type 0) (alike : SeenAlike v w R) where
  pub repeats_alike : (keys : List (List ℕ)) {i : I} {j : J} → R i j → repeats v keys i ≡ repeats w keys j
  unfolding repeats
  repeats_alike [] r = refl
  repeats_alike (key ∷ keys) r = rw (alike.times key r, repeats_alike keys r)

  -- keys that do not repeat
  pub once_alike : (keys : List (List ℕ)) {i : I} {j : J} → R i j → repeats v keys i ≡ false → SameKeys v w R keys i j
  unfolding repeats
  once_alike [] r e = tt
  once_alike (key ∷ keys) {i} r e =
      let n = neither_so (ltb 1 (v.times key i)) (repeats v keys i) e in
      (alike.under key r n.0, once_alike keys r n.1)
