-- Keys told by their codes, as msgpack tells them: where each text asked for is short, a code tells which of them a key is.
use Rattle.std.specs.Prelude.{ℕ, Bool, true, false, ◌&&◌, ◌||◌, List, [], ◌∷◌, map, ◌≡◌, refl, leb, ltb, eqb, length}
use Rattle.std.specs.Prelude.{Option, None, Some}
use Rattle.std.proofs.Common.{ap₂, ◌∙◌, leb-true, ltb-true}
use Rattle.slices.specs.Bytes.{AllBytes, none_bytes, cons_bytes}
use Rattle.slices.specs.Logic.{both}
use Rattle.msgpack.specs.Readers.{Part, content_of_part, read_text}
use Rattle.msgpack.specs.Lookup.{content_is, key_at}
use Rattle.msgpack.specs.Pairs.{code_of, code_at}
use Rattle.msgpack.specs.CodeLaws.{code_is_key}
use Rattle.msgpack.specs.Views.{text_at}
use Rattle.identifier.specs.Texts.{all}
use Rattle.deposit_rules.specs.Keys.{Key, key_is, is_one_of, are_among, are_these}

-- at most three bytes
unfoldable pub is_short_text : List ℕ → Bool
is_short_text t = leb (length t) 3 && all (λ b. ltb b 256) t

unfoldable pub are_short_texts : List (List ℕ) → Bool
are_short_texts [] = true
are_short_texts (text ∷ texts) = is_short_text text && are_short_texts texts

-- these are the codes of these texts, which are short
pub record Coded (texts : List (List ℕ)) (codes : List ℕ) : Type 0 where
  pub is : codes ≡ map code_of texts
  pub short : are_short_texts texts ≡ true

unfoldable pub is_listed : List ℕ → ℕ → Bool
is_listed [] code = false
is_listed (c ∷ codes) code = eqb code c || is_listed codes code

-- ---- laws

bytes_of : (t : List ℕ) → all (λ b. ltb b 256) t ≡ true → AllBytes t
unfolding all
bytes_of [] e = none_bytes
bytes_of (b ∷ t) e = let r = both (ltb b 256) (all (λ b. ltb b 256) t) e in cons_bytes (ltb-true b 256 r.0) (bytes_of t r.1)

-- a short text stands at the front where its code does
pub code_tells : (text t : List ℕ) → is_short_text text ≡ true → AllBytes t → eqb (code_at t) (code_of text) ≡ key_is text (text_at t)
unfolding is_short_text text_at key_at
code_tells text t e b =
    let r = both (leb (length text) 3) (all (λ b. ltb b 256) text) e in
    code_is_key text (bytes_of text r.1) (leb-true (length text) 3 r.0) t b ∙ by (read_text t)
  where
    by : (p : Option Part) → content_is text t p ≡ key_is text (content_of_part t p)
    by (Some p) = refl
    by None = refl

pub listed_tells : (texts : List (List ℕ)) (t : List ℕ) → are_short_texts texts ≡ true → AllBytes t
    → is_listed (map code_of texts) (code_at t) ≡ is_one_of texts (text_at t)
unfolding are_short_texts is_listed is_one_of
listed_tells [] t e b = refl
listed_tells (text ∷ texts) t e b =
    let r = both (is_short_text text) (are_short_texts texts) e in
    ap₂ (λ x y. x || y) (code_tells text t r.0 b) (listed_tells texts t r.1 b)

-- ---- what the code tells, of keys and codes: the answer for whichever short texts these are the codes of

pub record AmongThose (codes : List ℕ) (keys : List Key) (r : Bool) : Type 0 where
  pub are : (texts : List (List ℕ)) → Coded texts codes → r ≡ are_among texts keys

pub record AreThose (codes : List ℕ) (keys : List Key) (r : Bool) : Type 0 where
  pub are : (texts : List (List ℕ)) → Coded texts codes → r ≡ are_these texts keys
