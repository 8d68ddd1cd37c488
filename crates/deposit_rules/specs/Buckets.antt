-- The bucket names that may be deposited (request 9).
use Rattle.std.specs.Prelude.{ℕ, zero, suc, ◌-◌, ◌≤◌, ◌<◌, Bool, true, false, not, ◌&&◌, ◌||◌, List, [], ◌∷◌, map, ◌↔◌, ◌⊎◌, ◌≡◌, refl, leb, eqb, length, get_or, replicate}
use Rattle.std.proofs.Common.{inl, inr, ⊎_elim, arith, le-leb, leb-true, eq-eqb, ne_eqb, eqb-true}
use Rattle.slices.specs.Logic.{absurd_numbers, both}
use Rattle.identifier.specs.Ulid.{codes}

abbrev pub dot : ℕ
dot = 0x2e

abbrev pub hyphen : ℕ
hyphen = 0x2d

abbrev pub is_between : ℕ → ℕ → ℕ → Bool
is_between first last b = leb first b && leb b last

-- `a` to `z`, `0` to `9`
unfoldable pub is_letter_or_digit : ℕ → Bool
is_letter_or_digit b = is_between 0x61 0x7a b || is_between 0x30 0x39 b

unfoldable pub is_name_byte : ℕ → Bool
is_name_byte b = is_letter_or_digit b || (eqb b dot || eqb b hyphen)

-- bytes of a name, and no dot after a dot; `after` is whether a dot stands before them
unfoldable pub are_name_bytes : Bool → List ℕ → Bool
are_name_bytes after [] = true
are_name_bytes after (b ∷ t) = is_name_byte b && (not (after && eqb b dot) && are_name_bytes (eqb b dot) t)

-- 3 to 63 of these bytes; the first and the last are a letter or digit
unfoldable pub is_bucket_name : List ℕ → Bool
is_bucket_name t =
    is_between 3 63 (length t)
    && (is_letter_or_digit (get_or t 0 0) && (is_letter_or_digit (get_or t (length t - 1) 0) && are_name_bytes false t))

-- ---- the same without computation

abbrev pub LetterOrDigit : ℕ → Type 0
LetterOrDigit b = ((0x61 ≤ b) × (b ≤ 0x7a)) ⊎ ((0x30 ≤ b) × (b ≤ 0x39))

abbrev pub NameByte : ℕ → Type 0
NameByte b = LetterOrDigit b ⊎ ((b ≡ dot) ⊎ (b ≡ hyphen))

pub record BucketName (t : List ℕ) : Type 0 where
  pub least : 3 ≤ length t
  pub most : length t ≤ 63
  pub first : LetterOrDigit (get_or t 0 0)
  pub last : LetterOrDigit (get_or t (length t - 1) 0)
  pub each : (k : ℕ) → k < length t → NameByte (get_or t k 0)
  pub apart : (k : ℕ) → suc k < length t → get_or t k 0 ≡ dot → get_or t (suc k) 0 ≡ dot → ⊥

-- either of two tests
or_cases : (a b : Bool) → (a || b) ≡ true → (a ≡ true) ⊎ (b ≡ true)
or_cases true b e = inl refl
or_cases false b e = inr e

or_first : (a b : Bool) → a ≡ true → (a || b) ≡ true
or_first true b e = refl
or_first false b e = absurd_numbers (cc)

or_second : (a b : Bool) → b ≡ true → (a || b) ≡ true
or_second true b e = refl
or_second false b e = e

between : (first last b : ℕ) → is_between first last b ≡ true ↔ ((first ≤ b) × (b ≤ last))
between first last b =
    (λ e. let r = both (leb first b) (leb b last) e in (leb-true first b r.0, leb-true b last r.1), λ h. rw (le-leb first b h.0, le-leb b last h.1))

letter_or_digit : (b : ℕ) → is_letter_or_digit b ≡ true ↔ LetterOrDigit b
unfolding is_letter_or_digit
letter_or_digit b = (is, back)
  where
    is : (is_between 0x61 0x7a b || is_between 0x30 0x39 b) ≡ true → LetterOrDigit b
    is e = ⊎_elim (λ l. inl ((between 0x61 0x7a b).0 l)) (λ d. inr ((between 0x30 0x39 b).0 d)) (or_cases (is_between 0x61 0x7a b) (is_between 0x30 0x39 b) e)

    back : LetterOrDigit b → (is_between 0x61 0x7a b || is_between 0x30 0x39 b) ≡ true
    back c = ⊎_elim (λ l. or_first (is_between 0x61 0x7a b) (is_between 0x30 0x39 b) ((between 0x61 0x7a b).1 l))
        (λ d. or_second (is_between 0x61 0x7a b) (is_between 0x30 0x39 b) ((between 0x30 0x39 b).1 d)) c

name_byte : (b : ℕ) → is_name_byte b ≡ true ↔ NameByte b
unfolding is_name_byte
name_byte b = (is, back)
  where
    is : (is_letter_or_digit b || (eqb b dot || eqb b hyphen)) ≡ true → NameByte b
    is e = ⊎_elim (λ l. inl ((letter_or_digit b).0 l))
        (λ o. inr (⊎_elim (λ d. inl (eqb-true b dot d)) (λ h. inr (eqb-true b hyphen h)) (or_cases (eqb b dot) (eqb b hyphen) o)))
        (or_cases (is_letter_or_digit b) (eqb b dot || eqb b hyphen) e)

    back : NameByte b → (is_letter_or_digit b || (eqb b dot || eqb b hyphen)) ≡ true
    back c = ⊎_elim (λ l. or_first (is_letter_or_digit b) (eqb b dot || eqb b hyphen) ((letter_or_digit b).1 l))
        (λ o. or_second (is_letter_or_digit b) (eqb b dot || eqb b hyphen) (⊎_elim (λ d. or_first (eqb b dot) (eqb b hyphen) (eq-eqb b dot d))
        (λ h. or_second (eqb b dot) (eqb b hyphen) (eq-eqb b hyphen h)) o)) c

-- bytes of a name, behind a dot or not
record NameBytes (after : Bool) (t : List ℕ) : Type 0 where
  each : (k : ℕ) → k < length t → NameByte (get_or t k 0)
  start : after ≡ true → 0 < length t → get_or t 0 0 ≡ dot → ⊥
  apart : (k : ℕ) → suc k < length t → get_or t k 0 ≡ dot → get_or t (suc k) 0 ≡ dot → ⊥

name_bytes : (after : Bool) (t : List ℕ) → are_name_bytes after t ≡ true → NameBytes after t
unfolding are_name_bytes
name_bytes after [] e = record { each = λ k h. absurd (omega arith); start = λ a h f. omega arith; apart = λ k h f g. omega arith }
name_bytes after (b ∷ t) e =
    let r = both (is_name_byte b) (not (after && eqb b dot) && are_name_bytes (eqb b dot) t) e in
    let q = both (not (after && eqb b dot)) (are_name_bytes (eqb b dot) t) r.1 in
    let rest = name_bytes (eqb b dot) t q.1 in
    record {
      each = elim [ zero ↦ λ h. (name_byte b).0 r.0 | suc k ↦ λ h. rest.each k (omega arith) ];
      start = λ a h f. no_dot after a (eq-eqb b dot f) q.0;
      apart = elim [ zero ↦ λ h f g. rest.start (eq-eqb b dot f) (omega arith) g | suc k ↦ λ h f g. rest.apart k (omega arith) f g ];
    }
  where
    no_dot : (a : Bool) → a ≡ true → eqb b dot ≡ true → not (a && eqb b dot) ≡ true → ⊥
    no_dot true p d n = absurd_numbers (let m : not (eqb b dot) ≡ true = n in let k : not true ≡ true = (rw d at m) in cc)
    no_dot false p d n = absurd_numbers (cc)

are_name_bytes_lem : (after : Bool) (t : List ℕ) → NameBytes after t → are_name_bytes after t ≡ true
unfolding are_name_bytes
are_name_bytes_lem after [] n = refl
are_name_bytes_lem after (b ∷ t) n =
    let rest : are_name_bytes (eqb b dot) t ≡ true = are_name_bytes_lem (eqb b dot) t (record {
      each = λ k h. n.each (suc k) (omega arith);
      start = λ d h f. n.apart 0 (omega arith) (eqb-true b dot d) f;
      apart = λ k h f g. n.apart (suc k) (omega arith) f g;
    }) in
    rw ((name_byte b).1 (n.each 0 (omega arith)), rest, no_dot after n.start)
  where
    no_dot : (a : Bool) → (a ≡ true → 0 < length (b ∷ t) → b ≡ dot → ⊥) → (a && eqb b dot) ≡ false
    no_dot true f = ne_eqb b dot (λ e. f refl (omega arith) e)
    no_dot false f = refl

pub bucket_exactly : (t : List ℕ) → is_bucket_name t ≡ true ↔ BucketName t
unfolding is_bucket_name
bucket_exactly t = (is, back)
  where
    is : (is_between 3 63 (length t) && (is_letter_or_digit (get_or t 0 0) && (is_letter_or_digit (get_or t (length t - 1) 0) && are_name_bytes false t))) ≡ true
        → BucketName t
    is e =
        let a = both (is_between 3 63 (length t)) (is_letter_or_digit (get_or t 0 0) && (is_letter_or_digit (get_or t (length t - 1) 0) && are_name_bytes false t)) e in
        let b = both (is_letter_or_digit (get_or t 0 0)) (is_letter_or_digit (get_or t (length t - 1) 0) && are_name_bytes false t) a.1 in
        let c = both (is_letter_or_digit (get_or t (length t - 1) 0)) (are_name_bytes false t) b.1 in
        let n = name_bytes false t c.1 in
        let s = (between 3 63 (length t)).0 a.0 in
        record {
          least = s.0;
          most = s.1;
          first = (letter_or_digit (get_or t 0 0)).0 b.0;
          last = (letter_or_digit (get_or t (length t - 1) 0)).0 c.0;
          each = n.each;
          apart = n.apart;
        }

    back : BucketName t
        → (is_between 3 63 (length t) && (is_letter_or_digit (get_or t 0 0) && (is_letter_or_digit (get_or t (length t - 1) 0) && are_name_bytes false t))) ≡ true
    back n = rw (
      (between 3 63 (length t)).1 (n.least, n.most),
      (letter_or_digit (get_or t 0 0)).1 n.first,
      (letter_or_digit (get_or t (length t - 1) 0)).1 n.last,
      are_name_bytes_lem false t (record { each = n.each; start = λ a h f. absurd_numbers (cc); apart = n.apart }),
    )

-- ---- both ends of each bound

-- names, each with whether it may be deposited
pub record Example : Type 0 where
  pub name : List ℕ
  pub may : Bool

abbrev example : List ℕ → Bool → Example
example name may = record { name = name; may = may }

abbrev pub examples : List Example
examples =
    example (codes "abc") true ∷ example (codes "ab") false  -- 3 bytes at least
    ∷ example (replicate 63 0x61) true ∷ example (replicate 64 0x61) false  -- 63 at most
    ∷ example (codes "az09") true ∷ example (codes "a`z") false ∷ example (codes "a{z") false ∷ example (codes "a/z") false ∷ example (codes "a:z") false
    ∷ example (codes "aAz") false ∷ example (codes "a_z") false ∷ example (codes "a,z") false  -- letters, digits, and what stands beside them
    ∷ example (codes "a.z") true ∷ example (codes "a-z") true ∷ example (codes "a.b.z") true ∷ example (codes "a--z") true
    ∷ example (codes ".az") false ∷ example (codes "-az") false ∷ example (codes "az.") false ∷ example (codes "az-") false  -- the ends
    ∷ example (codes "a..z") false ∷ example (codes "a.-z") true ∷ example (codes "a-.z") true  -- two dots together
    ∷ []

pub examples_hold : map (λ (e : Example). is_bucket_name e.name) examples ≡ map (λ (e : Example). e.may) examples
unfolding is_bucket_name is_letter_or_digit are_name_bytes is_name_byte codes
examples_hold = refl
