-- The ULID (document 01): 26 characters of an alphabet of 32, compared as bytes. 26 would hold 130 bits, and a ULID has 128 (request 2).
use Rattle.std.specs.Prelude.{ℕ, zero, suc, ◌+◌, ◌-◌, ◌<◌, ◌≡◌, refl, Bool, true, false, ◌&&◌, List, [], ◌∷◌, eqb, leb, ltb, length, get_or}
use Prim.Native.Char.{code}
use Prim.Native.String.{String, [] as emptyˢ, ◌∷◌ as ◌∷ˢ◌}
use Rattle.std.proofs.Common.{sym, ap, ◌∙◌, not-suc-le-zero, le_of_suc-le-suc, lt_trans, le_of_lt, le_refl, add-suc, add-zero, arith, eqb-true, ltb-true, ltb-false, lt-ltb, le-ltb}
use Rattle.std.proofs.Math.Path.{subst⁻¹}
use Rattle.slices.specs.Logic.{both}
use Rattle.identifier.specs.Texts.{member, all}

-- digits, and capitals but for I, L, O and U
unfoldable pub alphabet : List ℕ
alphabet =
    48 ∷ 49 ∷ 50 ∷ 51 ∷ 52 ∷ 53 ∷ 54 ∷ 55 ∷ 56 ∷ 57 ∷ 65 ∷ 66 ∷ 67 ∷ 68 ∷ 69 ∷ 70 ∷ 71 ∷ 72 ∷ 74 ∷ 75 ∷ 77 ∷ 78 ∷ 80
    ∷ 81 ∷ 82 ∷ 83 ∷ 84 ∷ 86 ∷ 87 ∷ 88 ∷ 89 ∷ 90 ∷ []

-- a text's characters, as bytes where they are ASCII
unfoldable pub codes : String → List ℕ
codes emptyˢ = []
codes (c ∷ˢ s) = code c ∷ codes s

-- the letters, as document 01 prints them
pub alphabet_is : alphabet ≡ codes "0123456789ABCDEFGHJKMNPQRSTVWXYZ"
unfolding alphabet codes
alphabet_is = refl

-- a byte is a character of a ULID
unfoldable pub is_character : ℕ → Bool
is_character x = member x alphabet

-- which texts are ULIDs is said here and nowhere else: 26 characters, the first at most `7`
unfoldable pub is_ulid : List ℕ → Bool
is_ulid s = eqb (length s) 26 && all is_character s && leb (get_or s 0 0) 0x37

pub ulid_written : (s : List ℕ) → is_ulid s ≡ true → (length s ≡ 26) × (all is_character s ≡ true)
unfolding is_ulid
ulid_written s e =
    let h = both (eqb (length s) 26) (all is_character s) (both (eqb (length s) 26 && all is_character s) (leb (get_or s 0 0) 0x37) e).0 in
    (eqb-true (length s) 26 h.0, h.1)

pub ulid_length : (s : List ℕ) → is_ulid s ≡ true → length s ≡ 26
ulid_length s e = (ulid_written s e).0

-- ---- the alphabet rises

-- each entry is below the next
unfoldable rising : List ℕ → Bool
rising [] = true
rising (x ∷ []) = true
rising (x ∷ y ∷ l) = ltb x y && rising (y ∷ l)

-- a list that passes the test rises from any entry to any later one
rising_next : (l : List ℕ) → rising l ≡ true → (k : ℕ) → suc k < length l → get_or l k 0 < get_or l (suc k) 0
unfolding rising
rising_next [] e k h = absurd (not-suc-le-zero h)
rising_next (x ∷ []) e k h = absurd (not-suc-le-zero (le_of_suc-le-suc h))
rising_next (x ∷ y ∷ l) e zero h = ltb-true x y (both (ltb x y) (rising (y ∷ l)) e).0
rising_next (x ∷ y ∷ l) e (suc k) h = rising_next (y ∷ l) (both (ltb x y) (rising (y ∷ l)) e).1 k (le_of_suc-le-suc h)

rising_later : (l : List ℕ) → rising l ≡ true → (k m : ℕ) → k + suc m < length l → get_or l k 0 < get_or l (k + suc m) 0
rising_later l e k zero h = rw (add-suc, add-zero) (rising_next l e k (rw (add-suc, add-zero) at h))
rising_later l e k (suc m) h =
    let g : suc (k + suc m) < length l = rw add-suc at h in
    rw (add-suc k (suc m)) (lt_trans (rising_later l e k m (omega arith)) (rising_next l e (k + suc m) g))

-- the test, computed once over the table, gives the rule for each pair of entries: the character that stands earlier is the smaller byte
pub alphabet_rises : (k m : ℕ) → k < m → m < 32 → get_or alphabet k 0 < get_or alphabet m 0
unfolding alphabet rising
alphabet_rises k m h g =
    let e : m ≡ k + suc (m - suc k) = omega arith in
    subst⁻¹ (λ n. get_or alphabet k 0 < get_or alphabet n 0) e (rising_later alphabet refl k (m - suc k) (omega arith))

-- so bytes are in the order of the values that the characters stand for
pub alphabet_order : (k m : ℕ) → k < 32 → m < 32 → ltb (get_or alphabet k 0) (get_or alphabet m 0) ≡ ltb k m
alphabet_order k m h g = go (ltb k m) (ltb m k) refl refl
  where
    go : (a b : Bool) → ltb k m ≡ a → ltb m k ≡ b → ltb (get_or alphabet k 0) (get_or alphabet m 0) ≡ ltb k m
    go true b e f = lt-ltb _ _ (alphabet_rises k m (ltb-true k m e) g) ∙ sym e
    go false true e f =
        let w = alphabet_rises m k (ltb-true m k f) h in
        le-ltb _ _ (le_of_lt w) ∙ sym e
    go false false e f =
        let w : k ≡ m = omega (arith, ltb-false k m e, ltb-false m k f) in
        ap (λ n. ltb (get_or alphabet n 0) (get_or alphabet m 0)) w ∙ le-ltb _ _ (le_refl (get_or alphabet m 0)) ∙ sym e
