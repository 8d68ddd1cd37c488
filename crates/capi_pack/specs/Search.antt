-- The search by a value's hash among words that tell of entries, four for each. It is the search of `pack::find_hash`, over the fourth words.
use Rattle.std.specs.Prelude.{ℕ, zero, suc, ◌+◌, ◌*◌, ◌/◌, ◌^◌, ◌≤◌, ◌<◌, cond, List, [], ◌∷◌, ◌≡◌, refl, ltb, length, get_or}
use Rattle.std.specs.Prelude.{Option, None, Some}
use Rattle.std.proofs.Math.Path.{fun_ext}
use Rattle.std.proofs.Common.{arith, lt-ltb, le-ltb}
use Rattle.pack.specs.Search.{first, first_with, hash_at}
use Rattle.pack.proofs.Search.{first_exactly}
use Rattle.pack.specs.declared.Entry.{Entry}
use Rattle.words.specs.Words.{answer}
use Rattle.capi_pack.specs.Scan.{entry_words, length_words}

-- the hash of entry number k
abbrev pub hash_told : List ℕ → ℕ → ℕ
hash_told told k = get_or told (4 * k + 3) 0

-- 1 and the place that was found, or 0
abbrev pub place_word : Option ℕ → ℕ
place_word None = 0
place_word (Some k) = 1 + k

abbrev pub search_word : ℕ → List ℕ → ℕ
search_word n told = place_word (first (hash_told told) n 0 (length told / 4))

unfoldable pub search_answer : ℕ → List ℕ → ℕ
search_answer n told = cond (ltb (2 ^ 34) (length told)) (answer 20 0) (answer 0 (search_word n told))

-- ---- by the number of words

pub search_refused : (n : ℕ) (told : List ℕ) → 2 ^ 34 < length told → search_answer n told ≡ answer 20 0
unfolding search_answer
search_refused n told l = rw (lt-ltb (2 ^ 34) (length told) l)

pub search_within : (n : ℕ) (told : List ℕ) → length told ≤ 2 ^ 34 → search_answer n told ≡ answer 0 (search_word n told)
unfolding search_answer
search_within n told l = rw (le-ltb (2 ^ 34) (length told) l)

-- a place lies in the list
pub search_word_most : (n : ℕ) (told : List ℕ) → search_word n told ≤ length told
search_word_most n told = go (first (hash_told told) n 0 (length told / 4)) refl
  where
    go : (o : Option ℕ) → first (hash_told told) n 0 (length told / 4) ≡ o → place_word o ≤ length told
    go None e = omega arith
    go (Some k) e = omega (arith, ((first_exactly (hash_told told) n (length told / 4) k).0 e).inside)

-- ---- among the words that a scan tells, the search finds what `pack::find_hash` finds among the entries

hash_told_lem : (es : List Entry) (k : ℕ) → hash_told (entry_words es) k ≡ hash_at es k
unfolding entry_words
hash_told_lem [] k = refl
hash_told_lem (e ∷ es) zero = refl
hash_told_lem (e ∷ es) (suc k) =
    let p : 4 * suc k + 3 ≡ suc (suc (suc (suc (4 * k + 3)))) = omega arith in
    rw p (hash_told_lem es k)

pub words_searched : (n : ℕ) (es : List Entry) → search_word n (entry_words es) ≡ place_word (first_with n es)
words_searched n es =
    let count : length (entry_words es) / 4 ≡ length es = omega (arith, length_words es) in
    rw (count, fun_ext (hash_told_lem es))
