-- The search by a value's hash: the place of the first entry that has it, or that none has. What an entry's hash is, is a theorem beside it.
use Prim.Native.Nat.{ℕ, zero, suc, ◌+◌, ◌-◌, ◌≤◌, ◌<◌}
use Rattle.std.specs.Prelude.{Bool, cond, ◌≡◌, ltb, length, get_or, take, drop}
use Rattle.std.proofs.Math.Bool.{true, false}
use mathlib.Core.List.Memᴰ
use mathlib.Core.List.{List, [], ◌∷◌, Memᴰ}
use Rattle.std.proofs.Common.{⊎_elim, sym, ap, subst, ◌∙◌, arith, eq-eqb, ne_eqb, drop-drop}
use Rattle.std.specs.Prelude.{Option, None, Some}
use Rattle.std.proofs.Math.Path.{refl}
use Rattle.std.proofs.Math.Dec.{eqb}
use Rattle.tlv.specs.Found.{Found, end, found, fault, step, header_of}
use Rattle.tlv.specs.Stands.{step_stands}
use Rattle.tlv.specs.declared.RecordHeader.{RecordHeader}
use Rattle.xxh64.specs.Xxh64.{xxh64}
use Rattle.pack.specs.declared.Entry.{Entry}
use Rattle.pack.specs.Reading.{Reading, refused, next, records, reading, entry_at}
use Rattle.pack.specs.Scan.{no_entry}

-- the first of the places from `at` on, so many of them, at which f is n
unfoldable pub first : (ℕ → ℕ) → ℕ → ℕ → ℕ → Option ℕ
first f n at zero = None
first f n at (suc k) = cond (eqb (f at) n) (Some at) (first f n (suc at) k)

abbrev pub hash_at : List Entry → ℕ → ℕ
hash_at es k = (get_or es k no_entry).hash

-- the place of the first entry with the hash n, from 0
abbrev pub first_with : ℕ → List Entry → Option ℕ
first_with n es = first (hash_at es) n 0 (length es)

-- ---- what the answers mean, without a search, over any f and count: the place has n and none before it does; or none has

pub record First (f : ℕ → ℕ) (n count k : ℕ) : Type 0 where
  pub inside : k < count
  pub has : f k ≡ n
  pub none_before : (j : ℕ) → j < k → f j ≡ n → ⊥

abbrev pub Absent : (ℕ → ℕ) → ℕ → ℕ → Type 0
Absent f n count = (j : ℕ) → j < count → f j ≡ n → ⊥

-- ---- a search that has come to the place i

pub first_here : (f : ℕ → ℕ) (n count i : ℕ) → i < count → f i ≡ n → first f n i (count - i) ≡ Some i
unfolding first
first_here f n count i l e =
    let k : count - i ≡ suc (count - suc i) = omega arith in
    rw (k, eq-eqb (f i) n e)

pub first_later : (f : ℕ → ℕ) (n count i : ℕ) → i < count → (f i ≡ n → ⊥) → first f n i (count - i) ≡ first f n (suc i) (count - suc i)
unfolding first
first_later f n count i l e =
    let k : count - i ≡ suc (count - suc i) = omega arith in
    rw (k, ne_eqb (f i) n e)

pub first_nowhere : (f : ℕ → ℕ) (n count i : ℕ) → count ≤ i → first f n i (count - i) ≡ None
unfolding first
first_nowhere f n count i l =
    let k : count - i ≡ 0 = omega arith in
    rw k

-- ---- every entry's hash is that of its value, in accepted packs and before the fault of refused ones: its `length` bytes from byte 32 of the record on

abbrev pub HashOfValue : List ℕ → Entry → Type 0
HashOfValue s e = e.hash ≡ xxh64 (take e.length (drop (e.start + 32) s))

abbrev Hashed : List ℕ → Reading → Type 0
Hashed s r = (e : Entry) → Memᴰ e r.entries → HashOfValue s e

none_hashed : (s : List ℕ) (e : Entry) → Memᴰ e [] → HashOfValue s e
none_hashed s e m = absurd (Memᴰ.not-nil m)

-- where a record stands at a place, its entry's is
entry_hashed : (s : List ℕ) (at : ℕ) (h : RecordHeader) → step (drop at s) ≡ found h → HashOfValue s (entry_at at h)
unfolding header_of
entry_hashed s at h e =
    let stands = step_stands (drop at s) h e in
    rw (← drop-drop 32 at s, ← stands.header) stands.value_hash

-- one byte on
behind : (s : List ℕ) (at b : ℕ) (t : List ℕ) → drop at s ≡ b ∷ t → drop (suc at) s ≡ t
behind s at b t there =
    let p : at + 1 ≡ suc at = omega arith in
    ap (λ (k : ℕ). drop k s) (sym p) ∙ sym (drop-drop 1 at s) ∙ ap (drop 1) there

records_hashed : (s : List ℕ) (at skip : ℕ) (t : List ℕ) → drop at s ≡ t → Hashed s (records at skip t)
unfolding records
records_hashed s at skip [] there = none_hashed s
records_hashed s at zero (b ∷ t) there = go (step (b ∷ t)) refl (λ n. records_hashed s (suc at) n t (behind s at b t there))
  where
    go : (f : Found) → step (b ∷ t) ≡ f → ((n : ℕ) → Hashed s (records (suc at) n t)) → Hashed s (next f at (λ n. records (suc at) n t))
    go end e more = none_hashed s
    go (fault n) e more = none_hashed s
    go (found h) e more = λ d m.
        ⊎_elim (λ same. subst (HashOfValue s) (sym same) (entry_hashed s at h (ap step there ∙ e))) (more (31 + h.length) d) (Memᴰ.cases_cons m)
records_hashed s at (suc skip) (b ∷ t) there = records_hashed s (suc at) skip t (behind s at b t there)

pub hash_is_xxh64 : (limit : ℕ) (s : List ℕ) (e : Entry) → Memᴰ e (reading limit s).entries → HashOfValue s e
unfolding reading
hash_is_xxh64 limit s = go (ltb limit (length s))
  where
    go : (t : Bool) → Hashed s (cond t (record { entries = []; ending = refused 1 0 }) (records 0 0 s))
    go true = none_hashed s
    go false = records_hashed s 0 0 s refl
