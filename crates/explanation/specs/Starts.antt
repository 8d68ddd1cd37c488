-- Records of a pack start one behind the other: where one starts, no other does.
use Rattle.std.specs.Prelude.{ℕ, zero, suc, ◌+◌, ◌≤◌, ◌<◌, Bool, cond, ◌≡◌, ltb, length}
use Rattle.std.proofs.Math.Bool.{true, false}
use mathlib.Core.List.Memᴰ
use mathlib.Core.List.{List, [], ◌∷◌, ◌++◌, map, Memᴰ}
use Rattle.std.proofs.Common.{⊎_elim, sym, ap, ◌∙◌, arith}
use Rattle.tlv.specs.Found.{Found, end, found, fault, step}
use Rattle.pack.specs.Reading.{refused, next, records, reading}
use Rattle.pack.specs.declared.Entry.{Entry}
use Rattle.current_version.specs.Current.{Placed, placed}

-- each starts behind those before it
abbrev pub Rising : List Placed → Type 0
Rising [] = Unit {0}
Rising (p ∷ ps) = ((q : Placed) → Memᴰ q ps → p.start < q.start) × Rising ps

-- ---- the entries of a reading

-- from a place on
abbrev RiseFrom : ℕ → List Entry → Type 0
RiseFrom k [] = Unit {0}
RiseFrom k (e ∷ es) = (k ≤ e.start) × RiseFrom (suc e.start) es

rise_earlier : (k : ℕ) (es : List Entry) → RiseFrom (suc k) es → RiseFrom k es
rise_earlier k [] h = tt
rise_earlier k (e ∷ es) h = (omega (arith, h.0), h.1)

records_rise : (at skip : ℕ) (s : List ℕ) → RiseFrom at (records at skip s).entries
unfolding records
records_rise at skip [] = tt
records_rise at zero (b ∷ s) = go (step (b ∷ s)) (λ n. records_rise (suc at) n s)
  where
    go : (f : Found) → ((n : ℕ) → RiseFrom (suc at) (records (suc at) n s).entries) → RiseFrom at (next f at (λ n. records (suc at) n s)).entries
    go end more = tt
    go (found h) more = (omega arith, more (31 + h.length))
    go (fault n) more = tt
records_rise at (suc skip) (b ∷ s) = rise_earlier at (records (suc at) skip s).entries (records_rise (suc at) skip s)

module _ (limit : ℕ) (s : List ℕ) where
  starts_from : (k : ℕ) (es : List Entry) → RiseFrom k es → (q : Placed) → Memᴰ q (map (placed limit s) es) → k ≤ q.start
  starts_from k [] h q m = absurd (Memᴰ.not-nil m)
  starts_from k (e ∷ es) h q m =
      ⊎_elim (λ same. rw same h.0) (λ n. omega (arith, h.0, starts_from (suc e.start) es h.1 q n)) (Memᴰ.cases_cons m)

  entries_rise : (k : ℕ) (es : List Entry) → RiseFrom k es → Rising (map (placed limit s) es)
  entries_rise k [] h = tt
  entries_rise k (e ∷ es) h = (λ q m. omega (arith, starts_from (suc e.start) es h.1 q m), entries_rise (suc e.start) es h.1)

  pub pack_rises : Rising (map (placed limit s) (reading limit s).entries)
  unfolding reading
  pack_rises = go (ltb limit (length s))
    where
      go : (t : Bool) → Rising (map (placed limit s) (cond t (record { entries = []; ending = refused 1 0 }) (records 0 0 s)).entries)
      go true = tt
      go false = entries_rise 0 (records 0 0 s).entries (records_rise 0 0 s)

-- ---- what follows

-- no two records start at one place
pub one_there : (ps : List Placed) → Rising ps → (p q : Placed) → Memᴰ p ps → Memᴰ q ps → p.start ≡ q.start → p ≡ q
one_there [] h p q m n e = absurd (Memᴰ.not-nil m)
one_there (x ∷ ps) h p q m n e =
    ⊎_elim
    (λ a.
    ⊎_elim (λ b. a ∙ sym b) (λ k. let there : x.start ≡ p.start = ap (λ (y : Placed). y.start) (sym a) in absurd (omega (arith, h.0 q k)))
    (Memᴰ.cases_cons n))
    (λ j.
    ⊎_elim (λ b. let there : x.start ≡ q.start = ap (λ (y : Placed). y.start) (sym b) in absurd (omega (arith, h.0 p j)))
    (λ k. one_there ps h.1 p q j k e) (Memᴰ.cases_cons n))
    (Memᴰ.cases_cons m)

-- one behind another in the list starts behind it
pub behind : (front : List Placed) (p : Placed) (back : List Placed) → Rising (front ++ (p ∷ back)) → (q : Placed) → Memᴰ q back → p.start < q.start
behind [] p back h q m = h.0 q m
behind (x ∷ front) p back h q m = behind front p back h.1 q m
