-- Counts and places that a reading tells are within the limit on a pack's length: each record takes a byte at least.
use Rattle.std.specs.Prelude.{ℕ, zero, suc, ◌+◌, ◌≤◌, Bool, true, false, cond, ◌≡◌, refl, ltb, length}
use mathlib.Core.List.Memᴰ
use mathlib.Core.List.{List, [], ◌∷◌, Memᴰ}
use Rattle.std.proofs.Common.{⊎_elim, arith, ltb-false}
use Rattle.tlv.specs.Found.{Found, end, found, fault, step}
use Rattle.pack.specs.Reading.{Reading, whole, refused, next, records, reading}
use Rattle.pack.specs.declared.Entry.{Entry}

-- of a reading from `at` on
pub record Bounded (at k : ℕ) (r : Reading) : Type 0 where
  pub count : at + length r.entries ≤ k
  pub starts : (e : Entry) → Memᴰ e r.entries → e.start ≤ k
  pub place : (n p : ℕ) → r.ending ≡ refused n p → p ≤ k

module _ (at k : ℕ) (within : at ≤ k) where
  none_there : (e : Entry) → Memᴰ e [] → e.start ≤ k
  none_there e m = absurd (Memᴰ.not-nil m)

  whole_bounded : Bounded at k (record { entries = []; ending = whole })
  whole_bounded = record { count = omega arith; starts = none_there; place = λ n p e. let z : ◌≡◌ {A = ℕ} 0 1 = cc in absurd (omega arith) }

  refused_bounded : (m : ℕ) → Bounded at k (record { entries = []; ending = refused m at })
  refused_bounded m = record { count = omega arith; starts = none_there; place = λ n p e. let same : at ≡ p = cc in omega arith }

records_bounded : (at skip k : ℕ) (s : List ℕ) → at + length s ≤ k → Bounded at k (records at skip s)
unfolding records
records_bounded at skip k [] h = whole_bounded at k (omega arith)
records_bounded at zero k (b ∷ s) h = go (step (b ∷ s)) (λ n. records_bounded (suc at) n k s (omega arith))
  where
    go : (f : Found) → ((n : ℕ) → Bounded (suc at) k (records (suc at) n s)) → Bounded at k (next f at (λ n. records (suc at) n s))
    go end more = whole_bounded at k (omega arith)
    go (found d) more =
        let r = more (31 + d.length) in
        record {
          count = omega (arith, r.count);
          starts = λ x m. ⊎_elim (λ same. rw same (omega arith)) (r.starts x) (Memᴰ.cases_cons m);
          place = r.place;
        }
    go (fault m) more = refused_bounded at k (omega arith) m
records_bounded at (suc skip) k (b ∷ s) h =
    let r = records_bounded (suc at) skip k s (omega arith) in
    record { count = omega (arith, r.count); starts = r.starts; place = r.place }

pub reading_bounded : (limit : ℕ) (s : List ℕ) → Bounded 0 limit (reading limit s)
unfolding reading
reading_bounded limit s = go (ltb limit (length s)) refl
  where
    go : (t : Bool) → ltb limit (length s) ≡ t → Bounded 0 limit (cond t (record { entries = []; ending = refused 1 0 }) (records 0 0 s))
    go true e = refused_bounded 0 limit (omega arith) 1
    go false e = records_bounded 0 0 limit s (omega (arith, ltb-false limit (length s) e))
