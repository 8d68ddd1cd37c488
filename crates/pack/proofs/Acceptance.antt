-- When a pack is accepted, and what its reading says: the theorems on `reading`, which specs/Acceptance.antt leads up to.
use Rattle.std.specs.Prelude.{ℕ, ◌+◌, ◌*◌, ◌≤◌, Bool, cond, List, [], ◌∷◌, ◌++◌, ◌↔◌, take, drop}
use Rattle.std.proofs.Math.Bool.{true, false}
use Rattle.std.proofs.Common.{append-nil, ⊎_elim, sym, ap, subst₂, ◌∙◌, add-zero, zero-add, arith, length-append, length-take, take_at, drop_at}
use Rattle.std.proofs.Math.Path.{◌≡◌, refl}
use borrow.Author.Tests.{le-ltb, ltb-false}
use Rattle.std.proofs.Math.Dec.{ltb}
use Rattle.std.proofs.Math.ListN.{length}
use Rattle.slices.specs.Bytes.{AllBytes}
use Rattle.tlv.specs.Layout.{Record, layout, layouts, length_layout}
use Rattle.tlv.specs.Found.{fault, step, step_none}
use Rattle.pack.specs.declared.Entry.{Entry}
use Rattle.pack.specs.Reading.{Reading, Ending, whole, refused, records, reading, records_end, records_shift, shift}
use Rattle.pack.specs.Acceptance.{AllFit, entries_of, after, records_layouts, Read, every_reading, Fills, Refusal}

-- ---- an accepted pack is within the limit, and is its records from the start on

module _ (limit : ℕ) (s : List ℕ) (accepted : (reading limit s).ending ≡ whole) where
  pub accepted_within : length s ≤ limit
  unfolding reading
  accepted_within = go (ltb limit (length s)) refl accepted
    where
      go : (t : Bool) → ltb limit (length s) ≡ t → (cond t (record { entries = []; ending = refused 1 0 }) (records 0 0 s)).ending ≡ whole → length s ≤ limit
      go true p h = let z : ◌≡◌ {A = ℕ} 0 1 = cc in absurd (omega arith)
      go false p h = ltb-false limit (length s) p

  pub accepted_reading : reading limit s ≡ records 0 0 s
  unfolding reading
  accepted_reading = rw (le-ltb limit (length s) accepted_within)

refused_same : {n m p q : ℕ} → ◌≡◌ {A = Ending} (refused n p) (refused m q) → (n ≡ m) × (p ≡ q)
refused_same e = (cc, cc)

never : (n place : ℕ) → whole ≡ refused n place → ⊥
never n place e = let z : ◌≡◌ {A = ℕ} 0 1 = cc in omega arith

entries_fill : (at : ℕ) (rs : List Record) → Fills at (entries_of at rs) (at + length (layouts rs))
unfolding layouts entries_of
entries_fill at [] = sym (add-zero at)
entries_fill at (r ∷ rs) =
    let next : at + (32 + length r.value) ≡ at + length (layout r) = ap (λ (n : ℕ). at + n) (sym (length_layout r)) in
    let stop : at + length (layout r ++ layouts rs) ≡ (at + length (layout r)) + length (layouts rs) = rw length-append (omega arith) in
    (refl, rw (next, stop) (entries_fill (at + length (layout r)) rs))

-- each of them has 32 bytes at least
fills_count : (at : ℕ) (es : List Entry) (stop : ℕ) → Fills at es stop → at + 32 * length es ≤ stop
fills_count at [] stop f = omega arith
fills_count at (e ∷ es) stop f = omega (arith, fills_count (at + (32 + e.length)) es stop f.1)

-- ---- within a limit

module _ (limit : ℕ) (s : List ℕ) (within : length s ≤ limit) where
  reading_within : reading limit s ≡ records 0 0 s
  unfolding reading
  reading_within = rw (le-ltb limit (length s) within)

  -- records end to end are accepted, with their entries
  pub layouts_accepted : (rs : List Record) → AllFit rs → layouts rs ≡ s → reading limit s ≡ record { entries = entries_of 0 rs; ending = whole }
  layouts_accepted rs fit e =
      reading_within ∙ ap (records 0 0) (sym e ∙ sym (append-nil (layouts rs))) ∙ records_layouts 0 rs [] fit
      ∙ rw (records_end (0 + length (layouts rs)) [] (step_none [] refl), append-nil)

  module _ (bytes : AllBytes s) where
    -- and nothing else is
    pub accepted_layouts : (reading limit s).ending ≡ whole → (rs : List Record) × AllFit rs × (layouts rs ≡ s)
    accepted_layouts e =
        let r = every_reading 0 s bytes in
        ⊎_elim
        (λ w. (r.before, r.fit, sym (append-nil (layouts r.before)) ∙ ap (λ (t : List ℕ). layouts r.before ++ t) (sym w.0) ∙ r.bytes))
        (λ f. absurd (never f.0 (0 + length (layouts r.before)) (sym e ∙ ap (λ (x : Reading). x.ending) reading_within ∙ f.2)))
        r.ending

    pub accepted_exactly : ((reading limit s).ending ≡ whole) ↔ ((rs : List Record) × AllFit rs × (layouts rs ≡ s))
    accepted_exactly = (accepted_layouts, λ l. ap (λ (x : Reading). x.ending) (layouts_accepted l.0 l.1 l.2))

    -- the entries fill the pack
    pub accepted_fills : (reading limit s).ending ≡ whole → Fills 0 (reading limit s).entries (length s)
    accepted_fills e =
        let l = accepted_layouts e in
        subst₂ (Fills 0) (ap (λ (x : Reading). x.entries) (sym (layouts_accepted l.0 l.1 l.2)))
        (zero-add (length (layouts l.0)) ∙ ap length l.2) (entries_fill 0 l.0)

    pub accepted_count : (reading limit s).ending ≡ whole → 32 * length (reading limit s).entries ≤ length s
    accepted_count e = omega (arith, fills_count 0 (reading limit s).entries (length s) (accepted_fills e))

pub refused_front : (limit : ℕ) (s : List ℕ) (n place : ℕ) → length s ≤ limit → AllBytes s → (reading limit s).ending ≡ refused n place → Refusal limit s n place
refused_front limit s n place within bytes e = ⊎_elim (λ w. absurd (never n place (sym w.1 ∙ is))) (λ f. go f.0 f.1 f.2) r.ending
  where
    r : Read 0 s
    r = every_reading 0 s bytes

    is : (records 0 0 s).ending ≡ refused n place
    is = sym (ap (λ (x : Reading). x.ending) (reading_within limit s within)) ∙ e

    entries : entries_of 0 r.before ≡ (reading limit s).entries
    entries = sym (ap (λ (x : Reading). x.entries) (reading_within limit s within) ∙ r.entries)

    go : (m : ℕ) → step r.rest ≡ fault m → (records 0 0 s).ending ≡ refused m (0 + length (layouts r.before)) → Refusal limit s n place
    go m stops there =
        let same = refused_same (sym there ∙ is) in
        let l : length (layouts r.before) ≡ place = sym (zero-add (length (layouts r.before))) ∙ same.1 in
        let front : layouts r.before ≡ take place s = sym (take_at (layouts r.before) r.rest place l) ∙ ap (take place) r.bytes in
        let rest : drop place s ≡ r.rest = ap (drop place) (sym r.bytes) ∙ drop_at (layouts r.before) r.rest place l in
        record {
          fault_there = ap step rest ∙ stops ∙ ap fault same.0;
          fills = subst₂ (Fills 0) entries same.1 (entries_fill 0 r.before);
          front = layouts_accepted limit (take place s) (rw length-take (omega arith)) r.before r.fit front
              ∙ (λ i. record { entries = entries i; ending = whole });
        }

-- ---- a pack behind an accepted pack is read as by itself, places shifted

pub behind : (limit : ℕ) (s t : List ℕ) → AllBytes s → length (s ++ t) ≤ limit → (reading limit s).ending ≡ whole
    → reading limit (s ++ t) ≡ after (reading limit s).entries (shift (length s) (reading limit t))
behind limit s t bytes within e =
    let ws : length s ≤ limit = omega (arith, length-append s t) in
    let wt : length t ≤ limit = omega (arith, length-append s t) in
    let l = accepted_layouts limit s ws bytes e in
    let entries : entries_of 0 l.0 ≡ (reading limit s).entries = ap (λ (x : Reading). x.entries) (sym (layouts_accepted limit s ws l.0 l.1 l.2)) in
    let shifted : records (0 + length (layouts l.0)) 0 t ≡ shift (length s) (reading limit t) =
    ap (λ (u : List ℕ). records (0 + length u) 0 t) l.2 ∙ records_shift (length s) 0 0 t ∙ ap (shift (length s)) (sym (reading_within limit t wt)) in
    reading_within limit (s ++ t) within
    ∙ ap (λ (u : List ℕ). records 0 0 (u ++ t)) (sym l.2)
    ∙ records_layouts 0 l.0 t l.1
    ∙ (λ i. after (entries i) (shifted i))
