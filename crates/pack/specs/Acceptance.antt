-- When a pack is accepted, and what its reading says. The records of a list, one after the other, are its layouts; where a fault is met, the front
-- up to it is accepted by itself. The theorems on `reading` are in proofs/Acceptance.antt.
use Rattle.std.specs.Prelude.{ℕ, zero, suc, ◌+◌, ◌≤◌, List, [], ◌∷◌, ◌++◌, ◌⊎◌, take, drop}
use Rattle.std.proofs.Common.{append_assoc, inl, inr, ⊎_elim, sym, ap, ◌∙◌, add-zero, add_assoc, arith, length-append, length-drop, take-append-drop, drop_at, length-take-le}
use Rattle.std.proofs.Math.Path.{◌≡◌, refl}
use Rattle.std.proofs.Math.ListN.{length}
use Rattle.slices.specs.Bytes.{AllBytes, drop_bytes}
use Rattle.xxh64.specs.Xxh64.{xxh64}
use Rattle.tlv.specs.Layout.{Record, Fits, layout, layouts, length_layout}
use Rattle.tlv.specs.Found.{Found, end, found, fault, step, made, step_none, step_end}
use Rattle.tlv.specs.Stands.{Stands, record_of, step_stands, stands_fits, stands_layout, stands_made, layout_step, record_of_layout}
use Rattle.tlv.specs.declared.RecordHeader.{RecordHeader}
use Rattle.pack.specs.declared.Entry.{Entry}
use Rattle.pack.specs.Reading.{Reading, whole, refused, cons, records, reading, records_end, records_fault, records_found, entry_at}

abbrev pub AllFit : List Record → Type 0
AllFit [] = Unit {0}
AllFit (r ∷ rs) = Fits r × AllFit rs

-- the entries of records that stand end to end from a place on
abbrev pub entry_of : ℕ → Record → Entry
entry_of at r = record { start = at; tag = r.tag; length = length r.value; hash = xxh64 r.value }

unfoldable pub entries_of : ℕ → List Record → List Entry
entries_of at [] = []
entries_of at (r ∷ rs) = entry_of at r ∷ entries_of (at + length (layout r)) rs

-- a reading that goes on from these entries
abbrev pub after : List Entry → Reading → Reading
after es r = record { entries = es ++ r.entries; ending = r.ending }

-- ---- records that stand end to end are read as such, whatever follows

records_layout : (at : ℕ) (r : Record) (rest : List ℕ) → Fits r
    → records at 0 (layout r ++ rest) ≡ cons (entry_of at r) (records (at + length (layout r)) 0 rest)
unfolding made
records_layout at r rest fits =
    records_found at (layout r ++ rest) (made r.tag r.value) (layout_step r rest fits)
    ∙ rw (← length_layout r, drop_at (layout r) rest (length (layout r)) refl)

pub records_layouts : (at : ℕ) (rs : List Record) (rest : List ℕ) → AllFit rs
    → records at 0 (layouts rs ++ rest) ≡ after (entries_of at rs) (records (at + length (layouts rs)) 0 rest)
unfolding layouts entries_of
records_layouts at [] rest fit = rw add-zero
records_layouts at (r ∷ rs) rest fit =
    rw (append_assoc, records_layout at r (layouts rs ++ rest) fit.0, records_layouts (at + length (layout r)) rs rest fit.1, length-append, add_assoc)

-- ---- every reading is of that kind: records end to end, and then the end, or a fault at the place where they end

pub record Read (at : ℕ) (s : List ℕ) : Type 0 where
  pub before : List Record
  pub rest : List ℕ
  pub fit : AllFit before
  pub bytes : layouts before ++ rest ≡ s
  pub entries : (records at 0 s).entries ≡ entries_of at before
  pub ending :
      ((rest ≡ []) × ((records at 0 s).ending ≡ whole))
      ⊎ ((n : ℕ) × (step rest ≡ fault n) × ((records at 0 s).ending ≡ refused n (at + length (layouts before))))

none_left : (s : List ℕ) → length s ≡ 0 → s ≡ []
none_left [] e = refl
none_left (b ∷ s) e = absurd (omega arith)

read_end : (at : ℕ) (s : List ℕ) → length s ≡ 0 → Read at s
unfolding layouts entries_of
read_end at s e =
    let r = records_end at s (step_none s e) in
    record {
      before = [];
      rest = [];
      fit = tt;
      bytes = sym (none_left s e);
      entries = ap (λ (x : Reading). x.entries) r;
      ending = inl (refl, ap (λ (x : Reading). x.ending) r);
    }

read_fault : (at : ℕ) (s : List ℕ) (n : ℕ) → step s ≡ fault n → Read at s
unfolding layouts entries_of
read_fault at s n e =
    let r = records_fault at s n e in
    record {
      before = [];
      rest = s;
      fit = tt;
      bytes = refl;
      entries = ap (λ (x : Reading). x.entries) r;
      ending = inr (n, e, ap (λ (x : Reading). x.ending) r ∙ ap (refused n) (sym (add-zero at)));
    }

-- one record more in front
read_more : (at : ℕ) (s : List ℕ) (h : RecordHeader) → AllBytes s → step s ≡ found h → Read (at + (32 + h.length)) (drop (32 + h.length) s) → Read at s
unfolding layouts entries_of made
read_more at s h bytes e r =
    let stands : Stands s h = step_stands s h e in
    let first : Record = record_of s in
    let l : layout first ≡ take (32 + h.length) s = stands_layout s h bytes stands in
    let n : length (layout first) ≡ 32 + h.length = ap length l ∙ length-take-le (32 + h.length) s stands.long in
    let entry : entry_at at h ≡ entry_of at first = ap (entry_at at) (sym (stands_made s h bytes stands)) in
    let one : records at 0 s ≡ cons (entry_at at h) (records (at + (32 + h.length)) 0 (drop (32 + h.length) s)) = records_found at s h e in
    let place : (at + (32 + h.length)) + length (layouts r.before) ≡ at + length (layout first ++ layouts r.before)
    = rw (length-append, n) (omega arith) in
    record {
      before = first ∷ r.before;
      rest = r.rest;
      fit = (stands_fits s h bytes stands, r.fit);
      bytes = rw (append_assoc, r.bytes, l) (take-append-drop (32 + h.length) s);
      entries = rw (one, r.entries, entry, n);
      ending = rw one (⊎_elim (λ w. inl w) (λ f. inr (f.0, f.1, f.2 ∙ ap (refused f.0) place)) r.ending);
    }

read : (k at : ℕ) (s : List ℕ) → length s ≤ k → AllBytes s → Read at s
read zero at s h bytes = read_end at s (omega arith)
read (suc k) at s h bytes = go (step s) refl (λ p t. read k p t)
  where
    go : (f : Found) → step s ≡ f → ((p : ℕ) (t : List ℕ) → length t ≤ k → AllBytes t → Read p t) → Read at s
    go end e more = read_end at s (step_end s e)
    go (found d) e more = read_more at s d bytes e
        (more (at + (32 + d.length)) (drop (32 + d.length) s) (rw length-drop (omega arith)) (drop_bytes (32 + d.length) bytes))
    go (fault n) e more = read_fault at s n e

-- THE THEOREM that the others here are read off from
pub every_reading : (at : ℕ) (s : List ℕ) → AllBytes s → Read at s
every_reading at s bytes = read (length s) at s (omega arith) bytes

-- ---- a pack is the layout of one list of records only

no_record : (r : Record) (rs : List Record) → [] ≡ layout r ++ layouts rs → ⊥
no_record r rs e = omega (arith, ap length e ∙ length-append (layout r) (layouts rs), length_layout r)

pub layouts_unique : (rs ts : List Record) → AllFit rs → AllFit ts → layouts rs ≡ layouts ts → rs ≡ ts
unfolding layouts
layouts_unique [] [] f g e = refl
layouts_unique [] (t ∷ ts) f g e = absurd (no_record t ts e)
layouts_unique (r ∷ rs) [] f g e = absurd (no_record r rs (sym e))
layouts_unique (r ∷ rs) (t ∷ ts) f g e =
    let first : r ≡ t = sym (record_of_layout r (layouts rs) f.0) ∙ ap record_of e ∙ record_of_layout t (layouts ts) g.0 in
    let n : length (layout r) ≡ length (layout t) = ap (λ (x : Record). length (layout x)) first in
    let others : layouts rs ≡ layouts ts =
    sym (drop_at (layout r) (layouts rs) (length (layout r)) refl) ∙ ap (drop (length (layout r))) e
    ∙ drop_at (layout t) (layouts ts) (length (layout r)) (sym n) in
    λ i. first i ∷ layouts_unique rs ts f.1 g.1 others i

-- ---- starts rise, each record begins where the one before ends, the last ends at `stop`

abbrev pub Fills : ℕ → List Entry → ℕ → Type 0
Fills at [] stop = at ≡ stop
Fills at (e ∷ es) stop = (e.start ≡ at) × Fills (at + (32 + e.length)) es stop

-- a refusal's place is where the records before it end; the front up to there is accepted, with their entries
pub record Refusal (limit : ℕ) (s : List ℕ) (n place : ℕ) : Type 0 where
  pub fault_there : step (drop place s) ≡ fault n
  pub fills : Fills 0 (reading limit s).entries place
  pub front : reading limit (take place s) ≡ record { entries = (reading limit s).entries; ending = whole }
