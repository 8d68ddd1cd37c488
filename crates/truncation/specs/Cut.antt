-- A pack cut off (Ticket 11 of document 02): of an accepted pack, what its first n bytes are read as.
use Prim.Native.Nat.{ℕ, ◌+◌, ◌-◌, ◌≤◌, ◌<◌}
use Rattle.std.specs.Prelude.{Bool, true, false, ◌⊎◌, ◌≡◌, refl, ltb, get_or, take}
use mathlib.Core.List.{List, [], ◌∷◌, ◌++◌, append-nil}
use Rattle.std.proofs.Common.{inl, inr, sym, subst, ◌∙◌, zero-add, add-zero, arith, le-ltb, ltb-true, ltb-false, take-append-drop, drop-drop}
use Rattle.std.proofs.Math.Path.{ap}
use Rattle.std.proofs.Math.ListN.{length, drop, length-drop}
use Rattle.std.proofs.lemmas.List.{drop-append-le}
use Rattle.std.proofs.Math.Seq.{length-take-le, append_snoc}
use Rattle.tlv.specs.Found.{Found, end, found, fault, step, step_none}
use Rattle.tlv.specs.Stands.{step_stands}
use Rattle.tlv.specs.declared.RecordHeader.{RecordHeader}
use Rattle.pack.specs.declared.Entry.{Entry}
use Rattle.pack.specs.Reading.{Reading, whole, refused, records, reading, entry_at, records_end, records_fault, records_found}
use Rattle.pack.specs.Acceptance.{Fills, after}
use Rattle.pack.proofs.Acceptance.{accepted_within, accepted_reading}
use Rattle.truncation.specs.Steps.{cut_number, record_left}

-- ---- where a cut falls, in a pack with these entries

-- between two records or at an end: the entries before it fill its n bytes
pub record BetweenRecords (es : List Entry) (n : ℕ) : Type 0 where
  pub before : List Entry
  pub behind : List Entry
  pub entries : before ++ behind ≡ es
  pub fills : Fills 0 before n

-- inside a record: some of its bytes are left, and not all
pub record InsideRecord (es : List Entry) (n : ℕ) : Type 0 where
  pub before : List Entry
  pub broken : Entry
  pub behind : List Entry
  pub entries : before ++ (broken ∷ behind) ≡ es
  pub fills : Fills 0 before broken.start
  pub begun : broken.start < n
  pub unfinished : n < broken.start + (32 + broken.length)

-- ---- what the first n bytes are read as

pub record CutOff (limit : ℕ) (s : List ℕ) (n : ℕ) : Type 0 where
  -- a cut falls in exactly one of the two ways
  pub either_way : BetweenRecords (reading limit s).entries n ⊎ InsideRecord (reading limit s).entries n
  pub not_both : BetweenRecords (reading limit s).entries n → InsideRecord (reading limit s).entries n → ⊥
  -- between records or at an end, the front is accepted, with the entries before the cut
  pub accepted : (c : BetweenRecords (reading limit s).entries n) → reading limit (take n s) ≡ record { entries = c.before; ending = whole }
  -- otherwise it is refused, at the start of the broken record, with 2 or 7
  pub broken_refused : (c : InsideRecord (reading limit s).entries n)
      → reading limit (take n s) ≡ record { entries = c.before; ending = refused (cut_number (n - c.broken.start)) c.broken.start }
  -- and the front up to that place is accepted, with the same entries as before
  pub front_accepted : (c : InsideRecord (reading limit s).entries n)
      → reading limit (take c.broken.start s) ≡ record { entries = c.before; ending = whole }

-- ---- the first record, by the entries that are read

-- the first entry is e, es follow
pub record First (at : ℕ) (s : List ℕ) (e : Entry) (es : List Entry) : Type 0 where
  pub header : RecordHeader
  pub there : step s ≡ found header
  pub entry : entry_at at header ≡ e
  pub others : (records (at + (32 + header.length)) 0 (drop (32 + header.length) s)).entries ≡ es

none_read : {A : Type 0} (e : Entry) (es : List Entry) → ◌≡◌ {A = List Entry} [] (e ∷ es) → A
none_read e es p = absurd (omega (arith, ap length p))

pub first : (at : ℕ) (s : List ℕ) (e : Entry) (es : List Entry) → (records at 0 s).entries ≡ e ∷ es → First at s e es
first at s e es read = go (step s) refl
  where
    go : (f : Found) → step s ≡ f → First at s e es
    go end is = none_read e es (sym (ap (λ (r : Reading). r.entries) (records_end at s is)) ∙ read)
    go (fault n) is = none_read e es (sym (ap (λ (r : Reading). r.entries) (records_fault at s n is)) ∙ read)
    go (found h) is =
        let both = sym (ap (λ (r : Reading). r.entries) (records_found at s h is)) ∙ read in
        record { header = h; there = is; entry = ap (λ (l : List Entry). get_or l 0 e) both; others = ap (drop 1) both }

-- ---- the records before a cut are read as before, and then what is left behind them

fills_rise : (at : ℕ) (es : List Entry) (stop : ℕ) → Fills at es stop → at ≤ stop
fills_rise at [] stop f = omega arith
fills_rise at (e ∷ es) stop f = omega (arith, fills_rise (at + (32 + e.length)) es stop f.1)

-- x is a front of x ++ y; the entries `before` fill its first m bytes, and in x ++ y the entries `behind` follow
pub record Passes (before behind : List Entry) (at m : ℕ) (x y : List ℕ) : Type 0 where
  pub front : records at 0 x ≡ after before (records (at + m) 0 (drop m x))
  pub whole_pack : (records (at + m) 0 (drop m x ++ y)).entries ≡ behind

passes : (before behind : List Entry) (at m : ℕ) (x y : List ℕ) → (records at 0 (x ++ y)).entries ≡ before ++ behind → Fills at before (at + m) → m ≤ length x
    → Passes before behind at m x y
passes [] behind at m x y read fills inside =
    let none : m ≡ 0 = omega arith in
    record { front = rw (none, add-zero); whole_pack = rw (none, add-zero) read }
passes (e ∷ before) behind at m x y read fills inside =
    let f = first at (x ++ y) e (before ++ behind) read in
    let size : ℕ = 32 + f.header.length in
    let long : at + (32 + e.length) ≤ at + m = fills_rise (at + (32 + e.length)) before (at + m) fills.1 in
    let same : e.length ≡ f.header.length = ap (λ (d : Entry). d.length) (sym f.entry) in
    let stop : at + m ≡ (at + size) + (m - size) = omega arith in
    let ends : size + (m - size) ≡ m = omega arith in
    let place : at + (32 + e.length) ≡ at + size = omega arith in
    let left : drop size (x ++ y) ≡ drop size x ++ y = drop-append-le size x y (omega arith) in
    let more = passes before behind (at + size) (m - size) (drop size x) y
    (ap (λ (t : List ℕ). (records (at + size) 0 t).entries) (sym left) ∙ f.others)
    (subst (λ (p : ℕ). Fills p before ((at + size) + (m - size))) place (subst (Fills (at + (32 + e.length)) before) stop fills.1))
    (rw length-drop (omega arith)) in
    let rest : drop (m - size) (drop size x) ≡ drop m x = drop-drop (m - size) size x ∙ ap (λ (k : ℕ). drop k x) ends in
    record {
      front = records_found at x f.header (record_left x y f.header (step_stands (x ++ y) f.header f.there) (omega arith) (omega arith))
          ∙ rw (more.front, f.entry, rest, ← stop);
      whole_pack = rw (stop, ← rest) more.whole_pack;
    }

-- ---- an accepted pack, cut between records or inside one

module _ (limit : ℕ) (s : List ℕ) (accepted : (reading limit s).ending ≡ whole) (n : ℕ) (inside : n ≤ length s) where
  pub within : length (take n s) ≤ limit
  within = omega (arith, length-take-le n s inside, accepted_within limit s accepted)

  -- the records before a place that is not behind the cut
  pub before_cut : (before behind : List Entry) (m : ℕ) → before ++ behind ≡ (reading limit s).entries → Fills 0 before m → m ≤ n
      → Passes before behind 0 m (take n s) (drop n s)
  before_cut before behind m entries fills here =
      passes before behind 0 m (take n s) (drop n s)
      (ap (λ (t : List ℕ). (records 0 0 t).entries) (take-append-drop n s)
      ∙ ap (λ (r : Reading). r.entries) (sym (accepted_reading limit s accepted)) ∙ sym entries)
      (rw zero-add fills) (omega (arith, length-take-le n s inside))

  pub cut_between : (c : BetweenRecords (reading limit s).entries n) → reading limit (take n s) ≡ record { entries = c.before; ending = whole }
  unfolding reading
  cut_between c =
      let p = before_cut c.before c.behind n c.entries c.fills (omega arith) in
      let none : length (drop n (take n s)) ≡ 0 = length-drop n (take n s) ∙ omega (arith, length-take-le n s inside) in
      rw (le-ltb limit (length (take n s)) within, p.front, records_end (0 + n) (drop n (take n s)) (step_none (drop n (take n s)) none), append-nil)

-- ---- a cut falls in exactly one of the two ways

fills_more : (at : ℕ) (es : List Entry) (stop : ℕ) (e : Entry) → Fills at es stop → e.start ≡ stop → Fills at (es ++ (e ∷ [])) (stop + (32 + e.length))
fills_more at [] stop e f here = (here ∙ sym f, ap (λ (p : ℕ). p + (32 + e.length)) f)
fills_more at (d ∷ es) stop e f here = (f.0, fills_more (at + (32 + d.length)) es stop e f.1 here)

-- the records passed end at `at`, those to come fill the bytes from there to `stop`
pub falls : (n : ℕ) (passed es : List Entry) (at stop : ℕ) → Fills 0 passed at → Fills at es stop → at ≤ n → n ≤ stop
    → BetweenRecords (passed ++ es) n ⊎ InsideRecord (passed ++ es) n
falls n passed [] at stop f g low high = inl (record { before = passed; behind = []; entries = refl; fills = subst (Fills 0 passed) (omega arith) f })
falls n passed (e ∷ es) at stop f g low high =
    go (ltb at n) refl (ltb n (at + (32 + e.length))) refl
    (λ h. falls n (passed ++ (e ∷ [])) es (at + (32 + e.length)) stop (fills_more 0 passed at e f g.0) g.1 h high)
  where
    Falls : List Entry → Type 0
    Falls l = BetweenRecords l n ⊎ InsideRecord l n

    go : (t : Bool) → ltb at n ≡ t → (u : Bool) → ltb n (at + (32 + e.length)) ≡ u → (at + (32 + e.length) ≤ n → Falls ((passed ++ (e ∷ [])) ++ es))
        → Falls (passed ++ (e ∷ es))
    go false p u q more =
        inl (record { before = passed; behind = e ∷ es; entries = refl; fills = subst (Fills 0 passed) (omega (arith, ltb-false at n p)) f })
    go true p true q more = inr (record {
      before = passed;
      broken = e;
      behind = es;
      entries = refl;
      fills = rw g.0 f;
      begun = omega (arith, ltb-true at n p, g.0);
      unfinished = omega (arith, ltb-true n (at + (32 + e.length)) q, g.0);
    })
    go true p false q more = subst Falls (append_snoc passed e es) (more (ltb-false n (at + (32 + e.length)) q))
