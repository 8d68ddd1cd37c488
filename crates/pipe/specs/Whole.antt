-- What the run over all the bytes of a pack tells is what the reading of the whole pack does (crates/pack/specs/Reading.antt); of a longer pack, what was
-- told before the limit stays told, and 1 at place 0 is given unless a fault was met earlier.
use Rattle.std.specs.Prelude.{ℕ, suc, ◌+◌, ◌-◌, ◌^◌, ◌≤◌, ◌<◌, Bool, not, ◌≡◌, eqb, drop}
use Rattle.std.proofs.Math.Bool.{true, false, cond}
use mathlib.Core.List.{List, [], ◌∷◌, ◌++◌, append_assoc, append-nil, flatten}
use Rattle.std.specs.Prelude.{Option, None, Some}
use Rattle.std.proofs.Math.Path.{refl, sym, ap}
use Rattle.std.proofs.Common.{◌∙◌, length-drop, take-append-drop, take_at, drop_at, length-take-le}
use native.Mathlib.Omega.{arith}
use borrow.Author.Tests.{lt-ltb, le-ltb, lt-leb, le-leb, ltb-true, ltb-false}
use Rattle.std.proofs.Math.Dec.{ltb}
use Rattle.std.proofs.Math.ListN.{length, length-append, take as front}
use Rattle.std.proofs.Math.Seq.{append_snoc, take-append-le}
use Rattle.std.proofs.lemmas.List.{drop-append-le}
use Rattle.slices.specs.Logic.{absurd_numbers}
use Rattle.refusals.specs.Sheet.{lowest}
use Rattle.xxh64.specs.Xxh64.{add}
use Rattle.xxh64.specs.Parts.{fresh, push, pushed, finished, pushed_append, pushed_count, hash_in_parts}
use Rattle.tlv.specs.Layout.{field}
use Rattle.tlv.specs.Found.{found, fault, found_unless, header, header_rows, value_rows, header_of, step, step_none, step_of_fault, step_of_header}
use Rattle.tlv.specs.declared.RecordHeader.{RecordHeader}
use Rattle.pack.specs.Reading.{Ending, whole, Reading, cons, records, reading, entry_at, records_end, records_fault, records_found}
use Rattle.pack.specs.Reading as pack
use Rattle.pack.specs.declared.Entry.{Entry}
use Rattle.pipe.specs.Taking.{Phase, in_header, in_value, Going, Progress, going, refused, ended, in_phase, at_start, next_record, position, Next}
use Rattle.pipe.specs.Taking.{onward, completes, refuses, valued, opened, headed, byte, cut, close}
use Rattle.pipe.specs.Step.{at_end_only, GoingFits, NextFits, going_fits, byte_fits}
use Rattle.pipe.specs.Sessions.{Run, silent, tell, followed, run, closed, run_append, Session, session_run}

-- ---- what stands at the front, from its first 32 bytes

field_front : (s rest : List ℕ) (at w : ℕ) → at + w ≤ length s → field (s ++ rest) at w ≡ field s at w
unfolding field
field_front s rest at w h = rw (drop-append-le at s rest (omega arith), take-append-le w (drop at s) rest (rw length-drop (omega arith)))

module _ (head : List ℕ) (long : length head ≡ 32) (rest : List ℕ) where
  rows_front : lowest (header_rows (head ++ rest)) ≡ lowest (header_rows head)
  unfolding header_rows
  rows_front =
      rw (
        length-append head rest,
        le-ltb (length head + length rest) 32 (omega arith),
        le-ltb (length head) 32 (omega arith),
        field_front head rest 0 8 (omega arith),
        field_front head rest 24 1 (omega arith),
        field_front head rest 27 1 (omega arith),
        field_front head rest 30 2 (omega arith),
        take-append-le 30 head rest (omega arith),
      )

  header_front : header_of (head ++ rest) ≡ header_of head
  unfolding header_of
  header_front = rw (field_front head rest 25 2 (omega arith), field_front head rest 8 8 (omega arith), field_front head rest 16 8 (omega arith))

  there : 0 < length (head ++ rest)
  there = rw length-append (omega arith)

  -- 3 to 6
  header_refused_lem : (n : ℕ) → lowest (header_rows head) ≡ Some n → step (head ++ rest) ≡ fault n
  header_refused_lem n e = step_of_fault (head ++ rest) there n (unfold header in rw (rows_front, e))

  module _ (passes : lowest (header_rows head) ≡ None) where
    value_step : step (head ++ rest) ≡ found_unless (lowest (value_rows (head ++ rest))) (header_of head)
    value_step = step_of_header (head ++ rest) there (header_of head) (unfold header in rw (rows_front, passes, header_front))

    length_there : field (head ++ rest) 8 8 ≡ (header_of head).length
    unfolding header_of
    length_there = field_front head rest 8 8 (omega arith)

    hash_there : field (head ++ rest) 16 8 ≡ (header_of head).hash
    unfolding header_of
    hash_there = field_front head rest 16 8 (omega arith)

    left : length (head ++ rest) - 32 ≡ length rest
    left = rw length-append (omega arith)

    -- 7
    value_cut : length rest < (header_of head).length → step (head ++ rest) ≡ fault 7
    unfolding value_rows lowest
    value_cut l = value_step ∙ rw (length_there, left, lt-ltb (length rest) (header_of head).length l)

    -- a record, or 8
    value_whole : (v s : List ℕ) → v ++ s ≡ rest → length v ≡ (header_of head).length → length v < 2 ^ 64
        → step (head ++ rest) ≡ cond (eqb (header_of head).hash (finished (pushed fresh v))) (found (header_of head)) (fault 8)
    unfolding value_rows lowest
    value_whole v s e l small =
        let n : length rest ≡ length v + length s = ap length (sym e) ∙ length-append v s in
        let value : front (header_of head).length (drop 32 (head ++ rest)) ≡ v
        = rw (drop_at head rest 32 long, ← e) (take_at v s (header_of head).length l) in
        value_step
        ∙ rw (length_there, left, le-ltb (length rest) (header_of head).length (omega arith), hash_there, value, ← hash_in_parts v small)
        (go (eqb (header_of head).hash (finished (pushed fresh v))))
      where
        go : (t : Bool) → found_unless (cond (not t) (Some 8) None) (header_of head) ≡ cond t (found (header_of head)) (fault 8)
        go true = refl
        go false = refl

-- 2
header_cut : (b : ℕ) (t : List ℕ) → length (b ∷ t) < 32 → step (b ∷ t) ≡ fault 2
unfolding header header_rows lowest
header_cut b t l = step_of_fault (b ∷ t) (omega arith) 2 (rw (lt-ltb (suc (length t)) 32 l))

-- ---- what a reading tells, so many records before it

abbrev pub verdict : ℕ → ℕ → Ending → Progress
verdict before count whole = ended (before + count)
verdict before count (pack.refused n place) = refused n place

abbrev pub read_run : ℕ → Reading → Run
read_run before r = record { told = r.entries; after = verdict before (length r.entries) r.ending }

-- a verdict stays
close_verdict : (before count : ℕ) (e : Ending) → close (verdict before count e) ≡ verdict before count e
close_verdict before count whole = refl
close_verdict before count (pack.refused n place) = refl

read_tell : (before : ℕ) (e : Entry) (es : List Entry) (f : Ending)
    → tell e (read_run (suc before) (record { entries = es; ending = f })) ≡ read_run before (cons e (record { entries = es; ending = f }))
read_tell before e es whole =
    let n : suc before + length es ≡ before + suc (length es) = omega arith in
    λ i. record { told = e ∷ es; after = ended (n i) }
read_tell before e es (pack.refused n place) = refl

-- ---- the phase that has these bytes of a record

count_from_fresh : (v : List ℕ) → length v < 2 ^ 64 → (pushed fresh v).count ≡ length v
unfolding fresh add
count_from_fresh v l = pushed_count fresh v (omega arith) ∙ omega arith

abbrev Holds : Phase → List ℕ → Type 0
Holds (in_header u) t = (t ≡ u) × (length u < 32)
Holds (in_value head hashing) t =
    (v : List ℕ) × (t ≡ head ++ v) × (hashing ≡ pushed fresh v) × (length head ≡ 32) × (lowest (header_rows head) ≡ None) × (length v < (header_of head).length)

abbrev at : ℕ → ℕ → Phase → Going
at start before p = record { start = start; records = before; phase = p }

module _ (limit : ℕ) (small : limit < 2 ^ 64) where
  -- the bytes s, after those of a record that starts at `start`
  abbrev Reads : List ℕ → ℕ → ℕ → List ℕ → Run → Type 0
  Reads s start before t r = closed r ≡ read_run before (records start 0 (t ++ s))

  abbrev From : List ℕ → Type 0
  From s = (start before : ℕ) (p : Phase) (t : List ℕ) → Holds p t → start + length t + length s ≤ limit
      → Reads s start before t (run limit (going (at start before p)) s)

  at_end : From []
  unfolding run
  at_end start before (in_header []) t holds within =
      rw (holds.0, records_end start [] (step_none [] refl)) (λ i. record { told = []; after = ended (n i) })
    where
      n : before ≡ before + 0
      n = omega arith
  at_end start before (in_header (b ∷ u)) t holds within =
      rw (holds.0, append-nil (b ∷ u), records_fault start (b ∷ u) 2 (header_cut b u holds.1))
  at_end start before (in_value head hashing) t holds within =
      let v = holds.0 in
      rw (holds.1, append-nil (head ++ v), records_fault start (head ++ v) 7 (value_cut head holds.3 v holds.4 holds.5))

  module _ (s : List ℕ) (more : From s) (start before : ℕ) where
    abbrev Continues : List ℕ → Next → Type 0
    Continues t f = Reads s start before t (followed f (λ next. run limit (going next) s))

    -- so much of the value is there
    value_reads : (p : Phase) (head v : List ℕ) → length head ≡ 32 → lowest (header_rows head) ≡ None → length v ≤ (header_of head).length
        → start + length (head ++ v) + length s ≤ limit → Continues (head ++ v) (valued (at start before p) head (pushed fresh v))
    unfolding valued
    value_reads p head v long passes some_left within =
        go (ltb (pushed fresh v).count h.length) refl (eqb h.hash (finished (pushed fresh v))) refl
      where
        h : RecordHeader
        h = header_of head

        n : length (head ++ v) ≡ 32 + length v
        n = rw (length-append, long)

        count : (pushed fresh v).count ≡ length v
        count = count_from_fresh v (omega (arith, n))

        decided : (t : Bool) → length v ≡ (header_of head).length → eqb (header_of head).hash (finished (pushed fresh v)) ≡ t
            → step (head ++ v ++ s) ≡ cond t (found (header_of head)) (fault 8)
        decided t l q = rw (append_assoc, ← q) (value_whole head long (v ++ s) passes v s refl l (omega (arith, n)))

        go : (t : Bool) → ltb (pushed fresh v).count (header_of head).length ≡ t → (u : Bool) → eqb (header_of head).hash (finished (pushed fresh v)) ≡ u
            → Continues (head ++ v) (cond t (onward (in_phase (at start before p) (in_value head (pushed fresh v))))
            (cond u (completes (entry_at start (header_of head)) (next_record (at start before p) (header_of head).length)) (refuses 8 start)))
        go true e u q =
            more start before (in_value head (pushed fresh v)) (head ++ v)
            (v, refl, refl, long, passes, omega (arith, count, ltb-true (pushed fresh v).count (header_of head).length e)) within
        go false e true q =
            let l : length v ≡ (header_of head).length = omega (arith, count, ltb-false (pushed fresh v).count (header_of head).length e) in
            let next : ℕ = start + 32 + (header_of head).length in
            let place : start + (32 + (header_of head).length) ≡ next = omega arith in
            let rest : drop (32 + (header_of head).length) (head ++ v ++ s) ≡ s = drop_at (head ++ v) s (32 + (header_of head).length) (omega (arith, n)) in
            let there : records start 0 (head ++ v ++ s) ≡ cons (entry_at start (header_of head)) (records next 0 s)
            = records_found start (head ++ v ++ s) (header_of head) (decided true l q) ∙ rw (rest, place) in
            ap (tell (entry_at start (header_of head))) (more next (suc before) (in_header []) [] (refl, omega arith) (omega (arith, n)))
            ∙ read_tell before (entry_at start (header_of head)) (records next 0 s).entries (records next 0 s).ending
            ∙ ap (read_run before) (sym there)
        go false e false q =
            let l : length v ≡ (header_of head).length = omega (arith, count, ltb-false (pushed fresh v).count (header_of head).length e) in
            ap (read_run before) (sym (records_fault start (head ++ v ++ s) 8 (decided false l q)))

    -- so much of the header is there
    header_reads : (p : Phase) (u : List ℕ) → length u ≤ 32 → start + length u + length s ≤ limit → Continues u (headed (at start before p) u)
    unfolding headed
    header_reads p u short within = go (ltb (length u) 32) refl (lowest (header_rows u)) refl
      where
        go : (t : Bool) → ltb (length u) 32 ≡ t → (o : Option ℕ) → lowest (header_rows u) ≡ o
            → Continues u (cond t (onward (in_phase (at start before p) (in_header u))) (opened (at start before p) u o))
        go true e o q = more start before (in_header u) u (refl, ltb-true (length u) 32 e) within
        go false e None q =
            let l = ltb-false (length u) 32 e in
            let same : u ++ [] ≡ u = append-nil u in
            let empty : pushed fresh [] ≡ fresh = (unfold pushed in refl) in
            rw (same, empty) at (value_reads p u [] (omega arith) q (omega arith) (rw same within))
        go false e (Some n) q =
            let l = ltb-false (length u) 32 e in
            ap (read_run before) (sym (records_fault start (u ++ s) n (header_refused_lem u (omega arith) s n q)))

    byte_reads : (p : Phase) (t : List ℕ) (b : ℕ) → Holds p t → start + length t + suc (length s) ≤ limit
        → Reads (b ∷ s) start before t (followed (byte limit (at start before p) b) (λ next. run limit (going next) s))
    unfolding byte
    byte_reads (in_header u) t b holds within =
        let is : t ≡ u = holds.0 in
        let n : length (u ++ (b ∷ [])) ≡ length u + 1 = length-append u (b ∷ []) in
        let l : length t ≡ length u = ap length is in
        let k = holds.1 in
        rw (is, lt-leb limit (start + length u) (omega arith), ← append_snoc u b s)
        (header_reads (in_header u) (u ++ (b ∷ [])) (omega arith) (omega arith))
    byte_reads (in_value head hashing) t b holds within =
        let v = holds.0 in
        let is : t ≡ head ++ v = holds.1 in
        let l : length t ≡ 32 + length v = ap length is ∙ rw (length-append, holds.3) in
        let k : length v < (header_of head).length = holds.5 in
        let count : (pushed fresh v).count ≡ length v = count_from_fresh v (omega arith) in
        let grows : push (pushed fresh v) b ≡ pushed fresh (v ++ (b ∷ [])) = sym (pushed_append fresh v (b ∷ []) ∙ (unfold pushed in refl)) in
        let n : length (v ++ (b ∷ [])) ≡ length v + 1 = length-append v (b ∷ []) in
        let m : length (head ++ (v ++ (b ∷ []))) ≡ 32 + (length v + 1) = rw (length-append, holds.3, n) in
        let bytes : head ++ v ++ b ∷ s ≡ head ++ (v ++ (b ∷ [])) ++ s
        = sym (ap (λ x. x ++ s) (sym (append_assoc head v (b ∷ []))) ∙ append_snoc (head ++ v) b s) in
        rw (is, holds.2, lt-leb limit (start + (32 + (pushed fresh v).count)) (omega arith), grows, bytes)
        (value_reads (in_value head (pushed fresh v)) head (v ++ (b ∷ [])) holds.3 holds.4 (omega arith) (omega arith))

  from : (s : List ℕ) → From s
  unfolding run
  from [] = at_end
  from (b ∷ s) = λ start before p t holds within. byte_reads s (from s) start before p t b holds within

-- ---- where a run stands after so many bytes

-- after n bytes of the pack: so far, or at a refusal that is none of those of the announced end
abbrev Reached : ℕ → ℕ → Progress → Type 0
Reached limit n (going g) = GoingFits limit g × (position g ≡ n)
Reached limit n (refused number place) = at_end_only number ≡ false
Reached limit n (ended records) = ⊥

run_reaches : (limit : ℕ) → limit < 2 ^ 64 → (g : Going) (s : List ℕ) → GoingFits limit g → Reached limit (position g + length s) (run limit (going g) s).after
unfolding run
run_reaches limit small g [] f = (f, omega arith)
run_reaches limit small g (b ∷ s) f = go (byte limit g b) (byte_fits limit small g b f) (λ next. run_reaches limit small next s)
  where
    go : (x : Next) → NextFits limit (suc (position g)) x
        → ((next : Going) → GoingFits limit next → Reached limit (position next + length s) (run limit (going next) s).after)
        → Reached limit (position g + suc (length s)) (followed x (λ next. run limit (going next) s)).after
    go (onward next) h more =
        let n : position next + length s ≡ position g + suc (length s) = omega (arith, h.1) in
        rw n at (more next h.0)
    go (completes e next) h more =
        let n : position next + length s ≡ position g + suc (length s) = omega (arith, h.1) in
        rw n at (more next h.0)
    go (refuses number place) h more = h.1

-- ---- a pack of any length

-- what is met where a byte past the limit would be taken: a fault that was met before it, or 1 at place 0
abbrev pub past_limit : Ending → Ending
past_limit whole = pack.refused 1 0
past_limit (pack.refused n place) = cond (at_end_only n) (pack.refused 1 0) (pack.refused n place)

abbrev pub limited : Reading → Reading
limited r = record { entries = r.entries; ending = past_limit r.ending }

-- what the pipe tells of a pack
unfoldable pub piped : ℕ → List ℕ → Reading
piped limit s = cond (ltb limit (length s)) (limited (records 0 0 (front limit s))) (records 0 0 s)

-- up to the limit it is what the walker tells
pub piped_within : (limit : ℕ) (s : List ℕ) → length s ≤ limit → piped limit s ≡ reading limit s
unfolding piped reading
piped_within limit s l = rw (le-ltb limit (length s) l)

pub start_fits : (limit : ℕ) → GoingFits limit at_start
start_fits limit = record { phase = refl; within = omega arith; few = omega arith }

-- the end of a run that stands at the limit, or at a refusal
module _ (limit : ℕ) where
  stopped : (p : Progress) (b : ℕ) (s : List ℕ) (n : ℕ) (ending : Ending) → Reached limit limit p → close p ≡ verdict 0 n ending
      → run limit p (b ∷ s) ≡ silent (verdict 0 n (past_limit ending))
  unfolding run byte
  stopped (ended records) b s n ending r e = absurd r
  stopped (refused m place) b s n whole r e = absurd_numbers (cc)
  stopped (refused m place) b s n (pack.refused k at) r e =
      let same : m ≡ k = cc in
      let other : at_end_only k ≡ false = rw same at r in
      rw other (ap silent e)
  stopped (going g) b s n ending r e = rw (le-leb limit (position g) (omega (arith, r.1))) (ap silent (past g.phase ending e))
    where
      past : (p : Phase) (ending : Ending) → cut g p ≡ verdict 0 n ending → refused 1 0 ≡ verdict 0 n (past_limit ending)
      past p whole e = refl
      past (in_header []) (pack.refused k at) e = absurd_numbers (cc)
      past (in_header (c ∷ t)) (pack.refused k at) e = let same : 2 ≡ k = cc in rw (← same)
      past (in_value head hashing) (pack.refused k at) e = let same : 7 ≡ k = cc in rw (← same)

module _ (limit : ℕ) (small : limit < 2 ^ 64) where
  -- THE THEOREM: the run over a pack tells what `piped` says
  pub run_piped : (s : List ℕ) → closed (run limit (going at_start) s) ≡ read_run 0 (piped limit s)
  unfolding piped
  run_piped s = go (ltb limit (length s)) refl
    where
      of_front_lem : (t : List ℕ) → length t ≤ limit → closed (run limit (going at_start) t) ≡ read_run 0 (records 0 0 t)
      of_front_lem t l = from limit small t 0 0 (in_header []) [] (refl, omega arith) (omega arith)

      over : (rest : List ℕ) → 0 < length rest → (t : List ℕ) → length t ≡ limit
          → closed (run limit (going at_start) (t ++ rest)) ≡ read_run 0 (limited (records 0 0 t))
      over [] l t n = absurd (omega arith)
      over (b ∷ rest) l t n =
          let r = run limit (going at_start) t in
          let read = records 0 0 t in
          let c = of_front_lem t (omega arith) in
          let place : 0 + 0 + length t ≡ limit = omega arith in
          let reached : Reached limit limit r.after = rw place at (run_reaches limit small at_start t (start_fits limit)) in
          let stop = stopped limit r.after b rest (length read.entries) read.ending reached (ap (λ (x : Run). x.after) c) in
          ap closed (run_append limit (going at_start) t (b ∷ rest))
          ∙ ap (λ (x : Run). closed (record { told = r.told ++ x.told; after = x.after })) stop
          ∙ (λ i. record {
            told = (append-nil r.told ∙ ap (λ (x : Run). x.told) c) i;
            after = close_verdict 0 (length read.entries) (past_limit read.ending) i;
          })

      go : (t : Bool) → ltb limit (length s) ≡ t
          → closed (run limit (going at_start) s) ≡ read_run 0 (cond t (limited (records 0 0 (front limit s))) (records 0 0 s))
      go true e =
          let l = ltb-true limit (length s) e in
          ap (λ t. closed (run limit (going at_start) t)) (sym (take-append-drop limit s))
          ∙ over (drop limit s) (rw length-drop (omega arith)) (front limit s) (length-take-le limit s (omega arith))
      go false e = of_front_lem s (ltb-false limit (length s) e)

  -- and so does every session, however the pack is cut
  pub session_piped : {q : Progress} {parts : List (List ℕ)} {es : List Entry} → Session limit (going at_start) parts es q
      → record { told = es; after = q } ≡ read_run 0 (piped limit (flatten parts))
  session_piped {parts = parts} s = sym (session_run limit small (going_fits limit at_start (start_fits limit)) s) ∙ run_piped (flatten parts)
