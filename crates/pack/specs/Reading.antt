-- A pack: its records in order, up to its end or the first fault.
use Rattle.std.specs.Prelude.{ℕ, zero, suc, ◌+◌, cond, List, [], ◌∷◌, map, ◌≡◌, refl, ltb, length, drop}
use Rattle.std.specs.Prelude.{Result, Ok, Err}
use Rattle.std.proofs.Common.{ap, ◌∙◌, add-zero, arith, drop-drop}
use Rattle.std.proofs.Math.Path.{fun_ext}
use Rattle.tlv.specs.Found.{Found, end, found, fault, step, step_none, number_of}
use Rattle.tlv.specs.declared.RecordHeader.{RecordHeader}
use Rattle.pack.specs.declared.Entry.{Entry}
use Rattle.pack.specs.declared.Fault.{Fault}

-- how a reading ends: at the end of the pack, or with a refusal's number and place
pub data Ending : Type 0 where
  whole : Ending
  refused : (number place : ℕ) → Ending

-- the records before that, and how it ends; a pack is accepted when its reading ends whole
pub record Reading : Type 0 where
  pub entries : List Entry
  pub ending : Ending

abbrev pub cons : Entry → Reading → Reading
cons e r = record { entries = e ∷ r.entries; ending = r.ending }

-- what is found at a place, and then `rest`, told how many bytes to pass over after the first
abbrev pub next : Found → ℕ → (ℕ → Reading) → Reading
next end at rest = record { entries = []; ending = whole }
next (found h) at rest = cons (record { start = at; tag = h.tag; length = h.length; hash = h.hash }) (rest (31 + h.length))
next (fault n) at rest = record { entries = []; ending = refused n at }

-- ---- the records of the bytes s, which begin at `at` of the pack. The recursion that is meant is `records-next`: what stands at the
-- front, and after a record the same with what is left. antt wants it over the bytes one by one, so the definition passes over
-- those, `skip` of them, that belong to a record that has been read.

unfoldable pub records : ℕ → ℕ → List ℕ → Reading
records at skip [] = record { entries = []; ending = whole }
records at zero (b ∷ s) = next (step (b ∷ s)) at (λ n. records (suc at) n s)
records at (suc skip) (b ∷ s) = records (suc at) skip s

records_skip : (skip at : ℕ) (s : List ℕ) → records at skip s ≡ records (at + skip) 0 (drop skip s)
unfolding records
records_skip zero at s = rw add-zero
records_skip (suc skip) at [] = refl
records_skip (suc skip) at (b ∷ s) =
    let e : suc at + skip ≡ at + suc skip = omega arith in
    records_skip skip (suc at) s ∙ ap (λ (p : ℕ). records p 0 (drop skip s)) e

pub records_next : (at : ℕ) (s : List ℕ) → records at 0 s ≡ next (step s) at (λ n. records (at + suc n) 0 (drop (suc n) s))
unfolding records
records_next at [] = rw (step_none [] refl)
records_next at (b ∷ s) = ap (next (step (b ∷ s)) at) (fun_ext rest)
  where
    rest : (n : ℕ) → records (suc at) n s ≡ records (at + suc n) 0 (drop n s)
    rest n =
        let e : suc at + n ≡ at + suc n = omega arith in
        records_skip n (suc at) s ∙ ap (λ (p : ℕ). records p 0 (drop n s)) e

-- a pack, read under a limit on its length
unfoldable pub reading : ℕ → List ℕ → Reading
reading limit s = cond (ltb limit (length s)) (record { entries = []; ending = refused 1 0 }) (records 0 0 s)

-- ---- what each answer of the code says

-- a count; a refusal with its place; a refusal whose number stands alone, 19 or 20
pub data Outcome : Type 0 where
  counted : ℕ → Outcome
  refused : (number place : ℕ) → Outcome
  alone : ℕ → Outcome

-- the number and the place of a refusal; that of a pack that is too long is 0
abbrev pub fault_number : Fault → ℕ
fault_number Fault.TooLong = 1
fault_number (Fault.Record f at) = number_of f

abbrev pub fault_place : Fault → ℕ
fault_place Fault.TooLong = 0
fault_place (Fault.Record f at) = at

abbrev pub outcome_of : Result ℕ Fault → Outcome
outcome_of (Ok n) = counted n
outcome_of (Err f) = refused (fault_number f) (fault_place f)

abbrev pub outcome : Reading → Outcome
outcome r = elim r.ending [ whole ↦ counted (length r.entries) | refused n at ↦ refused n at ]

-- ---- by what stands at the place

pub records_end : (at : ℕ) (s : List ℕ) → step s ≡ end → records at 0 s ≡ record { entries = []; ending = whole }
records_end at s e = rw (records_next, e)

pub records_fault : (at : ℕ) (s : List ℕ) (n : ℕ) → step s ≡ fault n → records at 0 s ≡ record { entries = []; ending = refused n at }
records_fault at s n e = rw (records_next, e)

abbrev pub entry_at : ℕ → RecordHeader → Entry
entry_at at h = record { start = at; tag = h.tag; length = h.length; hash = h.hash }

pub records_found : (at : ℕ) (s : List ℕ) (h : RecordHeader) → step s ≡ found h
    → records at 0 s ≡ cons (entry_at at h) (records (at + (32 + h.length)) 0 (drop (32 + h.length) s))
records_found at s h e =
    let l : suc (31 + h.length) ≡ 32 + h.length = omega arith in
    rw (records_next at s, e, l)

-- the same at a place of the whole pack: after a record, the reading goes on where the record ends
pub records_on : (at : ℕ) (s : List ℕ) (h : RecordHeader) → step (drop at s) ≡ found h
    → records at 0 (drop at s) ≡ cons (entry_at at h) (records (at + 32 + h.length) 0 (drop (at + 32 + h.length) s))
records_on at s h e =
    let place : at + (32 + h.length) ≡ at + 32 + h.length = omega arith in
    records_found at (drop at s) h e ∙ rw (drop-drop (32 + h.length) at s, place)

-- ---- places are counted from where the reading begins

abbrev pub shift_entry : ℕ → Entry → Entry
shift_entry k e = record { start = e.start + k; tag = e.tag; length = e.length; hash = e.hash }

abbrev pub shift_ending : ℕ → Ending → Ending
shift_ending k whole = whole
shift_ending k (refused n at) = refused n (at + k)

abbrev pub shift : ℕ → Reading → Reading
shift k r = record { entries = map (shift_entry k) r.entries; ending = shift_ending k r.ending }

next_shift : (f : Found) (k at : ℕ) (rest rest' : ℕ → Reading) → ((n : ℕ) → rest' n ≡ shift k (rest n)) → next f (at + k) rest' ≡ shift k (next f at rest)
next_shift end k at rest rest' same = refl
next_shift (found h) k at rest rest' same = rw (same (31 + h.length))
next_shift (fault n) k at rest rest' same = refl

pub records_shift : (k at skip : ℕ) (s : List ℕ) → records (at + k) skip s ≡ shift k (records at skip s)
unfolding records
records_shift k at skip [] = refl
records_shift k at zero (b ∷ s) =
    let e : suc (at + k) ≡ suc at + k = omega arith in
    next_shift (step (b ∷ s)) k at (λ n. records (suc at) n s) (λ n. records (suc (at + k)) n s) (λ n. rw e (records_shift k (suc at) n s))
records_shift k at (suc skip) (b ∷ s) =
    let e : suc (at + k) ≡ suc at + k = omega arith in
    rw e (records_shift k (suc at) skip s)
