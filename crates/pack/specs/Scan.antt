-- The scan: how it ends, and what the lent list holds afterwards.
use Rattle.std.specs.Prelude.{ℕ, zero, suc, ◌+◌, Bool, true, false, cond, List, [], ◌∷◌, ◌++◌, ◌≡◌, refl, leb, length, get_or, drop}
use Rattle.std.specs.Prelude.{Result, Ok, Err}
use Rattle.std.proofs.Common.{sym, ap, ◌∙◌, arith}
use Rattle.slices.specs.Logic.{absurd_numbers}
use Rattle.tlv.specs.Found.{Found, end, found, fault, step}
use Rattle.tlv.specs.Passing.{pass_at, pass_found}
use Rattle.tlv.specs.declared.RecordHeader.{RecordHeader}
use Rattle.pack.specs.declared.Entry.{Entry}
use Rattle.pack.specs.declared.Listed.{Listed}
use Rattle.pack.specs.declared.ScanFault.{ScanFault}
use Rattle.pack.specs.Reading.{Reading, Ending, whole, refused, records, Outcome, counted, alone, outcome, fault_number, fault_place, entry_at, records_end, records_fault, records_on}

-- stands for an entry where there is none
abbrev pub no_entry : Entry
no_entry = record { start = 0; tag = 0; length = 0; hash = 0 }

-- what each answer of the code says
abbrev pub scanned_of : Result ℕ ScanFault → Outcome
scanned_of (Ok n) = counted n
scanned_of (Err (ScanFault.Pack f)) = refused (fault_number f) (fault_place f)
scanned_of (Err ScanFault.NoRoom) = alone 19

-- an outcome, with a list of so many entries lent: 19 comes after all others
abbrev pub fitted : Outcome → ℕ → Outcome
fitted (counted n) room = cond (leb n room) (counted n) (alone 19)
fitted (refused n at) room = refused n at
fitted (alone n) room = alone n

abbrev pub scanned : Reading → ℕ → Outcome
scanned r room = fitted (outcome r) room

-- how many entries are written, of a list of so many
abbrev pub written : Outcome → ℕ
written (counted n) = n
written (refused n at) = 0
written (alone n) = 0

-- the list at exit: the entries of an accepted pack, where it has room for all, and after them what it held
abbrev pub listed : Ending → List Entry → List Entry → List Entry
listed whole es list = cond (leb (length es) (length list)) (es ++ drop (length es) list) list
listed (refused n at) es list = list

abbrev pub list_after : Reading → List Entry → List Entry
list_after r list = listed r.ending r.entries list

-- what that is, by the scan's answer: with a count, the entries of the pack, so many, and after them what the list held; else what it held
pub record ListAtExit (r : Reading) (before after : List Entry) : Type 0 where
  pub filled : (n : ℕ) → scanned r (length before) ≡ counted n → (length r.entries ≡ n) × (after ≡ r.entries ++ drop n before)
  pub refused_kept : (n at : ℕ) → scanned r (length before) ≡ refused n at → after ≡ before
  pub short_kept : (n : ℕ) → scanned r (length before) ≡ alone n → after ≡ before

pub list_at_exit : (r : Reading) (list : List Entry) → ListAtExit r list (list_after r list)
list_at_exit r list = go r.ending refl (leb (length r.entries) (length list)) refl
  where
    go : (e : Ending) → r.ending ≡ e → (t : Bool) → leb (length r.entries) (length list) ≡ t → ListAtExit r list (list_after r list)
    go whole e true t =
        let is : scanned r (length list) ≡ counted (length r.entries) = rw (e, t) in
        record {
          filled = λ n q. let l : length r.entries ≡ n = ap written (sym is ∙ q) in (l, rw (e, t, l));
          refused_kept = λ n at q. absurd_numbers (cc);
          short_kept = λ n q. absurd_numbers (cc);
        }
    go whole e false t =
        let is : scanned r (length list) ≡ alone 19 = rw (e, t) in
        record { filled = λ n q. absurd_numbers (cc); refused_kept = λ n at q. absurd_numbers (cc); short_kept = λ n q. rw (e, t) }
    go (refused k p) e t u =
        let is : scanned r (length list) ≡ refused k p = rw e in
        record { filled = λ n q. absurd_numbers (cc); refused_kept = λ n at q. rw e; short_kept = λ n q. absurd_numbers (cc) }

-- ---- a second pass over a checked pack, which computes no hash

-- the entry of the record at a place, and the place after it
unfoldable pub listed_at : List ℕ → ℕ → Listed
listed_at s at = record { entry = entry_at at (pass_at s at).header; next = (pass_at s at).next }

-- the first n entries from a place on
unfoldable pub first_entries : ℕ → List ℕ → ℕ → List Entry
first_entries zero s at = []
first_entries (suc n) s at = (listed_at s at).entry ∷ first_entries n s (listed_at s at).next

listed_found : (s : List ℕ) (at : ℕ) (h : RecordHeader) → step (drop at s) ≡ found h
    → listed_at s at ≡ record { entry = entry_at at h; next = at + 32 + h.length }
unfolding listed_at
listed_found s at h e = rw (pass_found s at h e)

none_first : (e : Entry) (es fs : List Entry) → ◌≡◌ {A = List Entry} [] (e ∷ es) → fs ≡ e ∷ es
none_first e es fs p = absurd (let z : ◌≡◌ {A = ℕ} 0 (suc (length es)) = ap length p in omega arith)

-- they are the entries of the reading
pub first_entries_lem : (es : List Entry) (s : List ℕ) (at : ℕ) → (records at 0 (drop at s)).entries ≡ es → first_entries (length es) s at ≡ es
unfolding first_entries
first_entries_lem [] s at e = refl
first_entries_lem (d ∷ es) s at e = go (step (drop at s)) refl (λ p. first_entries_lem es s p)
  where
    go : (f : Found) → step (drop at s) ≡ f → ((p : ℕ) → (records p 0 (drop p s)).entries ≡ es → first_entries (length es) s p ≡ es)
        → (listed_at s at).entry ∷ first_entries (length es) s (listed_at s at).next ≡ d ∷ es
    go end there more = none_first d es _ (sym (ap (λ (r : Reading). r.entries) (records_end at (drop at s) there)) ∙ e)
    go (fault n) there more = none_first d es _ (sym (ap (λ (r : Reading). r.entries) (records_fault at (drop at s) n there)) ∙ e)
    go (found h) there more =
        let next : ℕ = at + 32 + h.length in
        let one : entry_at at h ∷ (records next 0 (drop next s)).entries ≡ d ∷ es = sym (ap (λ (r : Reading). r.entries) (records_on at s h there)) ∙ e in
        let first : entry_at at h ≡ d = ap (λ (l : List Entry). get_or l 0 d) one in
        let others : (records next 0 (drop next s)).entries ≡ es = ap (drop 1) one in
        rw (listed_found s at h there) (λ i. first i ∷ more next others i)
