-- What stands at a place of a pack: the end, a record, or the lowest number of document 01's refusal sheet, from 2 to 8, that applies there.
use Rattle.std.specs.Prelude.{ℕ, ◌-◌, ◌%◌, ◌≤◌, ◌<◌, Bool, true, false, not, cond, List, [], ◌∷◌, ◌++◌, ◌≡◌, refl, eqb, ltb, length, take, drop}
use Rattle.std.specs.Prelude.{Option, None, Some, Result, Ok, Err}
use Rattle.std.proofs.Common.{sym, ◌∙◌, arith, ltb-false, eqb-true, ne_eqb}
use Rattle.refusals.specs.Answers.{or_else}
use Rattle.refusals.specs.Sheet.{Row, lowest}
use Rattle.xxh64.specs.Xxh64.{xxh64}
use Rattle.tlv.specs.Layout.{magic, field}
use Rattle.tlv.specs.declared.RecordHeader.{RecordHeader}
use Rattle.tlv.specs.declared.Fault.{Fault}
use Rattle.tlv.specs.declared.Fault.TheVariants.{HeaderCut, Magic, Version, HashType, HeaderHash, ValueCut, ValueHash}

-- ---- the refusal sheet: a number, and whether it applies to what stands at the front of s

unfoldable pub header_rows : List ℕ → List Row
header_rows s =
    record { number = 2; applies = ltb (length s) 32 }
    ∷ record { number = 3; applies = not (eqb (field s 0 8) magic) }
    ∷ record { number = 4; applies = not (eqb (field s 24 1) 0) }
    ∷ record { number = 5; applies = not (eqb (field s 27 1) 8) }
    ∷ record { number = 6; applies = not (eqb (field s 30 2) (xxh64 (take 30 s) % 65536)) }
    ∷ []

unfoldable pub value_rows : List ℕ → List Row
value_rows s =
    record { number = 7; applies = ltb (length s - 32) (field s 8 8) }
    ∷ record { number = 8; applies = not (eqb (field s 16 8) (xxh64 (take (field s 8 8) (drop 32 s)))) }
    ∷ []

-- ---- what stands at the front of s

unfoldable pub header_of : List ℕ → RecordHeader
header_of s = record { tag = field s 25 2; length = field s 8 8; hash = field s 16 8 }

-- the same, or zeros where no header is left
abbrev pub no_header : RecordHeader
no_header = record { tag = 0; length = 0; hash = 0 }

unfoldable pub fields_of : List ℕ → RecordHeader
fields_of s = cond (ltb (length s) 32) no_header (header_of s)

-- the header of a record with this tag and value
unfoldable pub made : ℕ → List ℕ → RecordHeader
made tag value = record { tag = tag; length = length value; hash = xxh64 value }

pub data Found : Type 0 where
  end : Found
  found : RecordHeader → Found
  fault : ℕ → Found

abbrev pub found_unless : Option ℕ → RecordHeader → Found
found_unless None h = found h
found_unless (Some n) h = fault n

-- a header by itself
unfoldable pub header : List ℕ → Found
header s = found_unless (lowest (header_rows s)) (header_of s)

-- the step of a reader: a record with its value
unfoldable pub step : List ℕ → Found
step s = cond (eqb (length s) 0) end (found_unless (lowest (header_rows s ++ value_rows s)) (header_of s))

-- ---- what each answer of the code says

abbrev pub number_of : Fault → ℕ
number_of HeaderCut = 2
number_of Magic = 3
number_of Version = 4
number_of HashType = 5
number_of HeaderHash = 6
number_of ValueCut = 7
number_of ValueHash = 8

abbrev pub found_header : Result RecordHeader Fault → Found
found_header (Ok h) = found h
found_header (Err f) = fault (number_of f)

abbrev pub found_step : Result (Option RecordHeader) Fault → Found
found_step (Ok None) = end
found_step (Ok (Some h)) = found h
found_step (Err f) = fault (number_of f)

-- ---- the step, from what the header is found to be

lowest_append : (rows more : List Row) → lowest (rows ++ more) ≡ or_else (lowest rows) (lowest more)
unfolding lowest
lowest_append [] more = refl
lowest_append (row ∷ rows) more = go row.applies (lowest_append rows more)
  where
    go : (t : Bool) → lowest (rows ++ more) ≡ or_else (lowest rows) (lowest more)
        → cond t (Some row.number) (lowest (rows ++ more)) ≡ or_else (cond t (Some row.number) (lowest rows)) (lowest more)
    go true e = refl
    go false e = e

pub found_unless_lem : (o : Option ℕ) (g h : RecordHeader) → found_unless o g ≡ found h → (o ≡ None) × (g ≡ h)
found_unless_lem None g h e = (refl, cc)
found_unless_lem (Some n) g h e = absurd (let z : ◌≡◌ {A = ℕ} 0 1 = cc in omega arith)

pub fault_unless : (o : Option ℕ) (g : RecordHeader) (n : ℕ) → found_unless o g ≡ fault n → o ≡ Some n
fault_unless None g n e = absurd (let z : ◌≡◌ {A = ℕ} 0 1 = cc in omega arith)
fault_unless (Some m) g n e = cc

pub step_none : (s : List ℕ) → length s ≡ 0 → step s ≡ end
unfolding step
step_none s e = rw e

pub step_end : (s : List ℕ) → step s ≡ end → length s ≡ 0
unfolding step
step_end s e = go (eqb (length s) 0) refl e
  where
    never : (o : Option ℕ) → found_unless o (header_of s) ≡ end → ⊥
    never None e = let z : ◌≡◌ {A = ℕ} 0 1 = cc in omega arith
    never (Some n) e = let z : ◌≡◌ {A = ℕ} 0 1 = cc in omega arith

    go : (t : Bool) → eqb (length s) 0 ≡ t → cond t end (found_unless (lowest (header_rows s ++ value_rows s)) (header_of s)) ≡ end → length s ≡ 0
    go true p e = eqb-true (length s) 0 p
    go false p e = absurd (never (lowest (header_rows s ++ value_rows s)) e)

module _ (s : List ℕ) (some_bytes : 0 < length s) where
  step_some : step s ≡ found_unless (or_else (lowest (header_rows s)) (lowest (value_rows s))) (header_of s)
  unfolding step
  step_some = rw (ne_eqb (length s) 0 (omega arith), lowest_append (header_rows s) (value_rows s))

  pub step_of_fault : (n : ℕ) → header s ≡ fault n → step s ≡ fault n
  unfolding header
  step_of_fault n e = rw (step_some, fault_unless (lowest (header_rows s)) (header_of s) n e)

  pub step_of_header : (h : RecordHeader) → header s ≡ found h → step s ≡ found_unless (lowest (value_rows s)) h
  unfolding header
  step_of_header h e =
      let f = found_unless_lem (lowest (header_rows s)) (header_of s) h e in
      rw (step_some, f.0, f.1)

-- a header that is found is whole, and is the one that its bytes spell
pub header_found : (s : List ℕ) (h : RecordHeader) → header s ≡ found h → (32 ≤ length s) × (header_of s ≡ h)
unfolding header header_rows lowest
header_found s h e = go (ltb (length s) 32) refl
  where
    go : (t : Bool) → ltb (length s) 32 ≡ t → (32 ≤ length s) × (header_of s ≡ h)
    go true l = absurd (let z : ◌≡◌ {A = ℕ} 0 1 = (let y : fault 2 ≡ found h = sym (rw l) ∙ e in cc) in omega arith)
    go false l = (ltb-false (length s) 32 l, (found_unless_lem (lowest (header_rows s)) (header_of s) h e).1)
