-- Where a pass over a pack stands: some records have been counted, and the reading goes on from a place.
use Prim.Native.Nat.{ℕ, ◌+◌, ◌≤◌, ◌<◌}
use mathlib.Core.List.{List}
use mathlib.Core.Path.{◌≡◌, refl, sym, ap, ◌∙◌}
use native.Mathlib.Nat.{add-zero, zero-add, add_assoc}
use native.Mathlib.Omega.{arith}
use borrow.Author.Tests.{le-ltb, lt-ltb}
use lib.ListN.{length, drop, length-drop}
use Rattle.refusals.specs.Limit.{pack_limit}
use Rattle.tlv.specs.Found.{end, found, fault, step}
use Rattle.tlv.specs.Stands.{step_stands}
use Rattle.tlv.specs.declared.RecordHeader.{RecordHeader}
use Rattle.pack.specs.declared.Entry.{Entry}
use Rattle.pack.specs.Reading.{Reading, Ending, whole, refused, cons, records, reading, Outcome, counted, alone, outcome, records_end, records_fault, records_on, entry_at}

-- so many records more
abbrev plus : ℕ → Outcome → Outcome
plus k (counted n) = counted (k + n)
plus k (refused n at) = refused n at
plus k (alone n) = alone n

plus_none : (o : Outcome) → o ≡ plus 0 o
plus_none (counted n) = ap counted (sym (zero-add n))
plus_none (refused n at) = refl
plus_none (alone n) = refl

plus_one : (k : ℕ) (o : Outcome) → plus k (plus 1 o) ≡ plus (k + 1) o
plus_one k (counted n) = ap counted (sym (add_assoc k 1 n))
plus_one k (refused n at) = refl
plus_one k (alone n) = refl

outcome_cons : (e : Entry) (es : List Entry) (f : Ending) → outcome (cons e (record { entries = es; ending = f })) ≡ plus 1 (outcome (record { entries = es; ending = f }))
outcome_cons e es whole = ap counted (omega arith)
outcome_cons e es (refused n at) = refl

pub record Going (s : List ℕ) (at count : ℕ) : Type 0 where
  pub so_far : outcome (records 0 0 s) ≡ plus count (outcome (records at 0 (drop at s)))
  pub inside : at ≤ length s
  pub few : count ≤ at

pub starts : (s : List ℕ) → Going s 0 0
starts s = record { so_far = plus_none (outcome (records 0 0 s)); inside = omega arith; few = omega arith }

module _ (s : List ℕ) (at count : ℕ) (going : Going s at count) where
  pub ends : step (drop at s) ≡ end → counted count ≡ outcome (records 0 0 s)
  ends e = sym (going.so_far ∙ ap (λ (r : Reading). plus count (outcome r)) (records_end at (drop at s) e) ∙ ap counted (add-zero count))

  pub stops : (n : ℕ) → step (drop at s) ≡ fault n → refused n at ≡ outcome (records 0 0 s)
  stops n e = sym (going.so_far ∙ ap (λ (r : Reading). plus count (outcome r)) (records_fault at (drop at s) n e))

  module _ (h : RecordHeader) (there : step (drop at s) ≡ found h) where
    -- the record lies inside
    pub room : at + 32 + h.length ≤ length s
    room = omega (arith, (step_stands (drop at s) h there).long, length-drop at s)

    pub goes_on : Going s (at + 32 + h.length) (count + 1)
    goes_on =
        let rest = records (at + 32 + h.length) 0 (drop (at + 32 + h.length) s) in
        record {
          so_far =
              going.so_far
              ∙ ap (λ (r : Reading). plus count (outcome r)) (records_on at s h there)
              ∙ ap (plus count) (outcome_cons (entry_at at h) rest.entries rest.ending)
              ∙ plus_one count (outcome rest);
          inside = room;
          few = let f : count ≤ at = going.few in omega arith;
        }

-- ---- under the limit, and above it

pub too_long : (s : List ℕ) → pack_limit < length s → refused 1 0 ≡ outcome (reading pack_limit s)
unfolding reading
too_long s l = rw (lt-ltb pack_limit (length s) l)

pub not_too_long : (s : List ℕ) → length s ≤ pack_limit → outcome (records 0 0 s) ≡ outcome (reading pack_limit s)
unfolding reading
not_too_long s l = rw (le-ltb pack_limit (length s) l)
