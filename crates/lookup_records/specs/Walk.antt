-- How code walks a checked pack: the records from a place on, one after the other.
use Rattle.std.specs.Prelude.{ℕ, ◌+◌, ◌-◌, ◌≤◌, ◌<◌, List, [], ◌∷◌, map, ◌≡◌, refl, length, drop}
use Rattle.std.proofs.Common.{sym, ap, ◌∙◌, arith, length-drop}
use Rattle.slices.specs.Logic.{absurd_numbers}
use Rattle.slices.specs.declared.Place.{Place}
use Rattle.refusals.specs.Limit.{pack_limit}
use Rattle.tlv.specs.Found.{Found, end, found, fault, step, step_none, step_end}
use Rattle.tlv.specs.Stands.{step_stands}
use Rattle.tlv.specs.Passing.{pass_found}
use Rattle.tlv.specs.declared.Passed.{Passed}
use Rattle.pack.specs.Reading.{Reading, whole, refused, records, reading, records_end, records_fault, records_on}
use Rattle.pack.proofs.Acceptance.{accepted_reading}
use Rattle.records.specs.Answers.{IsValue}
use Rattle.current_version.specs.Current.{Placed, placed_by, placed}
use Rattle.lookup_records.specs.Answers.{role_but, role_in, value_in, value_place, RoleInside, Visits}
use Rattle.lookup_records.specs.declared.Visited.{Visited}

unfoldable pub placed_from : ℕ → List ℕ → ℕ → List Placed
placed_from limit s at = map (placed limit s) (records at 0 (drop at s)).entries

-- the rest of the pack, from a place on, is accepted
abbrev pub Checked : List ℕ → ℕ → Type 0
Checked s at = (records at 0 (drop at s)).ending ≡ whole

-- an accepted pack is walked from its start
pub walk_start : (limit : ℕ) (s : List ℕ) → (reading limit s).ending ≡ whole → Checked s 0
walk_start limit s e = ap (λ (r : Reading). r.ending) (sym (accepted_reading limit s e)) ∙ e

pub walk_all : (limit : ℕ) (s : List ℕ) → (reading limit s).ending ≡ whole → map (placed limit s) (reading limit s).entries ≡ placed_from limit s 0
unfolding placed_from
walk_all limit s e = rw (accepted_reading limit s e)

-- at the end nothing is left
pub walk_end : (limit : ℕ) (s : List ℕ) (at : ℕ) → length s ≤ at → placed_from limit s at ≡ []
unfolding placed_from
walk_end limit s at h =
    let none_left : length (drop at s) ≡ 0 = omega (arith, length-drop at s) in
    rw (records_end at (drop at s) (step_none (drop at s) none_left))

-- what is visited before the end is the next record, and the walk goes on behind it
pub record Walked (skipped : ℕ) (s : List ℕ) (at : ℕ) (v : Visited) : Type 0 where
  pub tag : ℕ
  pub first : placed_from pack_limit s at ≡ placed_by pack_limit at tag (value_in s at v.value.len) ∷ placed_from pack_limit s v.next
  pub seen : role_in s v.role ≡ role_but pack_limit skipped tag (value_in s at v.value.len)
  pub role_inside : RoleInside s v.value v.role
  pub value : IsValue s at v.value
  pub forward : at < v.next
  pub inside : v.next ≤ length s
  pub checked : Checked s v.next

pub walk_on : (skipped : ℕ) (s : List ℕ) (at : ℕ) (v : Visited) → Checked s at → at < length s → Visits skipped s at v → Walked skipped s at v
unfolding placed_from
walk_on skipped s at v e h visits = go (step (drop at s)) refl
  where
    go : (f : Found) → step (drop at s) ≡ f → Walked skipped s at v
    go end there = absurd (omega (arith, length-drop at s, step_end (drop at s) there))
    go (fault n) there =
        let ends : refused n at ≡ whole = sym (ap (λ (r : Reading). r.ending) (records_fault at (drop at s) n there)) ∙ e in
        absurd_numbers (cc)
    go (found d) there =
        let on = records_on at s d there in
        let stands = step_stands (drop at s) d there in
        let passed = pass_found s at d there in
        let behind : at + 32 + d.length - d.length ≡ at + 32 = omega arith in
        let value_is : v.value ≡ record { start = at + 32; len = d.length }
        = visits.value_is ∙ ap value_place passed ∙ ap (λ n. record { start = n; len = d.length }) behind in
        let len : v.value.len ≡ d.length = ap (λ (p : Place). p.len) value_is in
        let next : v.next ≡ at + 32 + d.length = visits.next_is ∙ ap (λ (p : Passed). p.next) passed in
        let within : at + 32 + d.length ≤ length s = omega (arith, length-drop at s, stands.long) in
        record {
          tag = d.tag;
          first = rw (len, next, on);
          seen = rw len (rw passed at visits.seen);
          role_inside = visits.inside;
          value = record { is = rw stands.header value_is; inside = rw value_is (record { end = within }) };
          forward = omega (arith, next);
          inside = omega (arith, next, within);
          checked = rw next (sym (ap (λ (r : Reading). r.ending) on) ∙ e);
        }
