-- Where the value of the record at a place stands.
use Prim.Native.Nat.{ℕ, ◌+◌, ◌-◌, ◌≤◌}
use mathlib.Core.Bool.{Bool, true, false, cond}
use mathlib.Core.List.{List}
use mathlib.Core.Path.{◌≡◌, refl, ap}
use native.Mathlib.Omega.{arith}
use lib.ListN.{length, take, drop}
use lib.Seq.{drop-drop}
use Rattle.slices.specs.Places.{part_at}
use Rattle.refusals.specs.Limit.{pack_limit}
use Rattle.tlv.specs.Found.{no_header, fields_of}
use Rattle.tlv.specs.Passing.{inside, pass_at}
use Rattle.tlv.specs.declared.RecordHeader.{RecordHeader}
use Rattle.tlv.specs.declared.Passed.{Passed}
use Rattle.lookup_records.specs.Answers.{role_but, role_in, value_in, value_place, RoleInside, Visits}
use Rattle.lookup_records.specs.declared.Role.{Role}

module _ (s : List ℕ) (at : ℕ) where
  -- a record lies inside, or the place is not left
  by_cases : (P : Passed → Type 0) → ((h : RecordHeader) → P (record { header = h; next = at + 32 + h.length }))
      → P (record { header = no_header; next = at }) → P (pass_at s at)
  unfolding pass_at
  by_cases P there none = go (inside (length s) at (fields_of (drop at s)).length)
    where
      go : (t : Bool) → P (cond t (record { header = fields_of (drop at s); next = at + 32 + (fields_of (drop at s)).length }) (record { header = no_header; next = at }))
      go true = there (fields_of (drop at s))
      go false = none

  value_before_next : (pass_at s at).header.length ≤ (pass_at s at).next
  value_before_next = by_cases (λ p. p.header.length ≤ p.next) (λ h. omega arith) (omega arith)

  value_there : part_at s (value_place (pass_at s at)) ≡ value_in s at (pass_at s at).header.length
  value_there = by_cases (λ p. part_at s (value_place p) ≡ value_in s at p.header.length) behind refl
    where
      behind : (h : RecordHeader) → take h.length (drop (at + 32 + h.length - h.length) s) ≡ value_in s at h.length
      behind h =
          let start : at + 32 + h.length - h.length ≡ at + 32 = omega arith in
          rw (start, drop-drop 32 at s)

  -- from what passing over the record answers
  module _ (p : Passed) (passed : p ≡ pass_at s at) where
    pub length_below_next : p.header.length ≤ p.next
    length_below_next = rw passed value_before_next

    pub visits : (skipped : ℕ) (r : Role) → role_in s r ≡ role_but pack_limit skipped p.header.tag (part_at s (value_place p))
        → RoleInside s (value_place p) r → Visits skipped s at (record { role = r; value = value_place p; next = p.next })
    visits skipped r e inside = record {
      value_is = ap value_place passed;
      next_is = ap (λ (q : Passed). q.next) passed;
      seen = rw (← value_there) (rw passed at e);
      inside = inside;
    }
