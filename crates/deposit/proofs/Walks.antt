-- How the code walks a checked pack: what the whole gives is what the rest gives from here.
use Prim.Native.Nat.{ℕ, ◌+◌, ◌≤◌, ◌<◌}
use mathlib.Core.List.{List, ◌∷◌}
use Rattle.std.specs.Prelude.{Option, None, Some}
use mathlib.Core.Path.{◌≡◌, refl, sym, ap, ◌∙◌}
use native.Mathlib.Omega.{arith}
use lib.ListN.{length, drop, length-drop}
use Rattle.slices.specs.Logic.{absurd_numbers}
use Rattle.refusals.specs.Limit.{pack_limit}
use Rattle.tlv.specs.Found.{Found, end, found, fault, step, step_none, step_end}
use Rattle.tlv.specs.Stands.{step_stands}
use Rattle.tlv.specs.Passing.{pass_at, pass_found}
use Rattle.tlv.specs.declared.Passed.{Passed}
use Rattle.pack.specs.Reading.{Reading, whole, refused, records, entry_at, records_end, records_fault, records_on}
use Rattle.deposit.specs.Profile.{fault_of}
use Rattle.deposit.specs.Packs.{value_at, spare_at, entry_fault, first_fault}

-- the record at a place before the end, and where the walk goes on
pub record Next (s : List ℕ) (at : ℕ) (p : Passed) : Type 0 where
  pub first : (records at 0 (drop at s)).entries ≡ entry_at at p.header ∷ (records p.next 0 (drop p.next s)).entries
  pub checked : (records p.next 0 (drop p.next s)).ending ≡ whole
  pub next_is : p.next ≡ at + 32 + p.header.length
  pub inside : p.next ≤ length s

pub next_stands : (s : List ℕ) (at : ℕ) → (records at 0 (drop at s)).ending ≡ whole → at < length s → Next s at (pass_at s at)
next_stands s at e h = go (step (drop at s)) refl
  where
    go : (f : Found) → step (drop at s) ≡ f → Next s at (pass_at s at)
    go end there = absurd (omega (arith, length-drop at s, step_end (drop at s) there))
    go (fault n) there =
        let ends : refused n at ≡ whole = sym (ap (λ (r : Reading). r.ending) (records_fault at (drop at s) n there)) ∙ e in
        absurd_numbers (cc)
    go (found d) there =
        let on = records_on at s d there in
        let stands = step_stands (drop at s) d there in
        rw (pass_found s at d there) (record {
          first = ap (λ (r : Reading). r.entries) on;
          checked = sym (ap (λ (r : Reading). r.ending) on) ∙ e;
          next_is = refl;
          inside = omega (arith, length-drop at s, stands.long);
        })

pub record Walks (s : List ℕ) (at : ℕ) : Type 0 where
  pub checked : (records at 0 (drop at s)).ending ≡ whole
  pub so_far : first_fault pack_limit s (records 0 0 s).entries ≡ first_fault pack_limit s (records at 0 (drop at s)).entries
  pub inside : at ≤ length s

module _ (s : List ℕ) where
  pub walks_first : (records 0 0 s).ending ≡ whole → Walks s 0
  walks_first e = record { checked = e; so_far = refl; inside = omega arith }

  pub walks_last : (at : ℕ) → Walks s at → length s ≤ at → first_fault pack_limit s (records 0 0 s).entries ≡ whole
  unfolding first_fault
  walks_last at w h =
      let none_left : length (drop at s) ≡ 0 = omega (arith, length-drop at s) in
      w.so_far ∙ rw (records_end at (drop at s) (step_none (drop at s) none_left))

  -- p is what the code passes there
  module _ (at : ℕ) (w : Walks s at) (h : at < length s) (p : Passed) (is : p ≡ pass_at s at) where
    next : Next s at p
    next = rw is (next_stands s at w.checked h)

    abbrev FaultHere : Option ℕ → Type 0
    FaultHere o = o ≡ fault_of pack_limit p.header.tag (spare_at s at) (value_at s at p.header.length)

    pub walks_on : FaultHere None → Walks s p.next
    unfolding first_fault entry_fault
    walks_on e = record {
      checked = next.checked;
      so_far = w.so_far ∙ ap (first_fault pack_limit s) next.first ∙ rw (← e);
      inside = next.inside;
    }

    pub walks_fault : (n : ℕ) → FaultHere (Some n) → first_fault pack_limit s (records 0 0 s).entries ≡ refused n at
    unfolding first_fault entry_fault
    walks_fault n e = w.so_far ∙ ap (first_fault pack_limit s) next.first ∙ rw (← e)

    pub walks_forward : (at + 32 ≤ p.next) × (p.next ≤ length s)
    walks_forward = (omega (arith, next.next_is), next.inside)

  pub header_inside : (at : ℕ) → Walks s at → at < length s → at + 32 ≤ length s
  header_inside at w h = let f = walks_forward at w h (pass_at s at) refl in omega (arith, f.0, f.1)
