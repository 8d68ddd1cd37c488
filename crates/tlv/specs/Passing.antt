-- Passing over the records of a pack that has been checked before: no hash is computed again.
use Rattle.std.specs.Prelude.{ℕ, ◌+◌, ◌-◌, ◌≤◌, Bool, true, false, cond, ◌&&◌, List, ◌≡◌, refl, leb, length, drop}
use Rattle.std.proofs.Common.{true≢false, sym, arith, le-leb, le-ltb, leb-true, length-drop}
use Rattle.tlv.specs.Found.{no_header, fields_of, found, step}
use Rattle.tlv.specs.Stands.{step_stands}
use Rattle.tlv.specs.declared.RecordHeader.{RecordHeader}
use Rattle.tlv.specs.declared.Passed.{Passed}

-- whether a record with a value of this length, at this place, lies within so many bytes
unfoldable pub inside : ℕ → ℕ → ℕ → Bool
inside len at n = leb (at + 32) len && leb n (len - 32 - at)

-- the record at a place and the place after it; a place where none lies inside is not left
unfoldable pub pass_at : List ℕ → ℕ → Passed
pass_at s at =
    let h = fields_of (drop at s) in
    cond (inside (length s) at h.length) (record { header = h; next = at + 32 + h.length }) (record { header = no_header; next = at })

pub inside_facts : (len at n : ℕ) → inside len at n ≡ true → (at + 32 ≤ len) × (n ≤ len - 32 - at)
unfolding inside
inside_facts len at n e = go (leb (at + 32) len) refl e
  where
    go : (t : Bool) → leb (at + 32) len ≡ t → (t && leb n (len - 32 - at)) ≡ true → (at + 32 ≤ len) × (n ≤ len - 32 - at)
    go true p q = (leb-true (at + 32) len p, leb-true n (len - 32 - at) q)
    go false p q = absurd (true≢false (sym q))

-- where a record stands, it is passed
pub pass_found : (s : List ℕ) (at : ℕ) (h : RecordHeader) → step (drop at s) ≡ found h → pass_at s at ≡ record { header = h; next = at + 32 + h.length }
unfolding pass_at fields_of inside
pass_found s at h e =
    let stands = step_stands (drop at s) h e in
    let long = stands.long in
    let l : length (drop at s) ≡ length s - at = length-drop at s in
    rw (
      le-ltb (length (drop at s)) 32 (omega arith),
      stands.header,
      le-leb (at + 32) (length s) (omega arith),
      le-leb h.length
          (length s - 32 - at) (omega arith),
    )
