-- Text put at a place of a buffer.
use Rattle.std.specs.Prelude.{ℕ, ◌+◌, ◌≤◌, ◌<◌, List, [], ◌++◌, ◌≡◌, refl, length}
use Rattle.std.proofs.Common.{ap, ◌∙◌, arith, length-append}
use Rattle.slices.specs.Overwriting.{overwritten, length_overwritten, overwritten_more}

-- t stands at the place `at` of what the buffer held, and `next` is the place after it
pub record Put (old : List ℕ) (at : ℕ) (t : List ℕ) (new : List ℕ) (next : ℕ) : Type 0 where
  pub place : next ≡ at + length t
  pub bytes : new ≡ overwritten old at t

pub put_length : {old : List ℕ} {at : ℕ} {t new : List ℕ} {next : ℕ} → at + length t ≤ length old → Put old at t new next → length new ≡ length old
put_length {old} {at} {t} h p = ap length p.bytes ∙ length_overwritten old at t h

-- one text after the other
pub put_then : {old : List ℕ} {at : ℕ} {t mid : List ℕ} {m : ℕ} {u new : List ℕ} {n : ℕ} → at + length t + length u ≤ length old
    → Put old at t mid m → Put mid m u new n → Put old at (t ++ u) new n
put_then {old} {at} {t} {mid} {m} {u} h p q = record {
  place = rw length-append (omega (arith, p.place, q.place));
  bytes = q.bytes ∙ (λ i. overwritten (p.bytes i) (p.place i) u) ∙ overwritten_more old at t u h;
}

-- nothing has been put yet
pub put_none : (s : List ℕ) → Put s 0 [] s 0
unfolding overwritten
put_none s = record { place = refl; bytes = refl }

-- ---- where there may be no room

-- t put, where so many bytes from `at` on lie within the buffer; otherwise the buffer and the place as they were
pub record PutWithRoom (room : ℕ) (old : List ℕ) (at : ℕ) (t : List ℕ) (new : List ℕ) (next : ℕ) : Type 0 where
  pub fits : at + room ≤ length old → Put old at t new next
  pub keeps : length old < at + room → (new ≡ old) × (next ≡ at)

-- with just the room that it takes
abbrev pub Next : List ℕ → ℕ → List ℕ → List ℕ → ℕ → Type 0
Next old at t new next = PutWithRoom (length t) old at t new next

-- one text more
pub put_next : {old : List ℕ} {at : ℕ} {t mid : List ℕ} {m : ℕ} {u new : List ℕ} {n : ℕ} → at + length t + length u ≤ length old
    → Put old at t mid m → Next mid m u new n → Put old at (t ++ u) new n
put_next {old} {at} {t} {mid} {m} {u} h p q =
    put_then h p (q.fits (omega (arith, put_length (omega arith) p, p.place)))
