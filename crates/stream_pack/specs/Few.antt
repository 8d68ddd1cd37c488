-- A record has at least 32 bytes, so that a part of n bytes completes at most (n + 31) / 32: the first may have begun before it.
use Prim.Native.Nat.{ℕ, suc, ◌+◌, ◌*◌, ◌≤◌}
use Rattle.std.specs.Prelude.{Bool, true, false, cond, ◌≡◌, refl, eqb, leb, ltb}
use mathlib.Core.List.{List, [], ◌∷◌, ◌++◌}
use Rattle.std.specs.Prelude.{Option, None, Some}
use native.Mathlib.Omega.{arith}
use Rattle.std.proofs.Common.{ltb-true, ltb-false, length-append}
use Rattle.std.proofs.Math.ListN.{length}
use Rattle.refusals.specs.Sheet.{lowest}
use Rattle.xxh64.specs.Parts.{Hashing, fresh, push, finished}
use Rattle.tlv.specs.Found.{header_rows, header_of}
use Rattle.pack.specs.Reading.{entry_at}
use Rattle.pipe.specs.Taking.{Phase, in_header, in_value, Going, Progress, going, refused, ended, in_phase, next_record, position}
use Rattle.pipe.specs.Taking.{Next, onward, completes, refuses, valued, opened, headed, grown, byte, phase_fits, fits}
use Rattle.pipe.specs.Step.{fits_going}
use Rattle.pipe.specs.Sessions.{followed, run}

-- how many bytes of the record play a part before the next byte, at most 31
abbrev spent : Phase → ℕ
spent (in_header t) = length t
spent (in_value head hashing) = 31

-- the next byte adds one, and completes a record only after 31
abbrev Counts : ℕ → Next → Type 0
Counts n (onward g) = spent g.phase ≤ n
Counts n (completes e g) = (32 ≤ n) × (spent g.phase ≡ 0)
Counts n (refuses number place) = Unit {0}

valued_counts : (n : ℕ) (g : Going) (head : List ℕ) (hashing : Hashing) → 32 ≤ n → Counts n (valued g head hashing)
unfolding valued
valued_counts n g head hashing h = go (ltb hashing.count (header_of head).length) (eqb (header_of head).hash (finished hashing))
  where
    go : (t u : Bool) → Counts n (cond t (onward (in_phase g (in_value head hashing)))
        (cond u (completes (entry_at g.start (header_of head)) (next_record g (header_of head).length)) (refuses 8 g.start)))
    go true u = omega arith
    go false true = (h, refl)
    go false false = tt

headed_counts : (g : Going) (t : List ℕ) → Counts (length t) (headed g t)
unfolding headed
headed_counts g t = go (ltb (length t) 32) refl (lowest (header_rows t))
  where
    go : (u : Bool) → ltb (length t) 32 ≡ u → (o : Option ℕ) → Counts (length t) (cond u (onward (in_phase g (in_header t))) (opened g t o))
    go true e o = omega arith
    go false e None = valued_counts (length t) g t fresh (ltb-false (length t) 32 e)
    go false e (Some n) = tt

byte_counts : (limit : ℕ) (g : Going) (b : ℕ) → Counts (1 + spent g.phase) (byte limit g b)
unfolding byte
byte_counts limit g b = go (leb limit (position g)) g.phase
  where
    go : (t : Bool) (p : Phase) → Counts (1 + spent p) (cond t (refuses 1 0) (grown g p b))
    go true p = tt
    go false (in_header t) =
        let l : length (t ++ (b ∷ [])) ≡ 1 + length t = omega (arith, length-append t (b ∷ [])) in
        rw (← l) (headed_counts g (t ++ (b ∷ [])))
    go false (in_value head hashing) = valued_counts 32 g head (push hashing b) (omega arith)

spent_few : (p : Phase) → phase_fits p ≡ true → spent p ≤ 31
spent_few (in_header t) f = omega (arith, ltb-true (length t) 32 f)
spent_few (in_value head hashing) f = omega arith

module _ (limit : ℕ) where
  run_few : (g : Going) (s : List ℕ) → 32 * length (run limit (going g) s).told ≤ spent g.phase + length s
  unfolding run
  run_few g [] = omega arith
  run_few g (b ∷ s) = go (byte limit g b) (byte_counts limit g b) (λ next. run_few next s)
    where
      go : (f : Next) → Counts (1 + spent g.phase) f → ((next : Going) → 32 * length (run limit (going next) s).told ≤ spent next.phase + length s)
          → 32 * length (followed f (λ next. run limit (going next) s)).told ≤ spent g.phase + suc (length s)
      go (onward next) c more = omega (arith, more next)
      go (completes e next) c more = omega (arith, more next, c.0, c.1)
      go (refuses n place) c more = omega arith

  pub few_told : (p : Progress) (s : List ℕ) → fits limit p ≡ true → 32 * length (run limit p s).told ≤ 31 + length s
  unfolding run fits
  few_told (going g) s f = omega (arith, run_few g s, spent_few g.phase (fits_going limit g f).phase)
  few_told (refused n place) s f = omega arith
  few_told (ended records) s f = omega arith
