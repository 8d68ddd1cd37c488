-- Which words say a state, by ranges, as include/vof.h tells it. They are those that say one that fits, and so get an answer other than 20.
use Rattle.std.specs.Prelude.{ℕ, ◌+◌, ◌^◌, ◌≤◌, ◌<◌, Bool, cond, ◌&&◌, ◌↔◌, List, ◌≡◌, leb, take, Option, Some, None, unwrap_or}
use Rattle.std.proofs.Math.Bool.{true, false}
use Rattle.std.proofs.Math.Path.{refl}
use Rattle.std.proofs.Common.{arith}
use borrow.Author.Tests.{le-leb, lt-ltb, leb-true, ltb-true, eqb-true}
use Rattle.std.proofs.Math.Dec.{eqb, ltb}
use Rattle.std.proofs.Math.ListN.{length, length-take}
use Rattle.std.proofs.Math.Seq.{length-take-le}
use Rattle.slices.specs.Logic.{both, clash}
use Rattle.tlv.specs.Found.{header_of}
use Rattle.xxh64.specs.Parts.{hashing_of}
use Rattle.pipe.specs.Limit.{pipe_limit}
use Rattle.pipe.specs.Taking.{in_header, in_value, refused, fits}
use Rattle.pipe.specs.States.{record_at}
use Rattle.pipe.specs.States as pipe
use Rattle.pipe.specs.Step.{RefusedFits, fits_going}
use Rattle.pipe.specs.declared.Phase.{Phase}
use Rattle.pipe.specs.declared.Phase.TheVariants.{Header, Value, Refused, Ended}
use Rattle.capi_pipe.specs.Bytes.{length_unpacked}
use Rattle.capi_pipe.specs.State.{mark, word, bytes_in, no_phase, phase_of, phase_in, hash_in, state_in, progress_in}

-- a refusal in its ranges
pub fits_refused : (n place : ℕ) → fits pipe_limit (refused n place) ≡ true → RefusedFits pipe_limit n place
unfolding fits
fits_refused n place e =
    let a = both (leb 1 n) (leb n 8 && leb place pipe_limit) e in
    let b = both (leb n 8) (leb place pipe_limit) a.1 in
    record { least = leb-true 1 n a.0; most = leb-true n 8 b.0; within = leb-true place pipe_limit b.1 }

-- there are enough, the first is the mark, and the second says the phase
pub record Marked (w : List ℕ) (kind : ℕ) : Type 0 where
  pub long : 19 ≤ length w
  pub marked : word w 0 ≡ mark
  pub phase : word w 1 ≡ kind

pub data WellFormed (w : List ℕ) : Type 0 where
  in_header_lem : Marked w 0 → word w 5 < 32 → word w 2 + word w 5 ≤ 2 ^ 40 → word w 3 ≤ word w 2 → WellFormed w
  in_value_lem : Marked w 1 → word w 10 < (header_of (bytes_in w 11)).length → word w 2 + (32 + word w 10) ≤ 2 ^ 40 → word w 3 ≤ word w 2 → WellFormed w
  after_refusal : Marked w 2 → 1 ≤ word w 4 → word w 4 ≤ 8 → word w 2 ≤ 2 ^ 40 → WellFormed w
  after_end : Marked w 3 → word w 3 ≤ 2 ^ 40 → WellFormed w

module _ (w : List ℕ) where
  -- the phase that marked words say
  module _ {kind : ℕ} (m : Marked w kind) where
    said : phase_in w ≡ phase_of kind (word w 4) (word w 2)
    unfolding phase_in
    said = rw (le-leb 19 (length w) m.long, m.marked, m.phase)

  header_bytes : length (bytes_in w 11) ≡ 32
  header_bytes = length_unpacked _

  well_formed_fits : WellFormed w → fits pipe_limit (progress_in w) ≡ true
  unfolding state_in hash_in hashing_of fits
  well_formed_fits (in_header_lem m few within records) =
      let held : length (take (word w 5) (bytes_in w 11)) ≡ word w 5 = length-take-le (word w 5) (bytes_in w 11) (omega (arith, header_bytes)) in
      rw (said m, held, lt-ltb (word w 5) 32 few, le-leb (word w 2 + word w 5) (2 ^ 40) within, le-leb (word w 3) (word w 2) records)
  well_formed_fits (in_value_lem m some_left within records) =
      let room = le-leb (word w 2 + (32 + word w 10)) (2 ^ 40) within in
      rw (said m, lt-ltb (word w 10) (header_of (bytes_in w 11)).length some_left, room, le-leb (word w 3) (word w 2) records)
  well_formed_fits (after_refusal m least most within) =
      rw (said m, lt-ltb (word w 4) 256 (omega arith), le-leb 1 (word w 4) least, le-leb (word w 4) 8 most, le-leb (word w 2) (2 ^ 40) within)
  well_formed_fits (after_end m within) = rw (said m, le-leb (word w 3) (2 ^ 40) within)

  -- by the tests of a phase
  abbrev chosen : (zeroth first third second : Bool) → Option Phase
  chosen zeroth first third second = cond zeroth (Some Header) (cond first (Some Value) (cond third (Some Ended) (cond second (Some (Refused (word w 4) (word w 2))) None)))

  module _ (m : (leb 19 (length w) && eqb (word w 0) mark) ≡ true) where
    marked : {kind : ℕ} → eqb (word w 1) kind ≡ true → Marked w kind
    marked {kind = kind} k =
        let p = both (leb 19 (length w)) (eqb (word w 0) mark) m in
        record { long = leb-true 19 (length w) p.0; marked = eqb-true (word w 0) mark p.1; phase = eqb-true (word w 1) kind k }

    by : (zeroth first third second : Bool) → eqb (word w 1) 0 ≡ zeroth → eqb (word w 1) 1 ≡ first → eqb (word w 1) 3 ≡ third
        → (eqb (word w 1) 2 && ltb (word w 4) 256) ≡ second → fits pipe_limit (pipe.progress_in (unwrap_or (chosen zeroth first third second) no_phase) (state_in w)) ≡ true
        → WellFormed w
    unfolding state_in hash_in hashing_of fits
    by true first third second k _ _ _ e =
        let g = fits_going pipe_limit (record_at (state_in w) (in_header (take (word w 5) (bytes_in w 11)))) e in
        let l = length-take (word w 5) (bytes_in w 11) in
        let few = ltb-true (length (take (word w 5) (bytes_in w 11))) 32 g.phase in
        in_header_lem (marked k) (omega (arith, header_bytes)) (omega (arith, header_bytes, g.within)) g.few
    by false true third second _ k _ _ e =
        let g = fits_going pipe_limit (record_at (state_in w) (in_value (bytes_in w 11) (hashing_of (hash_in w)))) e in
        in_value_lem (marked k) (ltb-true (word w 10) (header_of (bytes_in w 11)).length g.phase) g.within g.few
    by false false true second _ _ k _ e = after_end (marked k) (leb-true (word w 3) (2 ^ 40) e)
    by false false false true _ _ _ k e =
        let r = fits_refused (word w 4) (word w 2) e in
        after_refusal (marked (both (eqb (word w 1) 2) (ltb (word w 4) 256) k).0) r.least r.most r.within
    by false false false false _ _ _ _ e = clash e refl

  fits_well_formed : fits pipe_limit (progress_in w) ≡ true → WellFormed w
  unfolding state_in phase_in fits
  fits_well_formed e = go (leb 19 (length w) && eqb (word w 0) mark) refl e
    where
      go : (t : Bool) → (leb 19 (length w) && eqb (word w 0) mark) ≡ t
          → fits pipe_limit (pipe.progress_in (unwrap_or (cond t (phase_of (word w 1) (word w 4) (word w 2)) None) no_phase) (state_in w)) ≡ true → WellFormed w
      go true m e = by m (eqb (word w 1) 0) (eqb (word w 1) 1) (eqb (word w 1) 3) (eqb (word w 1) 2 && ltb (word w 4) 256) refl refl refl refl e
      go false m e = clash e refl

  pub well_formed_exactly : fits pipe_limit (progress_in w) ≡ true ↔ WellFormed w
  well_formed_exactly = (fits_well_formed, well_formed_fits)

  pub fits_long : fits pipe_limit (progress_in w) ≡ true → 19 ≤ length w
  fits_long e = go (fits_well_formed e)
    where
      go : WellFormed w → 19 ≤ length w
      go (in_header_lem m few within records) = m.long
      go (in_value_lem m some_left within records) = m.long
      go (after_refusal m least most within) = m.long
      go (after_end m within) = m.long
