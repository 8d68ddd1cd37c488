-- The answer of `vof_current`, and the lent words and bytes at exit, from what the lookup found: words and ULID go out together or not at all, and what is found has a ULID of 26 bytes.
use Prim.Native.Nat.{ℕ, ◌+◌, ◌%◌, ◌^◌, ◌≤◌, ◌<◌}
use mathlib.Core.Bool.{Bool, true, false, cond, not, ◌&&◌, and-true}
use mathlib.Core.List.{List, [], ◌∷◌}
use Rattle.std.specs.Prelude.{Option, None, Some, Result, Ok, Err}
use mathlib.Core.Path.{◌≡◌, refl, sym, ap, ◌∙◌}
use native.Mathlib.Nat.{zero-add}
use native.Mathlib.Omega.{arith}
use borrow.Author.Tests.{le-leb, lt-leb}
use lib.Dec.{eqb, leb}
use lib.ListN.{length, drop, length-drop}
use lib.Seq.{length-take-le}
use Rattle.slices.specs.Overwriting.{overwritten, written_bytes, written_within, none_overwritten}
use Rattle.slices.specs.Places.{part_at}
use Rattle.refusals.specs.Limit.{pack_limit}
use Rattle.pack.proofs.Acceptance.{accepted_reading}
use Rattle.identifier.specs.Ulid.{ulid_length}
use Rattle.current_version.specs.Current.{Version, Answer, nothing, found, refused_at, alone, lookup}
use Rattle.current_version.specs.Exactly.{current_member}
use Rattle.current_version.proofs.Exactly.{lookup_exactly}
use Rattle.lookup_records.specs.Answers.{value_in}
use Rattle.lookup_records.specs.Walk.{placed_from}
use Rattle.lookup.specs.Search.{walk_ulids}
use Rattle.lookup.specs.Answers.{version_in, fault_number, fault_place, found_of, VersionInside, is_refusal, ScratchAfter, scratch_free}
use Rattle.lookup.specs.declared.Version as declared-version
use Rattle.lookup.specs.declared.Fault.{Fault}
use Rattle.lookup.specs.declared.Fault.TheVariants.{Inadmissible, Pack, Unreadable}
use Rattle.words.specs.Words.{answer, answer_whole, flag}
use Rattle.capi_lookup.specs.Current.{fits, current_answer, current_told, current_ulid}
use Rattle.capi_lookup.proofs.Bounds.{lookup_bounded}

-- ---- four words and a text

module _ (told ulid row text : List ℕ) where
  abbrev pub Tells : ℕ → List ℕ → List ℕ → Type 0
  Tells r t u =
      (r ≡ cond (fits told ulid text) (answer 0 0) (answer 19 0))
      × ((t ≡ cond (fits told ulid text) (overwritten told 0 row) told)
      × (u ≡ cond (fits told ulid text) (overwritten ulid 0 text) ulid))

  pub few_words : length told < 4 → Tells (answer 19 0) told ulid
  few_words h = rw (lt-leb 4 (length told) h) (refl, (refl, refl))

  module _ (h : 4 ≤ length told) where
    pub few_bytes : leb (0 + length text) (length ulid) ≡ false → Tells (answer 19 0) told (written_bytes ulid 0 text)
    unfolding written_bytes
    few_bytes e =
        let here : leb (length text) (length ulid) ≡ false = rw zero-add at e in
        rw (le-leb 4 (length told) h, e, here) (refl, (refl, refl))

    pub both_told : length row ≡ 4 → leb (0 + length text) (length ulid) ≡ true → Tells (answer 0 0) (written_bytes told 0 row) (written_bytes ulid 0 text)
    unfolding written_bytes
    both_told four e =
        let here : leb (length text) (length ulid) ≡ true = rw zero-add at e in
        rw (written_within told 0 row (omega arith), le-leb 4 (length told) h, e, here) (refl, (refl, refl))

-- ---- the lookup

-- with room for what is found, only a refusal of the lookup is answered with more than 0
pub scratch_answered : (a : Answer) (words bytes r : ℕ) (old new : List ℕ) → r ≡ current_answer a words bytes
    → ScratchAfter (is_refusal a) old new → 4 ≤ words → 26 ≤ bytes → ScratchAfter (not (eqb r 0)) old new
scratch_answered nothing words bytes r old new e h w b =
    let zero : r ≡ 0 = rw (le-leb 4 words w) at e in
    rw zero (scratch_free old new h.long)
scratch_answered (found v) words bytes r old new e h w b =
    let zero : r ≡ 0 = rw (le-leb 4 words w, le-leb 26 bytes b) at e in
    rw zero (scratch_free old new h.long)
scratch_answered (refused_at n at) words bytes r old new e h w b = record { long = h.long; kept = λ x. h.kept refl }
scratch_answered (alone n) words bytes r old new e h w b = record { long = h.long; kept = λ x. h.kept refl }

either_same : (b : Bool) (s : List ℕ) → cond b s s ≡ s
either_same true s = refl
either_same false s = refl

-- a version that is found has a ULID of 26 bytes
found_length : (limit : ℕ) (s bucket object : List ℕ) (v : Version) → lookup limit s bucket object ≡ found v → length v.identifier.ulid ≡ 26
unfolding placed_from
found_length limit s bucket object v e =
    let x = (lookup_exactly limit s bucket object (found v)).0 e in
    let c = x.1 in
    let m = rw (accepted_reading limit s x.0.accepted) at (current_member c) in
    ulid_length v.identifier.ulid (walk_ulids limit s 0 c.at v m c.live.tells)

-- `f` is what the code found
module _ (s bucket object told ulid : List ℕ) (f : Result (Option declared-version.Version) Fault) (looked : found_of s f ≡ lookup pack_limit s bucket object) where
  abbrev Answers : ℕ → List ℕ → List ℕ → Type 0
  Answers r t u =
      (r ≡ current_answer (lookup pack_limit s bucket object) (length told) (length ulid))
      × ((t ≡ current_told (lookup pack_limit s bucket object) told (length ulid))
      × (u ≡ current_ulid (lookup pack_limit s bucket object) (length told) ulid))

  pub answers_nothing : f ≡ Ok None → (r : ℕ) (t u : List ℕ) → Tells told ulid (0 ∷ 0 ∷ 0 ∷ 0 ∷ []) [] r t u → Answers r t u
  answers_nothing is r t u h =
      let e : nothing ≡ lookup pack_limit s bucket object = sym (ap (found_of s) is) ∙ looked in
      let fits_none : (leb 4 (length told) && leb 0 (length ulid)) ≡ leb 4 (length told) = rw (le-leb 0 (length ulid) (omega arith), and-true) in
      let g = rw fits_none at h in
      rw (← e) (g.0, (g.1.0, g.1.1 ∙ rw none_overwritten (either_same (leb 4 (length told)) ulid)))

  pub answers_found : (v : declared-version.Version) → f ≡ Ok (Some v) → VersionInside s v
      → (r : ℕ) (t u : List ℕ) → Tells told ulid (1 ∷ v.start ∷ v.len ∷ flag v.deleted ∷ []) (part_at s v.identifier.ulid) r t u → Answers r t u
  answers_found v is inside r t u h =
      let e : found (version_in s v) ≡ lookup pack_limit s bucket object = sym (ap (found_of s) is) ∙ looked in
      let text : length (part_at s v.identifier.ulid) ≡ 26 = found_length pack_limit s bucket object (version_in s v) (sym e) in
      let value : length (value_in s v.start v.len) ≡ v.len
      = length-take-le v.len (drop 32 (drop v.start s)) (rw (length-drop, length-drop) (omega (arith, inside.value.inside.end))) in
      rw (← e, value) (rw text at h)

  answers_refused : (n place : ℕ) → found_of s f ≡ refused_at n place → n < 256 → Answers (answer n place % 2 ^ 64) told ulid
  answers_refused n place is small =
      let e : lookup pack_limit s bucket object ≡ refused_at n place = sym looked ∙ is in
      let within = lookup_bounded pack_limit s bucket object n place e in
      rw (answer_whole n place small (omega arith), e) (refl, (refl, refl))

  pub answers_fault : (x : Fault) → f ≡ Err x → fault_number x < 256 → Answers (answer (fault_number x) (fault_place x) % 2 ^ 64) told ulid
  answers_fault Inadmissible is small = rw (answer_whole 20 0 small (omega arith), sym looked ∙ ap (found_of s) is) (refl, (refl, refl))
  answers_fault (Pack x) is small = answers_refused _ _ (ap (found_of s) is) small
  answers_fault (Unreadable x at) is small = answers_refused _ _ (ap (found_of s) is) small
