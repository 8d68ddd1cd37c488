-- Words of a checked pack, filled in record by record: what the whole leaves is what the rest leaves from here.
use Prim.Native.Nat.{ℕ, zero, suc, ◌+◌, ◌-◌, ◌*◌, ◌≤◌, ◌<◌}
use mathlib.Core.List.{List}
use mathlib.Core.Path.{◌≡◌, refl, sym, ap, ◌∙◌}
use native.Mathlib.Omega.{arith}
use lib.ListN.{length}
use Rattle.slices.specs.Overwriting.{overwritten, written_bytes, written_within, length_overwritten, overwritten_more, none_overwritten}
use Rattle.tlv.specs.Passing.{pass_at}
use Rattle.tlv.specs.declared.Passed.{Passed}
use Rattle.pack.specs.Reading.{entry_at}
use Rattle.pack.specs.Scan.{listed_at, first_entries}
use Rattle.pack.specs.declared.Entry.{Entry}
use Rattle.capi_pack.specs.Scan.{words_of, entry_words, length_words}

length_first : (n : ℕ) (s : List ℕ) (at : ℕ) → length (first_entries n s at) ≡ n
unfolding first_entries
length_first zero s at = refl
length_first (suc n) s at = ap suc (length_first n s (listed_at s at).next)

-- i records have been passed, and the next stands at `at`
pub record Filled (s before : List ℕ) (n : ℕ) (told : List ℕ) (i at : ℕ) : Type 0 where
  pub passed : i ≤ n
  pub long : length told ≡ length before
  pub goes : overwritten before 0 (entry_words (first_entries n s 0)) ≡ overwritten told (4 * i) (entry_words (first_entries (n - i) s at))

pub starts : (s told : List ℕ) (n : ℕ) → Filled s told n told 0 0
starts s told n =
    let all : n - 0 ≡ n = omega arith in
    record { passed = omega arith; long = refl; goes = rw all }

module _ (s before : List ℕ) (n : ℕ) (fits : 4 * n ≤ length before) (told : List ℕ) (i at : ℕ) (f : Filled s before n told i at) where
  -- the words of the record here
  abbrev here : List ℕ
  here = words_of (entry_at at (pass_at s at).header)

  -- `p` is how the code passed over it
  pub goes_on : i < n → (p : Passed) → p ≡ pass_at s at → (now : List ℕ) → now ≡ written_bytes told (4 * i) (words_of (entry_at at p.header))
      → Filled s before n now (i + 1) p.next
  unfolding first_entries listed_at entry_words
  goes_on h p is now put =
      let room : 4 * i + 4 ≤ length told = omega (arith, f.long) in
      let e : now ≡ overwritten told (4 * i) here = (rw is at put) ∙ written_within told (4 * i) here room in
      let left : n - i ≡ suc (n - (i + 1)) = omega arith in
      let others : List Entry = first_entries (n - (i + 1)) s (pass_at s at).next in
      let l : length (entry_words others) ≡ 4 * (n - (i + 1)) = length_words others ∙ ap (λ (k : ℕ). 4 * k) (length_first (n - (i + 1)) s (pass_at s at).next) in
      let place : 4 * i + 4 ≡ 4 * (i + 1) = omega arith in
      record {
        passed = omega arith;
        long = ap length e ∙ length_overwritten told (4 * i) here room ∙ f.long;
        goes = f.goes ∙ rw (is, left, e, ← place) (sym (overwritten_more told (4 * i) here (entry_words others) (omega (arith, f.long))));
      }

  pub ends : n ≤ i → told ≡ overwritten before 0 (entry_words (first_entries n s 0))
  unfolding first_entries entry_words
  ends h =
      let none_left : n - i ≡ 0 = omega arith in
      sym (f.goes ∙ rw (none_left, none_overwritten))
