-- The lines of a name, record by record: what the whole gives is what the rest gives from here.
use Prim.Native.Nat.{ℕ, ◌+◌, ◌*◌, ◌≤◌}
use mathlib.Core.Bool.{Bool, true, false, cond}
use mathlib.Core.List.{List, [], ◌∷◌, ◌++◌, map}
use Rattle.std.specs.Prelude.{Option, None, Some}
use mathlib.Core.Path.{◌≡◌, refl, sym, ap, ◌∙◌}
use native.Mathlib.Omega.{arith}
use lib.ListN.{length, length-map}
use Rattle.slices.specs.Overwriting.{overwritten, length_overwritten, overwritten_more, none_overwritten}
use Rattle.refusals.specs.Limit.{pack_limit}
use Rattle.identifier.specs.Identity.{Identity}
use Rattle.records.specs.Record.{version_delete_tag}
use Rattle.current_version.specs.Current.{Role, version, deletion, other, unreadable, Placed, Version, version_by, version_of, filtered}
use Rattle.current_version.specs.Roles.{delete_tells_none}
use Rattle.lookup_records.specs.Answers.{role_in, value_in}
use Rattle.lookup_records.specs.Walk.{placed_from, Checked, walk_end, Walked}
use Rattle.lookup_records.specs.Passes.{version_seen_lem}
use Rattle.lookup_records.specs.declared.Visited.{Visited}
use Rattle.lookup.specs.Answers.{placed_in}
use Rattle.explanation.specs.Reasons.{Line, line_of, is_named, with_first, versions_of, lines_of, rows_of}
use Rattle.explanation.specs.Answers.{count_of, words_in, count_in, lines_for}
use Rattle.explanation.specs.declared.Row.{Row}

-- ---- lengths

length_first : (o : Option Version) (vs : List Version) → length (with_first o vs) ≡ count_of o + length vs
length_first None vs = omega arith
length_first (Some v) vs = omega arith

length_rows : (ls : List Line) → length (rows_of ls) ≡ 3 * length ls
unfolding rows_of
length_rows [] = refl
length_rows (l ∷ ls) = omega (arith, length_rows ls)

length_words : (t : Option Row) → length (words_in t) ≡ 3 * count_in t
length_words None = refl
length_words (Some r) = refl

length_for : (ps : List Placed) (found o : Option Version) → length (rows_of (lines_for ps found o)) ≡ 3 * count_of o
unfolding rows_of
length_for ps found None = refl
length_for ps found (Some v) = refl

-- where a version stands, and its value, play no part in whether it counts
counts_anywhere : (test : Identity → Bool) (start : ℕ) (value : List ℕ) (r : Role) → count_of (filtered test (version_by start value r)) ≡ count_of (filtered test (version_by 0 [] r))
unfolding filtered
counts_anywhere test start value (version i f) = by (test i)
  where
    by : (t : Bool) → count_of (cond t (Some (record { identifier = i; delete_flag = f; value = value; start = start })) None)
        ≡ count_of (cond t (Some (record { identifier = i; delete_flag = f; value = []; start = 0 })) None)
    by true = refl
    by false = refl
counts_anywhere test start value (deletion i) = refl
counts_anywhere test start value other = refl
counts_anywhere test start value (unreadable n) = refl

module _ (s bucket object : List ℕ) where
  -- the versions of the name from a place on
  abbrev pub versions_from : ℕ → List Version
  versions_from at = versions_of bucket object (placed_from pack_limit s at)

  abbrev offered : ℕ → Visited → Option Version
  offered at v = filtered (is_named bucket object) (version_of (placed_in s at v))

  versions_end : (at : ℕ) → length s ≤ at → versions_from at ≡ []
  unfolding versions_of
  versions_end at h = rw (walk_end pack_limit s at h)

  versions_on : (at : ℕ) (v : Visited) → Walked version_delete_tag s at v → versions_from at ≡ with_first (offered at v) (versions_from v.next)
  unfolding versions_of version_of
  versions_on at v walked =
      ap (versions_of bucket object) walked.first
      ∙ ap (λ o. with_first (filtered (is_named bucket object) o) (versions_from v.next))
      (version_seen_lem version_delete_tag s at v walked (delete_tells_none pack_limit))

  -- ---- counted

  pub record Counts (at count : ℕ) : Type 0 where
    pub so_far : count + length (versions_from at) ≡ length (versions_from 0)
    pub checked : Checked s at
    pub inside : at ≤ length s
    pub few : count ≤ at

  pub counts_none : Checked s 0 → Counts 0 0
  counts_none e = record { so_far = omega arith; checked = e; inside = omega arith; few = omega arith }

  count_few : (o : Option Version) → count_of o ≤ 1
  count_few None = omega arith
  count_few (Some v) = omega arith

  module _ (at count : ℕ) (k : Counts at count) where
    pub counts_more : (v : Visited) → Walked version_delete_tag s at v → (here : ℕ)
        → here ≡ count_of (filtered (is_named bucket object) (version_by 0 [] (role_in s v.role))) → Counts v.next (count + here)
    unfolding version_of
    counts_more v walked here is =
        let same : here ≡ count_of (offered at v) = is ∙ sym (counts_anywhere (is_named bucket object) at (value_in s at v.value.len) (role_in s v.role)) in
        let on : length (versions_from at) ≡ count_of (offered at v) + length (versions_from v.next)
        = ap length (versions_on at v walked) ∙ length_first (offered at v) (versions_from v.next) in
        record {
          so_far = omega (arith, k.so_far);
          checked = walked.checked;
          inside = walked.inside;
          few = omega (arith, k.few, walked.forward, count_few (offered at v));
        }

    pub counts_all : length s ≤ at → count ≡ length (versions_from 0)
    counts_all h = omega (arith, k.so_far, ap length (versions_end at h))

  -- ---- filled in

  module _ (found : Option Version) where
    abbrev all : List Placed
    all = placed_from pack_limit s 0

    abbrev rows_from : ℕ → List ℕ
    rows_from at = rows_of (map (line_of all found) (versions_from at))

    pub record Filled (before told : List ℕ) (i at : ℕ) : Type 0 where
      pub long : length told ≡ length before
      pub checked : Checked s at
      pub inside : at ≤ length s
      pub room : 3 * (i + length (versions_from at)) ≤ length before
      pub goes : overwritten before 0 (rows_of (lines_of all found bucket object)) ≡ overwritten told (3 * i) (rows_from at)

    pub fill_starts : (told : List ℕ) → Checked s 0 → 3 * length (versions_from 0) ≤ length told → Filled told told 0 0
    unfolding lines_of
    fill_starts told e h = record { long = refl; checked = e; inside = omega arith; room = omega arith; goes = refl }

    rows_on : (o : Option Version) (vs : List Version)
        → rows_of (map (line_of all found) (with_first o vs)) ≡ rows_of (lines_for all found o) ++ rows_of (map (line_of all found) vs)
    unfolding rows_of
    rows_on None vs = refl
    rows_on (Some v) vs = refl

    module _ (before told : List ℕ) (i at : ℕ) (f : Filled before told i at) (v : Visited) (walked : Walked version_delete_tag s at v) (line : Option Row)
        (is : words_in line ≡ rows_of (lines_for all found (offered at v))) where
      counts_one : count_in line ≡ count_of (offered at v)
      counts_one = omega (arith, length_words line, ap length is, length_for all found (offered at v))

      left : length (versions_from at) ≡ count_in line + length (versions_from v.next)
      left = ap length (versions_on at v walked) ∙ length_first (offered at v) (versions_from v.next) ∙ ap (λ n. n + length (versions_from v.next)) (sym counts_one)

      pub line_fits : 3 * i + length (words_in line) ≤ length told
      line_fits = omega (arith, length_words line, left, f.room, f.long)

      pub fill_more : (now : List ℕ) → now ≡ overwritten told (3 * i) (words_in line) → Filled before now (i + count_in line) v.next
      fill_more now put =
          let rest : List ℕ = rows_from v.next in
          let rows : rows_from at ≡ words_in line ++ rest
          = ap (λ vs. rows_of (map (line_of all found) vs)) (versions_on at v walked) ∙ rows_on (offered at v) (versions_from v.next) ∙ ap (λ l. l ++ rest) (sym is) in
          let l : length rest ≡ 3 * length (versions_from v.next)
          = length_rows (map (line_of all found) (versions_from v.next)) ∙ ap (λ n. 3 * n) (length-map (versions_from v.next) (line_of all found)) in
          let place : 3 * i + length (words_in line) ≡ 3 * (i + count_in line) = omega (arith, length_words line) in
          record {
            long = ap length put ∙ length_overwritten told (3 * i) (words_in line) line_fits ∙ f.long;
            checked = walked.checked;
            inside = walked.inside;
            room = omega (arith, left, f.room);
            goes = f.goes
                ∙ ap (overwritten told (3 * i)) rows
                ∙ sym (overwritten_more told (3 * i) (words_in line) rest (omega (arith, length_words line, left, l, f.room, f.long)))
                ∙ rw (put, place);
          }

    pub fill_ends : (before told : List ℕ) (i at : ℕ) → Filled before told i at → length s ≤ at
        → told ≡ overwritten before 0 (rows_of (lines_of all found bucket object))
    unfolding rows_of
    fill_ends before told i at f h = sym (f.goes ∙ rw (versions_end at h) (none_overwritten told (3 * i)))
