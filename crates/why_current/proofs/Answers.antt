-- What an answer of the library says of the explanation, and so of the text.
use Prim.Native.Nat.{ℕ, ◌+◌, ◌/◌, ◌≤◌}
use mathlib.Core.Bool.{Bool, true, false, cond}
use mathlib.Core.List.Memᴰ
use mathlib.Core.List.{List, [], ◌∷◌, ◌++◌, map}
use Rattle.std.specs.Prelude.{Option, None, Some}
use mathlib.Core.Path.{◌≡◌, refl, sym, ap, subst, ◌∙◌}
use native.Mathlib.Omega.{arith}
use borrow.Author.Tests.{leb-true, le-leb}
use lib.Dec.{eqb, leb}
use lib.ListN.{length, drop, length-map, length-replicate}
use Rattle.slices.specs.Bytes.{AllBytes}
use Rattle.slices.specs.Logic.{absurd_numbers}
use Rattle.slices.specs.Overwriting.{overwritten}
use Rattle.refusals.specs.Limit.{pack_limit}
use Rattle.pack.specs.Reading as pack
use Rattle.pack.specs.Reading.{Ending, whole, refused, reading, Outcome, counted}
use Rattle.pack.specs.Scan.{fitted}
use Rattle.pack.proofs.Acceptance.{accepted_count}
use Rattle.identifier.specs.Identity.{sizes}
use Rattle.current_version.specs.Current as current-answer
use Rattle.current_version.specs.Current.{Placed, placed, value_of, Version, version_of, filtered, readability, answer_of, current, answer_in, is_name, lookup}
use Rattle.current_version.specs.Roles.{version_told, version_role}
use Rattle.current_version.specs.Exactly.{current_member}
use Rattle.current_version.proofs.Exactly.{current_is}
use Rattle.explanation.specs.Reasons.{Reason, current_marker, older, repeated, removed, unless_removed, unless_repeated, unless_older, first_deletion, first_version, reason_of, line_of, Line, reason_number, reason_place, rows_of, is_named, with_first, versions_of, lines_of, Answer, explained, refused_at, alone, explain_by, explain}
use Rattle.explanation.specs.Reasons as explanation
use Rattle.explanation.specs.Answers.{outcome, told_after, ulid_found}
use Rattle.console.specs.Put.{Put, PutWithRoom}
use Rattle.console.specs.Text.{refusal_line, refusal_alone, refusal_length, refusal_alone_length}
use Rattle.why_current.specs.Text.{reason_words, line, lines, text_of, bucket_of, object_of, text}
use Rattle.why_current.specs.Rows.{reason_text, row_text, rows_text, no_rows}

-- ---- the lines of rows are those of the explanation

-- only what the lookup finds is told as the one that others are older than
module _ (start : ℕ) (c : Version) where
  chosen : (here marker : Bool) (d : Version) → cond here (cond marker current_marker explanation.current) (older d) ≡ older c → Some d ≡ Some c
  chosen true true d e = absurd_numbers (cc)
  chosen true false d e = absurd_numbers (cc)
  chosen false marker d e = let same : d ≡ c = cc in ap Some same

  standing : (marker : Bool) (found : Option Version) → unless_older start found (cond marker current_marker explanation.current) ≡ older c → found ≡ Some c
  standing true None e = absurd_numbers (cc)
  standing false None e = absurd_numbers (cc)
  standing marker (Some d) e = chosen (eqb d.start start) marker d e

  older_found : (marker : Bool) (gone before : Option ℕ) (found : Option Version)
      → unless_removed gone (unless_repeated start before (unless_older start found (cond marker current_marker explanation.current))) ≡ older c → found ≡ Some c
  older_found marker (Some p) before found e = absurd_numbers (cc)
  older_found marker None None found e = standing marker found e
  older_found marker None (Some p) found e = go (eqb p start) e
    where
      go : (t : Bool) → cond t (unless_older start found (cond marker current_marker explanation.current)) (repeated p) ≡ older c → found ≡ Some c
      go true h = standing marker found h
      go false h = absurd_numbers (cc)

reason_words_lem : (start : ℕ) (ulid : List ℕ) (r : Reason) → ((c : Version) → r ≡ older c → c.identifier.ulid ≡ ulid)
    → reason_text (reason_number r) (reason_place start r) ulid ≡ reason_words r
unfolding reason_text
reason_words_lem start ulid explanation.current h = refl
reason_words_lem start ulid current_marker h = refl
reason_words_lem start ulid (older c) h = rw (h c refl)
reason_words_lem start ulid (repeated p) h = refl
reason_words_lem start ulid (removed p) h = refl

abbrev ulid_of : Option Version → List ℕ
ulid_of None = []
ulid_of (Some v) = v.identifier.ulid

module _ (ps : List Placed) (found : Option Version) where
  row_line : (v : Version) → row_text v.start (reason_number (reason_of ps found v)) (reason_place v.start (reason_of ps found v)) (ulid_of found) ≡ line (line_of ps found v)
  unfolding row_text line reason_of
  row_line v =
      rw (reason_words_lem v.start (ulid_of found) (reason_of ps found v)
      (λ c e. ap ulid_of (sym (older_found v.start c v.delete_flag (first_deletion ps v.identifier) (first_version ps v.identifier) found e))))

  rows_lines : (vs : List Version) (rest : List ℕ)
      → rows_text (length (map (line_of ps found) vs)) (rows_of (map (line_of ps found) vs) ++ rest) (ulid_of found) ≡ lines (map (line_of ps found) vs)
  unfolding rows_text lines rows_of
  rows_lines [] rest = refl
  rows_lines (v ∷ vs) rest = rw (row_line v, rows_lines vs rest)

-- ---- how a lookup answers

pub data Case (s bucket object : List ℕ) : Type 0 where
  name : lookup pack_limit s bucket object ≡ current-answer.alone 20 → Case s bucket object
  fault : (n place : ℕ) → lookup pack_limit s bucket object ≡ current-answer.refused_at n place → Case s bucket object
  read : (reading pack_limit s).ending ≡ whole
      → lookup pack_limit s bucket object ≡ answer_of (current (map (placed pack_limit s) (reading pack_limit s).entries) bucket object) → Case s bucket object

pub case_of : (s bucket object : List ℕ) → Case s bucket object
unfolding lookup answer_in
case_of s bucket object = by_name (is_name bucket object) refl (reading pack_limit s).ending refl (readability ps) refl
  where
    ps : List Placed
    ps = map (placed pack_limit s) (reading pack_limit s).entries

    by_name : (t : Bool) → is_name bucket object ≡ t → (e : Ending) → (reading pack_limit s).ending ≡ e → (f : Ending) → readability ps ≡ f → Case s bucket object
    by_name false p e q f r = name (rw p)
    by_name true p (refused n place) q f r = fault n place (rw (p, q))
    by_name true p whole q (refused n place) r = fault n place (rw (p, q, r))
    by_name true p whole q whole r = read q (rw (p, q, r))

abbrev among : List ℕ → List Placed
among s = map (placed pack_limit s) (reading pack_limit s).entries

module _ (s bucket object : List ℕ) (found : Option Version) (e : lookup pack_limit s bucket object ≡ answer_of found) where
  told_is : explain pack_limit s bucket object ≡ explained (lines_of (among s) found bucket object)
  unfolding explain
  told_is = ap (λ a. explain_by a (among s) bucket object) e ∙ go found
    where
      go : (o : Option Version) → explain_by (answer_of o) (among s) bucket object ≡ explained (lines_of (among s) o bucket object)
      go None = refl
      go (Some v) = refl

  ulid_is : ulid_found (lookup pack_limit s bucket object) ≡ ulid_of found
  ulid_is = ap ulid_found e ∙ go found
    where
      go : (o : Option Version) → ulid_found (answer_of o) ≡ ulid_of o
      go None = refl
      go (Some v) = refl

-- a version is read, so that its ULID has 26 bytes
ulid_short : (s bucket object : List ℕ) → length (ulid_of (current (among s) bucket object)) ≤ 26
ulid_short s bucket object = go (current (among s) bucket object) refl
  where
    go : (o : Option Version) → current (among s) bucket object ≡ o → length (ulid_of o) ≤ 26
    go None e = omega arith
    go (Some v) e =
        let is = current_is (among s) bucket object v e in
        let o = Memᴰ.of_map (placed pack_limit s) (reading pack_limit s).entries (current_member is) in
        let r = version_told pack_limit o.0.start o.0.tag (value_of s o.0) v (ap version_of o.2 ∙ is.live.tells) in
        omega (arith, (sizes v.identifier (version_role pack_limit o.0.tag (value_of s o.0) v.identifier v.delete_flag r).rules).ulid)

-- ---- how many lines there are

versions_few : (bucket object : List ℕ) (ps : List Placed) → length (versions_of bucket object ps) ≤ length ps
unfolding versions_of
versions_few bucket object [] = omega arith
versions_few bucket object (p ∷ ps) = go (filtered (is_named bucket object) (version_of p)) (versions_few bucket object ps)
  where
    go : (o : Option Version) → length (versions_of bucket object ps) ≤ length ps → length (with_first o (versions_of bucket object ps)) ≤ length (p ∷ ps)
    go None h = omega arith
    go (Some v) h = omega arith

-- a pack of 65,536 bytes has at most 2,048 records
lines_few : (s bucket object : List ℕ) (found : Option Version) → AllBytes s → length s ≤ 65536 → (reading pack_limit s).ending ≡ whole
    → length (lines_of (among s) found bucket object) ≤ 2048
unfolding lines_of
lines_few s bucket object found bytes h e =
    rw length-map (omega (arith, versions_few bucket object (among s), length-map (reading pack_limit s).entries (placed pack_limit s), accepted_count pack_limit s (omega arith) bytes e))

-- ---- what each answer says

pub rows_length : length no_rows ≡ 6144
unfolding no_rows
rows_length = length-replicate {A = ℕ} 6144 0

room_is : length no_rows / 3 ≡ 2048
room_is = ap (λ (n : ℕ). n / 3) rows_length

refusal_is : (a : Answer) (room n place : ℕ) → pack.refused n place ≡ fitted (outcome a) room → a ≡ refused_at n place
refusal_is (explained ls) room n place e = go (leb (length ls) room) e
  where
    go : (t : Bool) → pack.refused n place ≡ cond t (counted (length ls)) (pack.alone 19) → explained ls ≡ refused_at n place
    go true h = absurd_numbers (cc)
    go false h = absurd_numbers (cc)
refusal_is (refused_at m p) room n place e = let a : m ≡ n = cc in let b : p ≡ place = cc in rw (a, b)
refusal_is (alone m) room n place e = absurd_numbers (cc)

alone_is : (a : Answer) (room : ℕ) → pack.alone 20 ≡ fitted (outcome a) room → a ≡ alone 20
alone_is (explained ls) room e = go (leb (length ls) room) e
  where
    go : (t : Bool) → pack.alone 20 ≡ cond t (counted (length ls)) (pack.alone 19) → explained ls ≡ alone 20
    go true h = absurd_numbers (cc)
    go false h = let z : ◌≡◌ {A = ℕ} 20 19 = cc in absurd (omega arith)
alone_is (refused_at m p) room e = absurd_numbers (cc)
alone_is (alone m) room e = let a : m ≡ 20 = cc in rw a

-- the outcome with the program's list, by what the lookup answers
outcome_by_lem : (s bucket object : List ℕ) (a : current-answer.Answer) → lookup pack_limit s bucket object ≡ a
    → fitted (outcome (explain pack_limit s bucket object)) (length no_rows / 3) ≡ fitted (outcome (explain_by a (among s) bucket object)) 2048
unfolding explain
outcome_by_lem s bucket object a e = rw (room_is, e)

outcome_read : (s bucket object : List ℕ) (found : Option Version) → lookup pack_limit s bucket object ≡ answer_of found
    → fitted (outcome (explain pack_limit s bucket object)) (length no_rows / 3) ≡ fitted (counted (length (lines_of (among s) found bucket object))) 2048
outcome_read s bucket object found e = rw (room_is, told_is s bucket object found e)

pub never_short : (s bucket object : List ℕ) → AllBytes s → length s ≤ 65536 → pack.alone 19 ≡ fitted (outcome (explain pack_limit s bucket object)) (length no_rows / 3) → ⊥
never_short s bucket object bytes h e = by (case_of s bucket object)
  where
    by : Case s bucket object → ⊥
    by (name c) = let same : pack.alone 19 ≡ pack.alone 20 = e ∙ outcome_by_lem s bucket object (current-answer.alone 20) c in let z : ◌≡◌ {A = ℕ} 19 20 = cc in omega arith
    by (fault n place c) = let same : pack.alone 19 ≡ pack.refused n place = e ∙ outcome_by_lem s bucket object (current-answer.refused_at n place) c in absurd_numbers (cc)
    by (read w c) =
        let found = current (among s) bucket object in
        let fits = le-leb (length (lines_of (among s) found bucket object)) 2048 (lines_few s bucket object found bytes h w) in
        let same : pack.alone 19 ≡ counted (length (lines_of (among s) found bucket object)) = e ∙ outcome_read s bucket object found c ∙ rw fits in
        absurd_numbers (cc)

lines_text : (ps : List Placed) (found : Option Version) (bucket object : List ℕ)
    → rows_text (length (lines_of ps found bucket object)) (overwritten no_rows 0 (rows_of (lines_of ps found bucket object))) (ulid_of found) ≡ lines (lines_of ps found bucket object)
unfolding lines_of overwritten
lines_text ps found bucket object =
    rows_lines ps found (versions_of bucket object ps) (drop (0 + length (rows_of (lines_of ps found bucket object))) no_rows)

-- so many lines: they fit, and the words told are theirs
pub record Told (s bucket object : List ℕ) (n : ℕ) : Type 0 where
  pub few : n ≤ 2048
  pub short : length (ulid_found (lookup pack_limit s bucket object)) ≤ 26
  pub text_is : rows_text n (told_after (explain pack_limit s bucket object) no_rows) (ulid_found (lookup pack_limit s bucket object)) ≡ text_of (explain pack_limit s bucket object)

pub told : (s bucket object : List ℕ) (n : ℕ) → counted n ≡ fitted (outcome (explain pack_limit s bucket object)) (length no_rows / 3) → Told s bucket object n
told s bucket object n e = by (case_of s bucket object)
  where
    by : Case s bucket object → Told s bucket object n
    by (name c) = let same : counted n ≡ pack.alone 20 = e ∙ outcome_by_lem s bucket object (current-answer.alone 20) c in absurd_numbers (cc)
    by (fault m place c) = let same : counted n ≡ pack.refused m place = e ∙ outcome_by_lem s bucket object (current-answer.refused_at m place) c in absurd_numbers (cc)
    by (read w c) = go (leb (length (lines_of (among s) found bucket object)) 2048) refl (e ∙ outcome_read s bucket object found c)
      where
        found : Option Version
        found = current (among s) bucket object

        go : (t : Bool) → leb (length (lines_of (among s) found bucket object)) 2048 ≡ t
            → counted n ≡ cond t (counted (length (lines_of (among s) found bucket object))) (pack.alone 19) → Told s bucket object n
        go true l q =
            let count : n ≡ length (lines_of (among s) found bucket object) = cc in
            record {
              few = omega (arith, leb-true (length (lines_of (among s) found bucket object)) 2048 l);
              short = rw (ulid_is s bucket object found c) (ulid_short s bucket object);
              text_is = rw (told_is s bucket object found c, ulid_is s bucket object found c, count, room_is, l) (lines_text (among s) found bucket object);
            }
        go false l q = absurd_numbers (cc)

-- ---- and so the text of a name and a pack

module _ (named s bucket object : List ℕ) (bucket-is : bucket ≡ bucket_of named) (object-is : object ≡ object_of named) where
  text_of_lem : text_of (explain pack_limit s bucket object) ≡ text named s
  unfolding text
  text_of_lem = rw (bucket-is, object-is)

  module _ {s0 s1 : List ℕ} {next : ℕ} where
    pub lines_put : (n : ℕ) (words ulid : List ℕ) → Told s bucket object n → words ≡ told_after (explain pack_limit s bucket object) no_rows
        → ulid ≡ ulid_found (lookup pack_limit s bucket object) → Put s0 0 (rows_text n words ulid) s1 next → Put s0 0 (text named s) s1 next
    lines_put n words ulid t words_are ulid-told p =
        subst (λ (x : List ℕ). Put s0 0 x s1 next) (ap (λ (w : List ℕ). rows_text n w ulid) words_are ∙ ap (rows_text n (told_after (explain pack_limit s bucket object) no_rows)) ulid-told ∙ t.text_is ∙ text_of_lem) p

    pub refusal_put : (n place : ℕ) → 110592 ≤ length s0 → pack.refused n place ≡ fitted (outcome (explain pack_limit s bucket object)) (length no_rows / 3)
        → PutWithRoom 53 s0 0 (refusal_line n place) s1 next → Put s0 0 (text named s) s1 next × (next ≤ 110592)
    refusal_put n place room e p =
        let put = p.fits (omega arith) in
        let is : refusal_line n place ≡ text named s = ap text_of (sym (refusal_is (explain pack_limit s bucket object) (length no_rows / 3) n place e)) ∙ text_of_lem in
        (subst (λ (x : List ℕ). Put s0 0 x s1 next) is put, omega (arith, put.place, refusal_length n place))

    pub alone_put : 110592 ≤ length s0 → pack.alone 20 ≡ fitted (outcome (explain pack_limit s bucket object)) (length no_rows / 3)
        → PutWithRoom 29 s0 0 (refusal_alone 20) s1 next → Put s0 0 (text named s) s1 next × (next ≤ 110592)
    alone_put room e p =
        let put = p.fits (omega arith) in
        let is : refusal_alone 20 ≡ text named s = ap text_of (sym (alone_is (explain pack_limit s bucket object) (length no_rows / 3) e)) ∙ text_of_lem in
        (subst (λ (x : List ℕ). Put s0 0 x s1 next) is put, omega (arith, put.place, refusal_alone_length 20))

-- ---- the line of a pack that is too long lies within the buffer

pub too_long_within : {s0 s2 : List ℕ} {next : ℕ} → 53 ≤ length s0 → length s2 ≡ length s0 → PutWithRoom 53 s0 0 (refusal_line 1 0) s2 next → next ≤ length s2
too_long_within room same put = omega (arith, (put.fits (omega arith)).place, refusal_length 1 0, same)
