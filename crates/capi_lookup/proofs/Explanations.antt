-- The answer of `vof_explain`, from what the library explained: a count of lines, like a refusal's place, is within the limit on a pack's length.
use Prim.Native.Nat.{ℕ, ◌/◌, ◌%◌, ◌^◌, ◌≤◌, ◌<◌}
use mathlib.Core.Bool.{Bool, true, false, cond}
use mathlib.Core.List.{List, [], ◌∷◌, map}
use Rattle.std.specs.Prelude.{Option, None, Some, Result, Err}
use mathlib.Core.Path.{◌≡◌, refl, sym, ap, ◌∙◌}
use native.Mathlib.Omega.{arith}
use lib.Dec.{leb}
use lib.ListN.{length, length-map}
use Rattle.refusals.specs.Limit.{pack_limit}
use Rattle.pack.specs.Reading as pack
use Rattle.pack.specs.Reading.{Outcome, reading}
use Rattle.pack.specs.Bounds.{reading_bounded}
use Rattle.pack.specs.Scan.{fitted}
use Rattle.current_version.specs.Current as current-answer
use Rattle.current_version.specs.Current.{Placed, placed, Version, version_of, filtered, lookup}
use Rattle.lookup.specs.Answers.{fault_number, fault_place}
use Rattle.lookup.specs.declared.Fault as lookup-code
use Rattle.lookup.specs.declared.Fault.TheVariants.{Inadmissible, Pack, Unreadable}
use Rattle.explanation.specs.Reasons.{line_of, is_named, with_first, versions_of, lines_of, Answer, explained, refused_at, alone, explain_by, explain}
use Rattle.explanation.specs.Answers.{outcome, explained_of}
use Rattle.explanation.specs.declared.Explanation.{Explanation}
use Rattle.explanation.specs.declared.Fault.{Fault}
use Rattle.explanation.specs.declared.Fault.TheVariants.{Lookup}
use Rattle.words.specs.Words.{answer, answer_whole}
use Rattle.capi_lookup.specs.Explanation.{explain_answer}
use Rattle.capi_lookup.proofs.Bounds.{lookup_bounded}

-- ---- the number and the word of an outcome

abbrev pub number_in : Outcome → ℕ
number_in (pack.counted n) = 0
number_in (pack.refused n at) = n
number_in (pack.alone n) = n

abbrev pub word_in : Outcome → ℕ
word_in (pack.counted n) = n
word_in (pack.refused n at) = at
word_in (pack.alone n) = 0

pub refusal_number : (f : lookup-code.Fault) → number_in (explained_of (Err (Lookup f))) ≡ fault_number f
refusal_number Inadmissible = refl
refusal_number (Pack f) = refl
refusal_number (Unreadable f at) = refl

pub refusal_word : (f : lookup-code.Fault) → word_in (explained_of (Err (Lookup f))) ≡ fault_place f
refusal_word Inadmissible = refl
refusal_word (Pack f) = refl
refusal_word (Unreadable f at) = refl

answered : (a : Answer) (words : ℕ) → explain_answer a words ≡ answer (number_in (fitted (outcome a) (words / 3))) (word_in (fitted (outcome a) (words / 3)))
answered (explained ls) words = by (leb (length ls) (words / 3))
  where
    by : (t : Bool) → cond t (answer 0 (length ls)) (answer 19 0)
        ≡ answer (number_in (cond t (pack.counted (length ls)) (pack.alone 19))) (word_in (cond t (pack.counted (length ls)) (pack.alone 19)))
    by true = refl
    by false = refl
answered (refused_at n at) words = refl
answered (alone n) words = refl

-- ---- bounds

fitted_less : (o : Outcome) (room : ℕ) → word_in (fitted o room) ≤ word_in o
fitted_less (pack.counted n) room = by (leb n room)
  where
    by : (t : Bool) → word_in (cond t (pack.counted n) (pack.alone 19)) ≤ n
    by true = omega arith
    by false = omega arith
fitted_less (pack.refused n at) room = omega arith
fitted_less (pack.alone n) room = omega arith

versions_few : (bucket object : List ℕ) (ps : List Placed) → length (versions_of bucket object ps) ≤ length ps
unfolding versions_of
versions_few bucket object [] = omega arith
versions_few bucket object (p ∷ ps) = by (filtered (is_named bucket object) (version_of p)) (versions_few bucket object ps)
  where
    by : (o : Option Version) → length (versions_of bucket object ps) ≤ length ps → length (with_first o (versions_of bucket object ps)) ≤ length (p ∷ ps)
    by None h = omega arith
    by (Some v) h = omega arith

module _ (s bucket object : List ℕ) where
  abbrev ps : List Placed
  ps = map (placed pack_limit s) (reading pack_limit s).entries

  lines_few : (found : Option Version) → length (lines_of ps found bucket object) ≤ pack_limit
  unfolding lines_of
  lines_few found =
      omega (arith, length-map (versions_of bucket object ps) (line_of ps found), versions_few bucket object ps, length-map (reading pack_limit s).entries (placed pack_limit s), (reading_bounded pack_limit s).count)

  explain_bounded : word_in (outcome (explain pack_limit s bucket object)) ≤ pack_limit
  unfolding explain
  explain_bounded = by (lookup pack_limit s bucket object) refl
    where
      by : (a : current-answer.Answer) → lookup pack_limit s bucket object ≡ a → word_in (outcome (explain_by a ps bucket object)) ≤ pack_limit
      by current-answer.nothing e = lines_few None
      by (current-answer.found v) e = lines_few (Some v)
      by (current-answer.refused_at n at) e = lookup_bounded pack_limit s bucket object n at e
      by (current-answer.alone n) e = omega arith

  -- `r` is what the library answered
  pub explain_answers : (words : ℕ) (r : Result Explanation Fault) → explained_of r ≡ fitted (outcome (explain pack_limit s bucket object)) (words / 3)
      → (number word : ℕ) → number_in (explained_of r) ≡ number → word_in (explained_of r) ≡ word → number < 256
      → answer number word % 2 ^ 64 ≡ explain_answer (explain pack_limit s bucket object) words
  explain_answers words r is number word n w small =
      let a : Answer = explain pack_limit s bucket object in
      let bound : word ≤ pack_limit = omega (arith, ap word_in is, fitted_less (outcome a) (words / 3), explain_bounded) in
      answer_whole number word small (omega arith)
      ∙ rw (← n, ← w, is) (sym (answered a words))
