-- The lines of a pack are told exactly when there is one for each version record of the name, in pack order, and each holds.
use Rattle.std.specs.Prelude.{ℕ, ◌↔◌, ◌≡◌}
use mathlib.Core.List.Memᴰ
use mathlib.Core.List.{List, [], ◌∷◌, map, Memᴰ}
use Rattle.std.specs.Prelude.{Option, None, Some}
use Rattle.std.proofs.Math.Path.{refl, sym, ap, subst}
use Rattle.std.proofs.Common.{◌∙◌}
use Rattle.slices.specs.Logic.{absurd_numbers}
use Rattle.pack.specs.Reading.{reading}
use Rattle.current_version.specs.Current as current-answer
use Rattle.current_version.specs.Current.{Placed, placed, Version, version_of, filtered, answer_of, lookup}
use Rattle.current_version.specs.Best.{same_version}
use Rattle.current_version.specs.Exactly.{Answers}
use Rattle.current_version.proofs.Exactly.{none_exactly, current_exactly, lookup_exactly}
use Rattle.explanation.specs.Reasons.{Reason, current, current_marker, older, repeated, removed, Line, reason_of, line_of, versions_of, lines_of, explained, explain_by, explain}
use Rattle.explanation.specs.Starts.{pack_rises, one_there}
use Rattle.explanation.specs.Facts.{Says, told_role}
use Rattle.explanation.specs.Exactly.{versions_told, LineHolds, Explains}
use Rattle.explanation.proofs.Facts.{reason_holds, holds_reason}

-- ---- lists of lines

abbrev starts_of : List Line → List ℕ
starts_of ls = map (λ (l : Line). l.start) ls

starts_kept : (ps : List Placed) (found : Option Version) (vs : List Version) → starts_of (map (line_of ps found) vs) ≡ map (λ (v : Version). v.start) vs
starts_kept ps found [] = refl
starts_kept ps found (v ∷ vs) = λ i. v.start ∷ starts_kept ps found vs i

-- two lists of lines with the same starts, where a start tells the line
same_lines : (ls ms : List Line) → starts_of ls ≡ starts_of ms → ((l m : Line) → Memᴰ l ls → Memᴰ m ms → l.start ≡ m.start → l ≡ m) → ls ≡ ms
same_lines [] [] e h = refl
same_lines [] (m ∷ ms) e h = absurd_numbers (cc)
same_lines (l ∷ ls) [] e h = absurd_numbers (cc)
same_lines (l ∷ ls) (m ∷ ms) e h =
    let first : l.start ≡ m.start = cc in
    let others : starts_of ls ≡ starts_of ms = cc in
    let one = h l m (Memᴰ.head refl) (Memᴰ.head refl) first in
    let rest = same_lines ls ms others (λ a b x y. h a b (Memᴰ.tail x) (Memᴰ.tail y)) in
    λ i. one i ∷ rest i

-- what is found may be said in other words
says_with : (ps : List Placed) (F G : Version → Type 0) → ((c : Version) → F c → G c) → (v : Version) (r : Reason) → Says ps F v r → Says ps G v r
says_with ps F G h v current (e, f) = (h v e, f)
says_with ps F G h v current_marker (e, f) = (h v e, f)
says_with ps F G h v (older c) (kept, (first, (e, l))) = (kept, (first, (h c e, l)))
says_with ps F G h v (repeated k) x = x
says_with ps F G h v (removed k) x = x

-- ---- a pack

module _ (limit : ℕ) (s bucket object : List ℕ) where
  abbrev ps : List Placed
  ps = map (placed limit s) (reading limit s).entries

  abbrev Finds : Version → Type 0
  Finds c = lookup limit s bucket object ≡ current-answer.found c

  -- where the lookup refuses nothing
  module _ (found : Option Version) (answered : lookup limit s bucket object ≡ answer_of found) where
    looked : found ≡ current-answer.current ps bucket object
    looked = by found answered
      where
        by : (o : Option Version) → lookup limit s bucket object ≡ answer_of o → o ≡ current-answer.current ps bucket object
        by None e = sym ((none_exactly ps bucket object).1 ((lookup_exactly limit s bucket object current-answer.nothing).0 e).1)
        by (Some v) e = sym ((current_exactly ps bucket object v).1 ((lookup_exactly limit s bucket object (current-answer.found v)).0 e).1)

    all_answered : Answers limit s bucket object
    all_answered = by found answered
      where
        by : (o : Option Version) → lookup limit s bucket object ≡ answer_of o → Answers limit s bucket object
        by None e = ((lookup_exactly limit s bucket object current-answer.nothing).0 e).0
        by (Some v) e = ((lookup_exactly limit s bucket object (current-answer.found v)).0 e).0

    finds : (c : Version) → found ≡ Some c → Finds c
    finds c e = answered ∙ ap answer_of e

    found_by_lem : (c : Version) → Finds c → found ≡ Some c
    found_by_lem c e = by found (sym answered ∙ e)
      where
        by : (o : Option Version) → answer_of o ≡ current-answer.found c → o ≡ Some c
        by None q = absurd_numbers (cc)
        by (Some v) q = cc

    lines_are : explain limit s bucket object ≡ explained (lines_of ps found bucket object)
    unfolding explain
    lines_are = rw answered (by found)
      where
        by : (o : Option Version) → explain_by (answer_of o) ps bucket object ≡ explained (lines_of ps o bucket object)
        by None = refl
        by (Some v) = refl

    lines_hold : Explains limit s bucket object (lines_of ps found bucket object)
    unfolding lines_of
    lines_hold =
        record {
          answers = all_answered;
          in_order = starts_kept ps found (versions_of bucket object ps);
          hold = λ l m. holds l (Memᴰ.of_map (line_of ps found) (versions_of bucket object ps) m);
        }
      where
        holds : (l : Line) → (v : Version) × Memᴰ v (versions_of bucket object ps) × (line_of ps found v ≡ l) → LineHolds limit s bucket object l
        holds l (v, m, e) =
            let x = versions_told bucket object ps v m in
            record {
              at = x.0;
              version = v;
              named = x.1;
              stands = ap (λ (k : Line). k.start) (sym e);
              says = subst (Says ps Finds v) (ap (λ (k : Line). k.reason) e)
                  (says_with ps (λ c. found ≡ Some c) Finds finds v (reason_of ps found v)
                  (reason_holds ps (pack_rises limit s) bucket object found looked x.0 v x.1));
            }

    hold_lines : (ls : List Line) → Explains limit s bucket object ls → ls ≡ lines_of ps found bucket object
    unfolding lines_of
    hold_lines ls x =
        same_lines ls (map (line_of ps found) (versions_of bucket object ps)) (x.in_order ∙ sym (starts_kept ps found (versions_of bucket object ps)))
        (λ l m i j. one l m (x.hold l i) (Memᴰ.of_map (line_of ps found) (versions_of bucket object ps) j))
      where
        one : (l m : Line) → LineHolds limit s bucket object l → (v : Version) × Memᴰ v (versions_of bucket object ps) × (line_of ps found v ≡ m) → l.start ≡ m.start → l ≡ m
        one l m h (w, j, e) q =
            let v = h.version in
            let y = versions_told bucket object ps w j in
            let here = (told_role h.at v h.named.tells).1 in
            let there = (told_role y.0 w y.1.tells).1 in
            let meet : v.start ≡ w.start = sym h.stands ∙ q ∙ ap (λ (k : Line). k.start) (sym e) in
            let place : h.at ≡ y.0 = one_there ps (pack_rises limit s) h.at y.0 h.named.there y.1.there (here ∙ meet ∙ sym there) in
            let same : v ≡ w = same_version (sym h.named.tells ∙ ap version_of place ∙ y.1.tells) in
            let reason : reason_of ps found v ≡ l.reason =
            holds_reason ps (pack_rises limit s) bucket object found looked h.at v h.named l.reason
            (says_with ps Finds (λ c. found ≡ Some c) found_by_lem v l.reason h.says) in
            let line : l ≡ line_of ps found v = λ i. record { start = h.stands i; reason = sym reason i } in
            line ∙ ap (line_of ps found) same ∙ e

  answered_by : (ls : List Line) → explain limit s bucket object ≡ explained ls → (o : Option Version) × (lookup limit s bucket object ≡ answer_of o)
  unfolding explain
  answered_by ls e = by (lookup limit s bucket object) refl e
    where
      by : (a : current-answer.Answer) → lookup limit s bucket object ≡ a → explain_by a ps bucket object ≡ explained ls
          → (o : Option Version) × (lookup limit s bucket object ≡ answer_of o)
      by current-answer.nothing q f = (None, q)
      by (current-answer.found v) q f = (Some v, q)
      by (current-answer.refused_at n at) q f = absurd_numbers (cc)
      by (current-answer.alone n) q f = absurd_numbers (cc)

  answered_all : Answers limit s bucket object → (o : Option Version) × (lookup limit s bucket object ≡ answer_of o)
  answered_all x = by (current-answer.current ps bucket object) refl
    where
      by : (o : Option Version) → current-answer.current ps bucket object ≡ o → (o : Option Version) × (lookup limit s bucket object ≡ answer_of o)
      by None e = (None, (lookup_exactly limit s bucket object current-answer.nothing).1 (x, (none_exactly ps bucket object).0 e))
      by (Some v) e = (Some v, (lookup_exactly limit s bucket object (current-answer.found v)).1 (x, (current_exactly ps bucket object v).0 e))

  -- and the lines are told exactly when they hold
  pub explain_exactly : (ls : List Line) → explain limit s bucket object ≡ explained ls ↔ Explains limit s bucket object ls
  explain_exactly ls = (to, from)
    where
      to : explain limit s bucket object ≡ explained ls → Explains limit s bucket object ls
      to e =
          let a = answered_by ls e in
          let both : explained (lines_of ps a.0 bucket object) ≡ explained ls = sym (lines_are a.0 a.1) ∙ e in
          let same : lines_of ps a.0 bucket object ≡ ls = cc in
          subst (Explains limit s bucket object) same (lines_hold a.0 a.1)

      from : Explains limit s bucket object ls → explain limit s bucket object ≡ explained ls
      from x = let a = answered_all x.answers in lines_are a.0 a.1 ∙ ap explained (sym (hold_lines a.0 a.1 ls x))
