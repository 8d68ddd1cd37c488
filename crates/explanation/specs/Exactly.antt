-- The explanation of a pack: the lookup's refusals, or one line for each version record of the name, in pack order, each of which holds.
use Rattle.std.specs.Prelude.{ℕ, ◌↔◌, ◌≡◌}
use mathlib.Core.List.Memᴰ
use mathlib.Core.List.{List, [], ◌∷◌, map, Memᴰ}
use Rattle.std.proofs.Math.Logic.{⊎_elim}
use Rattle.std.specs.Prelude.{Option, None, Some}
use Rattle.std.proofs.Math.Path.{refl, sym, ap}
use Rattle.std.proofs.Common.{◌∙◌}
use Rattle.slices.specs.Logic.{absurd_numbers}
use Rattle.pack.specs.Reading.{reading}
use Rattle.current_version.specs.Current as current-answer
use Rattle.current_version.specs.Current.{Placed, placed, Version, version_of, filtered, answer_of, lookup}
use Rattle.current_version.specs.Best.{filtered_some, some_filtered}
use Rattle.current_version.specs.Exactly.{has_name_lem, name_had, Answers}
use Rattle.explanation.specs.Reasons.{Line, is_named, with_first, versions_of, refused_at, alone, explain_by, explain}
use Rattle.explanation.specs.Facts.{Says, OfName}

-- ---- the versions of a name are what its version records tell

module _ (bucket object : List ℕ) where
  pub versions_told : (ps : List Placed) (v : Version) → Memᴰ v (versions_of bucket object ps) → (p : Placed) × OfName ps bucket object p v
  unfolding versions_of
  versions_told [] v m = absurd (Memᴰ.not-nil m)
  versions_told (p ∷ ps) v m = go (filtered (is_named bucket object) (version_of p)) refl m (λ n. versions_told ps v n)
    where
      further : (q : Placed) × OfName ps bucket object q v → (q : Placed) × OfName (p ∷ ps) bucket object q v
      further (q, x) = (q, record { there = Memᴰ.tail x.there; tells = x.tells; in_bucket = x.in_bucket; is_object_lem = x.is_object_lem })

      go : (o : Option Version) → filtered (is_named bucket object) (version_of p) ≡ o → Memᴰ v (with_first o (versions_of bucket object ps))
          → (Memᴰ v (versions_of bucket object ps) → (q : Placed) × OfName ps bucket object q v) → (q : Placed) × OfName (p ∷ ps) bucket object q v
      go None e n rest = further (rest n)
      go (Some w) e n rest = ⊎_elim (λ same. (p, here (e ∙ ap Some (sym same)))) (λ k. further (rest k)) (Memᴰ.cases_cons n)
        where
          here : filtered (is_named bucket object) (version_of p) ≡ Some v → OfName (p ∷ ps) bucket object p v
          here f =
              let passes = filtered_some (is_named bucket object) (version_of p) v f in
              let name = has_name_lem bucket object v.identifier passes.test_passed in
              record { there = Memᴰ.head refl; tells = passes.is; in_bucket = name.0; is_object_lem = name.1 }

  pub told_versions : (ps : List Placed) (p : Placed) (v : Version) → OfName ps bucket object p v → Memᴰ v (versions_of bucket object ps)
  unfolding versions_of
  told_versions [] p v x = absurd (Memᴰ.not-nil x.there)
  told_versions (q ∷ ps) p v x =
      ⊎_elim (λ same. first same)
      (λ m. later (filtered (is_named bucket object) (version_of q))
      (told_versions ps p v (record { there = m; tells = x.tells; in_bucket = x.in_bucket; is_object_lem = x.is_object_lem })))
      (Memᴰ.cases_cons x.there)
    where
      later : (o : Option Version) → Memᴰ v (versions_of bucket object ps) → Memᴰ v (with_first o (versions_of bucket object ps))
      later None m = m
      later (Some w) m = Memᴰ.tail m

      first : p ≡ q → Memᴰ v (with_first (filtered (is_named bucket object) (version_of q)) (versions_of bucket object ps))
      first same =
          rw
          (some_filtered (is_named bucket object) (version_of q) v (ap version_of (sym same) ∙ x.tells)
          (name_had bucket object v.identifier x.in_bucket x.is_object_lem))
          (Memᴰ.head refl)

-- ---- a pack

module _ (limit : ℕ) (s bucket object : List ℕ) where
  abbrev ps : List Placed
  ps = map (placed limit s) (reading limit s).entries

  abbrev Finds : Version → Type 0
  Finds c = lookup limit s bucket object ≡ current-answer.found c

  -- a line states what holds of a version record of the name
  pub record LineHolds (l : Line) : Type 0 where
    pub at : Placed
    pub version : Version
    pub named : OfName ps bucket object at version
    pub stands : l.start ≡ version.start
    pub says : Says ps Finds version l.reason

  pub record Explains (ls : List Line) : Type 0 where
    pub answers : Answers limit s bucket object
    pub in_order : map (λ (l : Line). l.start) ls ≡ map (λ (v : Version). v.start) (versions_of bucket object ps)
    pub hold : (l : Line) → Memᴰ l ls → LineHolds l

  -- the refusals are the lookup's, number and place
  pub refused_exactly : (n place : ℕ) → explain limit s bucket object ≡ refused_at n place ↔ lookup limit s bucket object ≡ current-answer.refused_at n place
  unfolding explain
  refused_exactly n place = (by (lookup limit s bucket object), λ e. rw e)
    where
      by : (a : current-answer.Answer) → explain_by a ps bucket object ≡ refused_at n place → a ≡ current-answer.refused_at n place
      by current-answer.nothing e = absurd_numbers (cc)
      by (current-answer.found v) e = absurd_numbers (cc)
      by (current-answer.refused_at m at) e = cc
      by (current-answer.alone m) e = absurd_numbers (cc)

  pub alone_exactly : (n : ℕ) → explain limit s bucket object ≡ alone n ↔ lookup limit s bucket object ≡ current-answer.alone n
  unfolding explain
  alone_exactly n = (by (lookup limit s bucket object), λ e. rw e)
    where
      by : (a : current-answer.Answer) → explain_by a ps bucket object ≡ alone n → a ≡ current-answer.alone n
      by current-answer.nothing e = absurd_numbers (cc)
      by (current-answer.found v) e = absurd_numbers (cc)
      by (current-answer.refused_at m at) e = absurd_numbers (cc)
      by (current-answer.alone m) e = cc
