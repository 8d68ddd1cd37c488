-- Demand 3, deletion: a `vd` at the end of a pack answers as the pack from which the versions it names are taken out.
use Rattle.std.specs.Prelude.{ℕ, ◌≤◌, cond, ◌||◌, ◌≡◌}
use Rattle.std.proofs.Math.Bool.{Bool, true, false, or-true, or-false, and-false}
use Rattle.std.proofs.Common.{true≢false, sym, ap, ◌∙◌}
use mathlib.Core.List.Memᴰ
use mathlib.Core.List.{List, [], ◌∷◌, ◌++◌, map}
use Rattle.std.proofs.Math.Logic.{⊎_elim}
use Rattle.std.specs.Prelude.{None, Some}
use Rattle.std.proofs.Math.Path.{refl}
use Rattle.std.proofs.Math.ListN.{length}
use Rattle.refusals.specs.Answers.{is_result, granted}
use Rattle.tlv.specs.Layout.{Record, Fits, layouts}
use Rattle.pack.specs.Acceptance.{AllFit}
use Rattle.identifier.specs.Identity.{Identity, same_identity, same_identity_refl, same_identity_true}
use Rattle.held_identifier.specs.Held.{has_name}
use Rattle.records.specs.Record as records
use Rattle.records.specs.Record.{version_delete_tag, read_record, can_be_read}
use Rattle.current_version.specs.Current.{Role, version, deletion, other, unreadable, role, version_by, version_of, filtered, better, best, deletes, is_deleted, is_live, current, is_name, lookup}
use Rattle.current_version.specs.Roles.{delete_role}
use Rattle.current_version.specs.Packs.{Readable, SameAnswer, unplaced}
use Rattle.current_version.proofs.Packs.{same_answers}
use Rattle.current_version.specs.Deletion.{is_version, taken_out, taken_out_readable}

-- ---- one record more at the end

all_fit_with : (rs : List Record) (d : Record) → AllFit rs → Fits d → AllFit (rs ++ (d ∷ []))
all_fit_with [] d a f = (f, tt)
all_fit_with (r ∷ rs) d a f = (a.0, all_fit_with rs d a.1 f)

readable_with : (limit : ℕ) (rs : List Record) (d : Record) → Readable limit rs → Fits d
    → can_be_read limit d.tag d.value ≡ true → length (layouts (rs ++ (d ∷ []))) ≤ limit → Readable limit (rs ++ (d ∷ []))
readable_with limit rs d a f c within =
    record {
      fit = all_fit_with rs d a.fit f;
      within = within;
      all_read = λ r m t. ⊎_elim (λ n. a.all_read r n t)
          (λ n. ⊎_elim (λ e. rw e c) (λ k. absurd (Memᴰ.not-nil k)) (Memᴰ.cases_cons n)) (Memᴰ.append_cases rs m);
    }

-- ---- what a `vd` changes: one identifier more is deleted, and it offers nothing

deletes_version : (i j : Identity) (r : Role) → is_version i r ≡ true → deletes j r ≡ false
unfolding is_version deletes
deletes_version i j (version k f) e = refl
deletes_version i j (deletion k) e = absurd (true≢false (sym e))
deletes_version i j other e = refl
deletes_version i j (unreadable n) e = refl

module _ (limit : ℕ) (i : Identity) where
  deleted_with : (rs : List Record) (d : Record) (j : Identity) → role limit d.tag d.value ≡ deletion i
      → is_deleted (map (unplaced limit) (rs ++ (d ∷ []))) j ≡ (is_deleted (map (unplaced limit) rs) j || same_identity i j)
  unfolding is_deleted deletes
  deleted_with [] d j e = rw e (or-false (same_identity i j))
  deleted_with (r ∷ rs) d j e = rw (deleted_with rs d j e) (go (deletes j (role limit r.tag r.value)))
    where
      go : (t : Bool) → (t || (is_deleted (map (unplaced limit) rs) j || same_identity i j)) ≡ ((t || is_deleted (map (unplaced limit) rs) j) || same_identity i j)
      go true = refl
      go false = refl

  -- to take versions out deletes and undeletes nothing
  deleted_without : (rs : List Record) (j : Identity) → is_deleted (map (unplaced limit) (taken_out limit i rs)) j ≡ is_deleted (map (unplaced limit) rs) j
  unfolding is_deleted taken_out
  deleted_without [] j = refl
  deleted_without (r ∷ rs) j = go (is_version i (role limit r.tag r.value)) refl (deleted_without rs j)
    where
      go : (t : Bool) → is_version i (role limit r.tag r.value) ≡ t
          → is_deleted (map (unplaced limit) (taken_out limit i rs)) j ≡ is_deleted (map (unplaced limit) rs) j
          → is_deleted (map (unplaced limit) (cond t (taken_out limit i rs) (r ∷ taken_out limit i rs))) j
          ≡ (deletes j (role limit r.tag r.value) || is_deleted (map (unplaced limit) rs) j)
      go true e rest = rw (deletes_version i j (role limit r.tag r.value) e) rest
      go false e rest = rw rest

  best_with : (test : Identity → Bool) (rs : List Record) (d : Record) → role limit d.tag d.value ≡ deletion i
      → best test (map (unplaced limit) (rs ++ (d ∷ []))) ≡ best test (map (unplaced limit) rs)
  unfolding best better filtered version_of
  best_with test [] d e = rw e
  best_with test (r ∷ rs) d e = rw (best_with test rs d e)

  -- where the test shuts the versions of i out, it finds what stands without them
  module _ (test test' : Identity → Bool) (out : test i ≡ false) (others : (j : Identity) → same_identity i j ≡ false → test j ≡ test' j) where
    filtered_out : (value : List ℕ) (r : Role) → is_version i r ≡ true → filtered test (version_by 0 value r) ≡ None
    unfolding filtered is_version
    filtered_out value (version j f) e = rw (← (same_identity_true i j e), out)
    filtered_out value (deletion j) e = refl
    filtered_out value other e = refl
    filtered_out value (unreadable n) e = refl

    filtered_others : (value : List ℕ) (r : Role) → is_version i r ≡ false → filtered test (version_by 0 value r) ≡ filtered test' (version_by 0 value r)
    unfolding filtered is_version
    filtered_others value (version j f) e = rw (others j e)
    filtered_others value (deletion j) e = refl
    filtered_others value other e = refl
    filtered_others value (unreadable n) e = refl

    best_without : (rs : List Record) → best test (map (unplaced limit) rs) ≡ best test' (map (unplaced limit) (taken_out limit i rs))
    unfolding best better taken_out version_of
    best_without [] = refl
    best_without (r ∷ rs) = go (is_version i (role limit r.tag r.value)) refl (best_without rs)
      where
        go : (t : Bool) → is_version i (role limit r.tag r.value) ≡ t
            → best test (map (unplaced limit) rs) ≡ best test' (map (unplaced limit) (taken_out limit i rs))
            → better (filtered test (version_by 0 r.value (role limit r.tag r.value))) (best test (map (unplaced limit) rs))
            ≡ best test' (map (unplaced limit) (cond t (taken_out limit i rs) (r ∷ taken_out limit i rs)))
        go true e rest = rw (filtered_out r.value (role limit r.tag r.value) e) rest
        go false e rest = rw (filtered_others r.value (role limit r.tag r.value) e, rest)

  current_with : (rs : List Record) (d : Record) (bucket object : List ℕ) → role limit d.tag d.value ≡ deletion i
      → current (map (unplaced limit) (rs ++ (d ∷ []))) bucket object ≡ current (map (unplaced limit) (taken_out limit i rs)) bucket object
  unfolding current is_live
  current_with rs d bucket object e = best_with test rs d e ∙ best_without test test' out others rs
    where
      test : Identity → Bool
      test = is_live (map (unplaced limit) (rs ++ (d ∷ []))) bucket object

      test' : Identity → Bool
      test' = is_live (map (unplaced limit) (taken_out limit i rs)) bucket object

      out : test i ≡ false
      out = rw (deleted_with rs d i e, same_identity_refl i, or-true (is_deleted (map (unplaced limit) rs) i)) (and-false (has_name (Some i) bucket object))

      others : (j : Identity) → same_identity i j ≡ false → test j ≡ test' j
      others j n = rw (deleted_with rs d j e, n, or-false (is_deleted (map (unplaced limit) rs) j), deleted_without rs j)

-- ---- the theorem

pub records_answer_as_taken_out : (limit : ℕ) (rs : List Record) (d : Record) (x : records.Record) (bucket object : List ℕ)
    → Readable limit rs → Fits d → d.tag ≡ version_delete_tag → read_record limit version_delete_tag d.value ≡ granted x
    → length (layouts (rs ++ (d ∷ []))) ≤ limit → is_name bucket object ≡ true
    → SameAnswer (lookup limit (layouts (rs ++ (d ∷ []))) bucket object) (lookup limit (layouts (taken_out limit x.contents.identifier rs)) bucket object)
unfolding can_be_read
records_answer_as_taken_out limit rs d x bucket object a fits tag e within name =
    let i : Identity = x.contents.identifier in
    let r : role limit d.tag d.value ≡ deletion i = ap (λ t. role limit t d.value) tag ∙ delete_role limit d.value x e in
    let c : can_be_read limit d.tag d.value ≡ true = ap (λ t. can_be_read limit t d.value) tag ∙ ap is_result e in
    same_answers limit (rs ++ (d ∷ [])) (taken_out limit i rs) bucket object (readable_with limit rs d a fits c within) (taken_out_readable limit i rs a) name
    (current_with limit i rs d bucket object r)
