-- A pack as a list of records: the lookup's answer depends on their tags and values and on their order; where they stand shows only in the place told.
use Rattle.std.specs.Prelude.{ℕ, ◌+◌, Bool, true, false, cond, ◌↔◌, ◌≡◌, refl, length}
use mathlib.Core.List.{List, [], ◌∷◌, map}
use Rattle.std.specs.Prelude.{Option, None, Some}
use Rattle.std.proofs.Common.{sym, ap, ◌∙◌}
use Rattle.slices.specs.Bytes.{AllBytes}
use Rattle.tlv.specs.Layout.{Record, layout, layouts}
use Rattle.identifier.specs.Texts.{less}
use Rattle.identifier.specs.Identity.{Identity}
use Rattle.current_version.specs.Current.{Role, version, deletion, other, unreadable, role, Version, version_by, version_of, filtered, better, best, is_deleted, is_live, current, answer_of, answer_in, is_name, lookup}
use Rattle.current_version.specs.Best.{no_version, same_version, ulid_of, best_same}
use Rattle.current_version.specs.Packs.{standing, lookup_layouts, Readable, all_readable, ReadablePack, readable_pack, pack_readable, SameAnswer, unplaced, forget}

-- ---- the same said of a pack's bytes

module _ (limit : ℕ) (s : List ℕ) where
  pub readable_exactly : AllBytes s → ReadablePack limit s ↔ ((rs : List Record) × Readable limit rs × (layouts rs ≡ s))
  readable_exactly bytes = (pack_readable limit s bytes, λ a. readable_pack limit s a.0 a.1 a.2)

-- ---- the records, told without their places

forget_better : (a b : Option Version) → forget (better a b) ≡ better (forget a) (forget b)
unfolding better
forget_better None b = refl
forget_better (Some v) None = refl
forget_better (Some v) (Some w) = go (less (ulid_of v) (ulid_of w))
  where
    go : (t : Bool) → forget (cond t (Some w) (Some v)) ≡ cond t (forget (Some w)) (forget (Some v))
    go true = refl
    go false = refl

forget_filtered : (test : Identity → Bool) (at : ℕ) (value : List ℕ) (r : Role)
    → forget (filtered test (version_by at value r)) ≡ filtered test (version_by 0 value r)
unfolding filtered
forget_filtered test at value (version i f) = go (test i)
  where
    told : ℕ → Option Version
    told n = version_by n value (version i f)

    go : (t : Bool) → forget (cond t (told at) None) ≡ cond t (told 0) None
    go true = refl
    go false = refl
forget_filtered test at value (deletion i) = refl
forget_filtered test at value other = refl
forget_filtered test at value (unreadable n) = refl

forget_best : (test : Identity → Bool) (limit at : ℕ) (rs : List Record) → forget (best test (standing limit at rs)) ≡ best test (map (unplaced limit) rs)
unfolding best standing version_of
forget_best test limit at [] = refl
forget_best test limit at (r ∷ rs) =
    forget_better (filtered test (version_by at r.value (role limit r.tag r.value))) (best test (standing limit (at + length (layout r)) rs))
    ∙ rw (forget_filtered test at r.value (role limit r.tag r.value), forget_best test limit (at + length (layout r)) rs)

deleted_unplaced : (limit at : ℕ) (rs : List Record) (i : Identity) → is_deleted (standing limit at rs) i ≡ is_deleted (map (unplaced limit) rs) i
unfolding is_deleted standing
deleted_unplaced limit at [] i = refl
deleted_unplaced limit at (r ∷ rs) i = rw (deleted_unplaced limit (at + length (layout r)) rs i)

forget_current : (limit at : ℕ) (rs : List Record) (bucket object : List ℕ)
    → forget (current (standing limit at rs) bucket object) ≡ current (map (unplaced limit) rs) bucket object
unfolding current is_live
forget_current limit at rs bucket object =
    ap forget (best_same (is_live (standing limit at rs) bucket object) (is_live (map (unplaced limit) rs) bucket object)
    (standing limit at rs) (λ p v m e. rw (deleted_unplaced limit at rs v.identifier)))
    ∙ forget_best (is_live (map (unplaced limit) rs) bucket object) limit at rs

same_forgotten : (a b : Option Version) → forget a ≡ forget b → SameAnswer (answer_of a) (answer_of b)
same_forgotten None None e = tt
same_forgotten None (Some w) e = no_version e
same_forgotten (Some v) None e = no_version (sym e)
same_forgotten (Some v) (Some w) e =
    let h = same_version e in
    record {
      identifier = cc (ap (λ (x : Version). x.identifier) h);
      delete_flag = cc (ap (λ (x : Version). x.delete_flag) h);
      value = cc (ap (λ (x : Version). x.value) h);
    }

-- so packs answer alike where their records do
pub same_answers : (limit : ℕ) (rs ts : List Record) (bucket object : List ℕ) → Readable limit rs → Readable limit ts → is_name bucket object ≡ true
    → current (map (unplaced limit) rs) bucket object ≡ current (map (unplaced limit) ts) bucket object
    → SameAnswer (lookup limit (layouts rs) bucket object) (lookup limit (layouts ts) bucket object)
unfolding answer_in
same_answers limit rs ts bucket object a b name e =
    rw (
      lookup_layouts limit rs bucket object a.fit a.within name,
      lookup_layouts limit ts bucket object b.fit
          b.within name,
      all_readable limit 0 rs a.all_read,
      all_readable limit 0 ts b.all_read,
    )
    (same_forgotten (current (standing limit 0 rs) bucket object) (current (standing limit 0 ts) bucket object)
    (forget_current limit 0 rs bucket object ∙ e ∙ sym (forget_current limit 0 ts bucket object)))
