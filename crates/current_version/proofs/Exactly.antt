-- The current version, said without a computation: the record is there and is live, no live one has a greater ULID, and none before it has the same identifier.
use Rattle.std.specs.Prelude.{ℕ, Bool, cond, ◌↔◌, ◌≡◌}
use Rattle.std.proofs.Math.Bool.{true, false}
use Rattle.std.proofs.Common.{subst, ◌∙◌}
use mathlib.Core.List.Memᴰ
use mathlib.Core.List.{List, ◌∷◌, Memᴰ}
use Rattle.std.proofs.Math.Logic.{inl, inr, ⊎_elim}
use Rattle.std.specs.Prelude.{Option, None, Some}
use Rattle.std.proofs.Math.Path.{refl, sym, ap}
use Rattle.slices.specs.Logic.{either, clash}
use Rattle.pack.specs.Reading.{Ending, whole, refused, reading}
use Rattle.identifier.specs.Texts.{less}
use Rattle.identifier.specs.Order.{less_irreflexive}
use Rattle.identifier.specs.Identity.{Identity}
use Rattle.current_version.specs.Current.{Placed, Version, is_live, current, Answer, nothing, found, refused_at, alone, readability, unless_refused, answer_of, answer_in, is_name, lookup}
use Rattle.current_version.specs.Best.{ulid_of, best_greatest}
use Rattle.current_version.proofs.Best.{best_none, best_found, found_best, none_best}
use Rattle.current_version.specs.Exactly.{Live, IsCurrent, same_name, live_passes, passes_live, Ends, readability_ends, ends_readability, ps, Exactly}
    -- ---- the definition finds exactly that version

module _ (ps : List Placed) (bucket object : List ℕ) where
  pub current_is : (v : Version) → current ps bucket object ≡ Some v → IsCurrent ps bucket object v
  unfolding current
  current_is v e =
      let c = best_found (is_live ps bucket object) ps v e in
      let l = passes_live ps bucket object c.at v c.offers in
      record {
        front = c.front;
        at = c.at;
        back = c.back;
        cut = c.cut;
        live = l;
        greatest = λ p w m k. best_greatest (is_live ps bucket object) c p w m (live_passes ps bucket object p w k);
        earliest = λ p w m t same.
            clash
            (c.earlier p w m
            (record { is = t; test_passed = ap (is_live ps bucket object) same ∙ c.offers.test_passed }))
            (ap (λ (i : Identity). less i.ulid (ulid_of v)) same ∙ less_irreflexive (ulid_of v));
      }

  pub is_current : (v : Version) → IsCurrent ps bucket object v → current ps bucket object ≡ Some v
  unfolding current
  is_current v c =
      found_best (is_live ps bucket object)
      (record {
        front = c.front;
        at = c.at;
        back = c.back;
        cut = c.cut;
        offers = live_passes ps bucket object c.at v c.live;
        earlier = λ p w m h. smaller p w m (passes_live ps bucket object p w h);
        later = λ p w m h. c.greatest p w (rw c.cut (Memᴰ.append_right c.front (Memᴰ.tail m))) (passes_live ps bucket object p w h);
      })
    where
      smaller : (p : Placed) (w : Version) → Memᴰ p c.front → Live ps bucket object p w → less (ulid_of w) (ulid_of v) ≡ true
      smaller p w m l =
          ⊎_elim (λ t. t)
          (λ t.
          let same : w.identifier ≡ v.identifier =
          same_name w.identifier v.identifier (l.in_bucket ∙ sym c.live.in_bucket) (l.is_object_lem ∙ sym c.live.is_object_lem) t
          (c.greatest p w (rw c.cut (Memᴰ.append_left (c.at ∷ c.back) m)) l) in
          absurd (c.earliest p w m l.tells same))
          (either (less (ulid_of w) (ulid_of v)))

  pub current_exactly : (v : Version) → current ps bucket object ≡ Some v ↔ IsCurrent ps bucket object v
  current_exactly v = (current_is v, is_current v)

  -- and none exactly where no record is live
  pub none_exactly : current ps bucket object ≡ None ↔ ((p : Placed) (v : Version) → Memᴰ p ps → Live ps bucket object p v → ⊥)
  unfolding current
  none_exactly = (
    λ e p v m l. best_none (is_live ps bucket object) ps e p v m (live_passes ps bucket object p v l),
    λ h. none_best (is_live ps bucket object) ps (λ p v m o. h p v m (passes_live ps bucket object p v o)),
  )

-- ---- the lookup: every answer is given exactly when document 01 says so

module _ (limit : ℕ) (s bucket object : List ℕ) where
  lookup_is : Exactly limit s bucket object (lookup limit s bucket object)
  unfolding lookup answer_in
  lookup_is = go (is_name bucket object) refl (reading limit s).ending refl (readability (ps limit s bucket object)) (readability_ends (ps limit s bucket object)) (current (ps limit s bucket object) bucket object) refl
    where
      go : (t : Bool) → is_name bucket object ≡ t → (e : Ending) → (reading limit s).ending ≡ e → (f : Ending) → Ends (ps limit s bucket object) f
          → (c : Option Version) → current (ps limit s bucket object) bucket object ≡ c → Exactly limit s bucket object (cond t (unless_refused e (unless_refused f (answer_of c))) (alone 20))
      go true n whole a whole r None c = (record { name = n; accepted = a; readable = r }, (none_exactly (ps limit s bucket object) bucket object).0 c)
      go true n whole a whole r (Some v) c = (record { name = n; accepted = a; readable = r }, current_is (ps limit s bucket object) bucket object v c)
      go true n whole a (refused m place) r d c = (n, inr (a, r))
      go true n (refused m place) a f r d c = (n, inl a)
      go false n e a f r d c = (n, refl)

  is_lookup : (a : Answer) → Exactly limit s bucket object a → lookup limit s bucket object ≡ a
  unfolding lookup answer_in
  is_lookup (alone n) h = rw (h.0, h.1)
  is_lookup (refused_at n place) h = rw h.0 (⊎_elim (λ e. rw e) (λ e. rw (e.0, ends_readability (ps limit s bucket object) (refused n place) e.1)) h.1)
  is_lookup nothing h = rw (h.0.name, h.0.accepted, ends_readability (ps limit s bucket object) whole h.0.readable, (none_exactly (ps limit s bucket object) bucket object).1 h.1)
  is_lookup (found v) h = rw (h.0.name, h.0.accepted, ends_readability (ps limit s bucket object) whole h.0.readable, is_current (ps limit s bucket object) bucket object v h.1)

  pub lookup_exactly : (a : Answer) → lookup limit s bucket object ≡ a ↔ Exactly limit s bucket object a
  lookup_exactly a = (λ e. subst (Exactly limit s bucket object) e lookup_is, is_lookup a)
