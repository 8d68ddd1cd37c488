-- The best version of a list: by parts, by what the test says of the versions there, and where it stands.
use Rattle.std.specs.Prelude.{Bool, true, false, ◌⊎◌, ◌≡◌}
use mathlib.Core.List.Memᴰ
use mathlib.Core.List.{List, [], ◌∷◌, ◌++◌, Memᴰ}
use Rattle.std.proofs.Common.{inl, inr, sym, subst, ◌∙◌}
use Rattle.std.proofs.Math.Logic.{⊎_elim}
use Rattle.std.specs.Prelude.{Option, None, Some}
use Rattle.std.proofs.Math.Path.{refl, ap}
use Rattle.slices.specs.Logic.{either}
use Rattle.identifier.specs.Texts.{less}
use Rattle.identifier.specs.Order.{not_less_transitive}
use Rattle.identifier.specs.Identity.{Identity}
use Rattle.current_version.specs.Current.{Placed, Version, version_of, filtered, better, best}
use Rattle.current_version.specs.Best.{ulid_of, no_version, same_version, better_associative, Passes, filtered_some, some_filtered, Best, best_member, best_greatest}

-- ---- the best of a list

pub best_append : (test : Identity → Bool) (xs ys : List Placed) → best test (xs ++ ys) ≡ better (best test xs) (best test ys)
unfolding best better
best_append test [] ys = refl
best_append test (x ∷ xs) ys = rw (best_append test xs ys) (sym (better_associative (filtered test (version_of x)) (best test xs) (best test ys)))

-- the step of a loop that keeps the best so far: what the whole gives is what the rest gives from here
pub best_step : (test : Identity → Bool) (all sofar : Option Version) (p : Placed) (ps : List Placed)
    → all ≡ better sofar (best test (p ∷ ps)) → all ≡ better (better sofar (filtered test (version_of p))) (best test ps)
unfolding best
best_step test all sofar p ps e = e ∙ sym (better_associative sofar (filtered test (version_of p)) (best test ps))

-- ---- where it stands, and how it compares

-- the later of two wins, and its ULID is greater, or the earlier wins, and the later's is not
better_two : (v w : Version) → ((less (ulid_of v) (ulid_of w) ≡ true) × (better (Some v) (Some w) ≡ Some w))
    ⊎ ((less (ulid_of v) (ulid_of w) ≡ false) × (better (Some v) (Some w) ≡ Some v))
unfolding better
better_two v w = ⊎_elim (λ t. inl (t, rw t)) (λ t. inr (t, rw t)) (either (less (ulid_of v) (ulid_of w)))

module _ (test : Identity → Bool) where
  passed : (p : Placed) (v : Version) → Passes test (version_of p) v → filtered test (version_of p) ≡ Some v
  passed p v o = some_filtered test (version_of p) v o.is o.test_passed

  pub best_none : (ps : List Placed) → best test ps ≡ None → (p : Placed) (v : Version) → Memᴰ p ps → Passes test (version_of p) v → ⊥
  unfolding best better
  best_none [] e p v m o = absurd (Memᴰ.not-nil m)
  best_none (q ∷ ps) e p v m o = go (filtered test (version_of q)) refl (best test ps) refl e (λ h n. best_none ps h p v n o) (Memᴰ.cases_cons m)
    where
      go : (a : Option Version) → filtered test (version_of q) ≡ a → (b : Option Version) → best test ps ≡ b → better a b ≡ None
          → (best test ps ≡ None → Memᴰ p ps → ⊥) → (p ≡ q) ⊎ Memᴰ p ps → ⊥
      go None f b g e rest (inl h) = no_version (sym f ∙ ap (λ (x : Placed). filtered test (version_of x)) (sym h) ∙ passed p v o)
      go None f b g e rest (inr n) = rest (g ∙ e) n
      go (Some w) f None g e rest x = no_version (sym e)
      go (Some w) f (Some u) g e rest x = ⊎_elim (λ t. no_version (sym e ∙ t.1)) (λ t. no_version (sym e ∙ t.1)) (better_two w u)

  -- a record in front that offers something smaller changes nothing
  best_behind : (q : Placed) {ps : List Placed} {v : Version}
      → ((w : Version) → Passes test (version_of q) w → less (ulid_of w) (ulid_of v) ≡ true) → Best test ps v → Best test (q ∷ ps) v
  best_behind q smaller c =
      record {
        front = q ∷ c.front;
        at = c.at;
        back = c.back;
        cut = rw c.cut;
        offers = c.offers;
        earlier = λ p w m h. ⊎_elim (λ e. smaller w (subst (λ x. Passes test (version_of x) w) e h)) (λ n. c.earlier p w n h) (Memᴰ.cases_cons m);
        later = c.later;
      }

  pub best_found : (ps : List Placed) (v : Version) → best test ps ≡ Some v → Best test ps v
  unfolding best better
  best_found [] v e = no_version e
  best_found (q ∷ ps) v e = go (filtered test (version_of q)) refl (best test ps) refl e (λ w h. best_found ps w h)
    where
      first : Passes test (version_of q) v
          → ((p : Placed) (w : Version) → Memᴰ p ps → Passes test (version_of p) w → less (ulid_of v) (ulid_of w) ≡ false) → Best test (q ∷ ps) v
      first o greatest =
          record {
            front = [];
            at = q;
            back = ps;
            cut = refl;
            offers = o;
            earlier = λ p w m h. absurd (Memᴰ.not-nil m);
            later = greatest;
          }

      go : (a : Option Version) → filtered test (version_of q) ≡ a → (b : Option Version) → best test ps ≡ b → better a b ≡ Some v
          → ((w : Version) → best test ps ≡ Some w → Best test ps w) → Best test (q ∷ ps) v
      go None f b g e rest = best_behind q (λ w h. no_version (sym f ∙ passed q w h)) (rest v (g ∙ e))
      go (Some w) f None g e rest = first (filtered_some test (version_of q) v (f ∙ e)) (λ p u m h. absurd (best_none ps g p u m h))
      go (Some w) f (Some u) g e rest =
          ⊎_elim
          (λ t.
          let is : u ≡ v = same_version (sym t.1 ∙ e) in
          best_behind q (λ x h. rw (same_version (sym (passed q x h) ∙ f), ← is) t.0) (rest v (g ∙ sym t.1 ∙ e)))
          (λ t.
          let is : w ≡ v = same_version (sym t.1 ∙ e) in
          first (filtered_some test (version_of q) v (f ∙ sym t.1 ∙ e))
          (λ p x m h. rw (← is) (not_less_transitive (ulid_of w) (ulid_of u) (ulid_of x) t.0 (best_greatest test (rest u g) p x m h))))
          (better_two w u)

  pub found_best : {ps : List Placed} {v : Version} → Best test ps v → best test ps ≡ Some v
  unfolding best better
  found_best {v} c =
      ap (best test) c.cut
      ∙ best_append test c.front (c.at ∷ c.back)
      ∙ rw (passed c.at v c.offers, after (best test c.back) refl) (ahead (best test c.front) refl)
    where
      after : (a : Option Version) → best test c.back ≡ a → better (Some v) (best test c.back) ≡ Some v
      after None q = rw q
      after (Some w) q =
          let d = best_found c.back w q in
          rw (q, c.later d.at w (best_member test d) d.offers)

      ahead : (a : Option Version) → best test c.front ≡ a → better (best test c.front) (Some v) ≡ Some v
      ahead None q = rw q
      ahead (Some w) q =
          let d = best_found c.front w q in
          rw (q, c.earlier d.at w (best_member test d) d.offers)

  -- none exactly where no version passes
  pub none_best : (ps : List Placed) → ((p : Placed) (v : Version) → Memᴰ p ps → Passes test (version_of p) v → ⊥) → best test ps ≡ None
  none_best ps h = go (best test ps) refl
    where
      go : (a : Option Version) → best test ps ≡ a → best test ps ≡ None
      go None e = e
      go (Some v) e =
          let c = best_found ps v e in
          absurd (h c.at v (best_member test c) c.offers)
